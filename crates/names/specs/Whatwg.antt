-- The lists of WHATWG's HTML standard that 000's two tests were made after. No copy of the standard was at hand: the lists are from
-- this project's notes of 2026. Assumes nothing: these are definitions.
use Rattle.std.specs.Prelude.{Bool, List, [], ◌∷◌}
use Rattle.field.specs.Bytes.{Bytes, ascii, among}
use Rattle.names.specs.Names.{small_letters}

-- HTML, Elements: the void elements
unfoldable pub whatwg_void : List Bytes
whatwg_void =
    ascii "area" ∷ ascii "base" ∷ ascii "br" ∷ ascii "col" ∷ ascii "embed" ∷ ascii "hr" ∷ ascii "img" ∷
    ascii "input" ∷ ascii "link" ∷ ascii "meta" ∷ ascii "source" ∷ ascii "track" ∷ ascii "wbr" ∷ []

-- HTML, The HTML syntax: the names of elements are matched without regard to ASCII case, so `bR` is void too
unfoldable pub whatwg_is_void : Bytes → Bool
whatwg_is_void n = among (small_letters n) whatwg_void

-- HTML, the index of attributes: those whose value is "boolean attribute"
unfoldable pub whatwg_boolean : List Bytes
whatwg_boolean =
    ascii "allowfullscreen" ∷ ascii "alpha" ∷ ascii "async" ∷ ascii "autofocus" ∷ ascii "autoplay" ∷ ascii "checked" ∷
    ascii "controls" ∷ ascii "default" ∷ ascii "defer" ∷ ascii "disabled" ∷ ascii "formnovalidate" ∷ ascii "inert" ∷
    ascii "ismap" ∷ ascii "itemscope" ∷ ascii "loop" ∷ ascii "multiple" ∷ ascii "muted" ∷ ascii "nomodule" ∷
    ascii "novalidate" ∷ ascii "open" ∷ ascii "playsinline" ∷ ascii "readonly" ∷ ascii "required" ∷ ascii "reversed" ∷
    ascii "selected" ∷ ascii "shadowrootclonable" ∷ ascii "shadowrootcustomelementregistry" ∷
    ascii "shadowrootdelegatesfocus" ∷ ascii "shadowrootserializable" ∷ []

-- those among them that 000 does not list
unfoldable pub newer_boolean : List Bytes
newer_boolean =
    ascii "alpha" ∷ ascii "shadowrootclonable" ∷ ascii "shadowrootcustomelementregistry" ∷
    ascii "shadowrootdelegatesfocus" ∷ ascii "shadowrootserializable" ∷ []
