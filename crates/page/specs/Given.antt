-- Options as they are written: what each of 02, 03 and 04 holds, where it is given, and whether a 05 is; and how long a body may be. Assumes
-- nothing: these are definitions.
use Rattle.std.specs.Prelude.{ℕ, Bool, true, false, not, List, [], T, Option, Some, None}
use Rattle.field.specs.Bytes.{Bytes, ascii, null?}
use Rattle.field.specs.Row.{Row, end, field, long_body}
use Rattle.page.specs.Page.{Options}
use Rattle.page.specs.Encode.{texts_row}
use Rattle.page.specs.Limits.{Utf8Ok, TextsOk}

-- no body is too long for a length of two bytes
abbrev pub ShortBodies : Row → Type 0
ShortBodies x = T (not (long_body x))

-- what each of 02, 03 and 04 holds, where it is given, and whether a 05 is
pub record Given : Type 0 where
  pub elements : Option (List Bytes)
  pub attributes : Option (List Bytes)
  pub source : Option Bytes
  pub sums : Bool

unfoldable pub given_list : ℕ → Option (List Bytes) → Row → Row
given_list t None r = r
given_list t (Some xs) r = field t [] (texts_row 0x20 xs) r

unfoldable pub given_sums : Bool → Row
given_sums false = end
given_sums true = field 0x05 [] end end

unfoldable pub given_source : Option Bytes → Row → Row
given_source None r = r
given_source (Some b) r = field 0x04 b end r

unfoldable pub given_row : Given → Row
given_row g = given_list 0x02 g.elements (given_list 0x03 g.attributes (given_source g.source (given_sums g.sums)))

unfoldable pub ListOk : Option (List Bytes) → Type 0
ListOk None = Unit {0}
ListOk (Some xs) = TextsOk xs

unfoldable pub SourceOk : Option Bytes → Type 0
SourceOk None = Unit {0}
SourceOk (Some b) = Utf8Ok b × T (not (null? b))

unfoldable pub GivenOk : Given → Type 0
GivenOk g = ListOk g.elements × ListOk g.attributes × SourceOk g.source

-- an absent list is empty, and an absent source 01's default
unfoldable pub or_nothing : Option (List Bytes) → List Bytes
or_nothing None = []
or_nothing (Some xs) = xs

unfoldable pub or_react : Option Bytes → Bytes
or_react None = ascii "react"
or_react (Some b) = b

unfoldable pub options_of : Given → Options
options_of g = record { skip_serialize = or_nothing g.elements; skip_prop_serialize = or_nothing g.attributes; import_source = or_react g.source }
