-- jsx_text_to_str and normalize_lit_str. Assumes nothing: these are definitions.
use Rattle.std.specs.Prelude.{Bool, true, false, ◌||◌, List, [], ◌∷◌, ◌++◌, map}
use Rattle.field.specs.Bytes.{Bytes, pick, null?}
use Rattle.text.specs.Escape.{escape_html}
use Rattle.text.specs.Lines.{lines}
use Rattle.text.specs.Trim.{trim_start, trim_end}

unfoldable pub trimmed : Bool → Bool → Bytes → Bytes
trimmed front back l = let t = pick front (trim_start l) l in pick back (trim_end t) t

abbrev pub some_line : List Bytes → Bool
some_line [] = false
some_line (l ∷ ls) = true

-- 01, Text run: lines after the first lose their front; all but the last lose their back, the last too when asked
unfoldable pub trimmed_lines : Bool → Bool → List Bytes → List Bytes
trimmed_lines front last [] = []
trimmed_lines front last (l ∷ ls) = trimmed front (some_line ls || last) l ∷ trimmed_lines true last ls

-- empty lines go
unfoldable pub kept : List Bytes → List Bytes
kept [] = []
kept (l ∷ ls) = pick (null? l) (kept ls) (l ∷ kept ls)

-- kept lines join with one space
unfoldable pub spaced : List Bytes → Bytes
spaced [] = []
spaced (l ∷ ls) = 32 ∷ (l ++ spaced ls)

unfoldable pub joined : List Bytes → Bytes
joined [] = []
joined (l ∷ ls) = l ++ spaced ls

unfoldable pub escape_if : Bool → Bytes → Bytes
escape_if escape t = pick escape (escape_html t) t

-- the text of a JSX text child, escaped as a whole where asked
unfoldable pub jsx_text_to_str : Bytes → Bool → Bool → Bytes
jsx_text_to_str t escape last = escape_if escape (joined (kept (trimmed_lines false last (lines t))))

-- 01, Text run: an attribute string of a call: every line loses its front, all lines are kept and join with one space
unfoldable pub normalize_lit_str : Bytes → Bytes
normalize_lit_str t = joined (map trim_start (lines t))
