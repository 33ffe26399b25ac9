-- What the fields of a page out hold, and the row that its bytes read as: by the width of the number in a call. Names, the import and all texts
-- are leaves here, checked by their bytes. Assumes nothing: these are definitions.
use Rattle.std.specs.Prelude.{ℕ, Bool, ◌&&◌, ◌||◌, eqb, leb}
use Rattle.field.specs.Bytes.{Bytes, pick}
use Rattle.field.specs.Row.{Row, Inside, only_bytes, fields_after, read_by}

-- 10 to 12, a spread, arrays and their spreads, other expressions, calls, properties
abbrev pub nests : ℕ → Bool
nests t = (leb 0x10 t && leb t 0x12) || eqb t 0x53 || eqb t 0x76 || eqb t 0x77 || eqb t 0x79 || (leb 0x90 t && leb t 0x96)

unfoldable pub held : ℕ → ℕ → Inside
held width t = pick (eqb t 0x90) (fields_after width) (pick (nests t) (fields_after 0) only_bytes)

unfoldable pub read_out : ℕ → Bytes → Row
read_out width b = read_by (held width) b
