-- A body with the numbers of its templates and of their calls raised, or lowered again: the row is read, the number in front of each record and
-- of each call is changed, and the row is written. Assumes nothing: these are definitions.
use Rattle.std.specs.Prelude.{ℕ, ◌+◌, ◌-◌, ◌%◌, ◌&&◌, [], ◌++◌, leb, eqb, length, drop}
use Rattle.field.specs.Bytes.{Bytes, pick}
use Rattle.field.specs.Number.{big_endian}
use Rattle.field.specs.Row.{Row, end, loose, field, bytes, read}
use Rattle.outs.specs.Held.{read_out}
use Rattle.catalogue.specs.Page.{Body, Request, Format}
use Rattle.catalogue.specs.Catalogue.{four}

-- what becomes of a front, by the field's tag
abbrev pub Change : Type 0
Change = ℕ → Bytes → Bytes

-- of each field, at any depth
unfoldable pub changed : Change → Row → Row
changed m end = end
changed m (loose b) = loose b
changed m (field t f i r) = field t (m t f) (changed m i) (changed m r)

-- a number of four bytes goes from 0 up to this, and begins again
abbrev pub full_turn : ℕ
full_turn = 4294967296

-- the number in front of a field of this tag, n further; what lies behind the four bytes stays, the count and the kinds of an 84 too
unfoldable pub raised : (tag n : ℕ) → Change
raised tag n t f = pick (eqb t tag && leb 4 (length f)) (big_endian 4 ((four f + n) % full_turn) [] ++ drop 4 f) f

-- as many further as bring a number that was raised by n back
unfoldable pub opposite : ℕ → ℕ
opposite n = full_turn - n % full_turn

-- A13: the number of each 84 of the templates, and of each 90 of the page out at any depth, n further
unfoldable pub up : ℕ → Body → Body
up n x = record { templates = bytes (changed (raised 0x84 n) (read x.templates)); page_out = bytes (changed (raised 0x90 n) (read_out 4 x.page_out)) }

unfoldable pub down : ℕ → Body → Body
down n x = up (opposite n) x

-- a catalogue of such bodies, whatever is asked of them and however their templates are counted
abbrev pub by_rows : Request → (judge forms : Body → ℕ) → Format
by_rows q judge forms = record { request = q; judge = judge; forms = forms; up = up; down = down }
