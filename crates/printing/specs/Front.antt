-- The body of a field in its two parts: bytes, and the fields behind them. Assumes nothing: these are definitions.
use Rattle.std.specs.Prelude.{ℕ, Bool, ◌&&◌, ◌||◌, [], leb, eqb, length, take, drop}
use Rattle.field.specs.Bytes.{Bytes, pick}
use Rattle.field.specs.Row.{Inside, only_bytes, fields_after, counted, counted_front, inside}
use Rattle.field.specs.Front.{tag_of_front, body_of}

abbrev pub front_by : Inside → Bytes → Bytes
front_by only_bytes w = w
front_by (fields_after n) w = take n w
front_by (counted n) w = take (counted_front n w) w

abbrev pub inner_by : Inside → Bytes → Bytes
inner_by only_bytes w = []
inner_by (fields_after n) w = drop n w
inner_by (counted n) w = drop (counted_front n w) w

-- of a field by its tag and body
abbrev pub front_in : ℕ → Bytes → Bytes
front_in t w = front_by (inside t) w

abbrev pub inner_in : ℕ → Bytes → Bytes
inner_in t w = inner_by (inside t) w

-- of the field at the front of bytes
unfoldable pub front_of : Bytes → Bytes
front_of s = front_in (tag_of_front s) (body_of s)

unfoldable pub inner_of : Bytes → Bytes
inner_of s = inner_in (tag_of_front s) (body_of s)

abbrev pub at_most : ℕ → ℕ → ℕ
at_most k n = pick (leb k n) k n

-- the tags whose body is fields alone, as in `inside`
abbrev pub fields_alone : ℕ → Bool
fields_alone t =
    (leb 0x01 t && leb t 0x03) || (leb 0x10 t && leb t 0x12) || eqb t 0x30 || eqb t 0x31 || eqb t 0x41 || eqb t 0x42 || eqb t 0x50 || eqb t 0x52 || eqb t 0x53 || eqb t 0x61 || eqb t 0x76 || eqb t 0x77 || eqb t 0x79 || eqb t 0x82 || (leb 0x91 t && leb t 0x96)

-- how many bytes of a body are its front
abbrev pub front_length : Inside → Bytes → ℕ
front_length only_bytes w = length w
front_length (fields_after k) w = at_most k (length w)
front_length (counted k) w = at_most (counted_front k w) (length w)
