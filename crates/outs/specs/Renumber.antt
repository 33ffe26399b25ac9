-- A page out with the numbers of its calls in another width (02, A7): what is written, and what is found on the way. Assumes nothing: these are
-- definitions.
use Rattle.std.specs.Prelude.{ℕ, ◌≡◌, Bool, false, ◌&&◌, ◌||◌, [], eqb, ltb, length}
use Rattle.field.specs.Bytes.{Bytes, pick}
use Rattle.field.specs.Number.{number_of, big_endian}
use Rattle.field.specs.Row.{Row, end, loose, field, bytes, long_body}
use Rattle.field.specs.Put.{put}

-- the number of a call in so many bytes; every other front as it is
abbrev pub renumbered_front : ℕ → ℕ → Bytes → Bytes
renumbered_front width t f = pick (eqb t 0x90) (big_endian width (number_of f) []) f

unfoldable pub renumbered : ℕ → Row → Row
renumbered width end = end
renumbered width (loose b) = loose b
renumbered width (field t f i r) = field t (renumbered_front width t f) (renumbered width i) (renumbered width r)

-- some call's number is more than two bytes can say
unfoldable pub has_wide : Row → Bool
has_wide end = false
has_wide (loose b) = false
has_wide (field t f i r) = (eqb t 0x90 && ltb 65535 (number_of f)) || (has_wide i || has_wide r)

-- what is left in a lent buffer o, and what is answered; where the bytes are more than the buffer has, what fits of them
pub record Renumbers (width : ℕ) (x : Row) (o o' : Bytes) (n : ℕ) (long wide : Bool) : Type 0 where
  pub out_is : o' ≡ put o 0 (bytes (renumbered width x))
  pub bytes_is : n ≡ length (bytes (renumbered width x))
  pub long_is : long ≡ long_body (renumbered width x)
  pub wide_is : wide ≡ has_wide x
