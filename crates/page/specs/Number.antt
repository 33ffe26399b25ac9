-- Number literals: all that depends on how a number is held stands here. Assumes nothing: these are definitions.
use Rattle.std.specs.Prelude.{ℕ, Bool, ◌&&◌, ◌||◌, [], leb, eqb, take, drop}
use Rattle.field.specs.Bytes.{Bytes, pick}
use Rattle.field.specs.Number.{big_endian, number_of}
use Rattle.text.specs.Decimal.{decimal, shortest}

-- 01, 71: a whole number. 02, A2, 7A: digits, so many of them behind the point
pub data Number : Type 0 where
  whole : ℕ → Number
  scaled : (digits places : ℕ) → Number

-- ---- tags: of a number, and of a minus over it

unfoldable pub number_tag : Number → ℕ
number_tag (whole n) = 0x71
number_tag (scaled n p) = 0x7a

unfoldable pub minus_tag : Number → ℕ
minus_tag (whole n) = 0x75
minus_tag (scaled n p) = 0x7b

abbrev pub is_number : ℕ → Bool
is_number t = eqb t 0x71 || eqb t 0x7a

abbrev pub is_minus : ℕ → Bool
is_minus t = eqb t 0x75 || eqb t 0x7b

-- whether a byte of places follows the digits
abbrev pub has_places : ℕ → Bool
has_places t = eqb t 0x7a || eqb t 0x7b

-- ---- written

-- more places are refused; this bounds the text of every number
unfoldable pub at_most_15 : ℕ → ℕ
at_most_15 p = pick (leb p 15) p 15

-- as 000 writes it into a static string
unfoldable pub render : Number → Bytes
render (whole n) = decimal n
render (scaled n p) = shortest n (at_most_15 p)

-- ---- bodies

unfoldable pub number_bytes : Number → Bytes
number_bytes (whole n) = big_endian 8 n []
number_bytes (scaled n p) = big_endian 8 n (big_endian 1 p [])

-- by the tag; of a body that is too long, which is refused, the first bytes
unfoldable pub number_in : ℕ → Bytes → Number
number_in t b = pick (has_places t) (scaled (number_of (take 8 b)) (number_of (take 1 (drop 8 b)))) (whole (number_of (take 8 b)))

unfoldable pub number_length : ℕ → ℕ
number_length t = pick (has_places t) 9 8

-- 01, 71: at most 9,007,199,254,740,991. 02, A2: digits at most 999,999,999,999,999, places at most 15
unfoldable pub in_range : Number → Bool
in_range (whole n) = leb n 9_007_199_254_740_991
in_range (scaled n p) = leb n 999_999_999_999_999 && leb p 15
