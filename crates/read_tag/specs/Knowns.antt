-- What is promised of what braces hold: by `known_of`, which reads it, and by the field that it becomes. Main definition: `Holds`.
-- Assumes nothing: these are definitions.
use Rattle.std.specs.Prelude.{ℕ, ◌+◌, ◌^◌, ◌≤◌, ◌<◌, ◌≡◌, Bool, true, false, ◌&&◌, ◌||◌, ◌++◌, leb, length, take, Option, None, Some}
use Rattle.field.specs.Bytes.{Bytes}
use Rattle.field.specs.Row.{end, long_body}
use Rattle.field.specs.Put.{Wrote}
use Rattle.page.specs.Encode.{expr_row}
use Rattle.grammar.specs.Signs.{choose, some_byte, digit}
use Rattle.grammar.specs.Known.{Known, whole, minus_whole, decimal, minus_decimal, value_from, is_whole, is_decimal, before_point, after_point, number_of, unsigned, has_minus, digit_or_point, of_a_number, not_read, rest_of, or_else}
use Rattle.grammar.specs.Syntax.{known_expr}
use Rattle.tag_tree.specs.PageTag.{page_expr}
use Rattle.tag_tree.specs.TagAnswer.{known_in_range, shallow}
use Rattle.read_tag.specs.Runs.{Ran}
use Rattle.read_tag.specs.Progress.{expr_bytes}
use Rattle.read_tag.specs.declared.known.Held.{Held}
use Rattle.read_tag.specs.declared.known.Digits.{Digits}
use Rattle.read_tag.specs.declared.known.Numeral.{Numeral}
use Rattle.read_tag.specs.declared.known.Numeral.TheVariants.{Whole, Scaled}

-- ---- numbers

-- a value as the code counts it: exact up to the largest whole number, and else over it
pub record Capped (x v : ℕ) : Type 0 where
  pub small : v ≤ 9_007_199_254_740_991 → v ≡ x
  pub large : 9_007_199_254_740_991 < v → 9_007_199_254_740_991 < x
  pub low : v < 2 ^ 60

-- the digits in front, behind those that have the value n
pub record Counted (s : Bytes) (n : ℕ) (r : Digits) : Type 0 where
  pub ran : Ran digit s 0 r.count
  pub value : Capped (value_from n (take r.count s)) r.value

unfoldable pub Numbered : Bytes → Option Numeral → Type 0
Numbered s None = (is_whole s ≡ false) × (is_decimal s ≡ false)
Numbered s (Some (Whole v)) = (is_whole s ≡ true) × Capped (value_from 0 s) v
Numbered s (Some (Scaled v p)) = (is_whole s ≡ false) × (is_decimal s ≡ true) × Capped (value_from 0 (before_point s ++ after_point s)) v × (p ≡ length (after_point s))

unfoldable pub signed_whole : Bool → ℕ → Known
signed_whole true n = minus_whole n
signed_whole false n = whole n

unfoldable pub signed_decimal : Bool → ℕ → ℕ → Known
signed_decimal true n p = minus_decimal n p
signed_decimal false n p = decimal n p

unfoldable pub whole_tag : Bool → ℕ
whole_tag true = 0x75
whole_tag false = 0x71

unfoldable pub decimal_tag : Bool → ℕ
decimal_tag true = 0x7b
decimal_tag false = 0x7a

-- ---- the rest

-- no 79
unfoldable pub barred : Bytes → Bool
barred s = some_byte not_read s || (digit_or_point (unsigned s) && some_byte of_a_number s)

-- what is no string
unfoldable pub unquoted : Bytes → Option Known
unquoted s = or_else (choose (has_minus s) (number_of (unsigned s) minus_whole minus_decimal) (number_of s whole decimal)) (rest_of s)

-- ---- answers

-- a field can hold s, and the place behind it, from `at` on, does not wrap
abbrev pub Short : Bytes → ℕ → Type 0
Short s at = (length s ≤ 32768) × (at + length s < 2 ^ 63)

-- of a field up to `at` that holds no others and no number
abbrev pub leaf_at : ℕ → Held
leaf_at at = record { fits = true; at = at; deep = 0 }

-- of k: whether its number is within the limit, the place behind its field, which is written if so, and how deep it is
pub record Holding (k : Known) (o : Bytes) (at : ℕ) (o' : Bytes) (r : Held) : Type 0 where
  pub in_limit : r.fits ≡ known_in_range k
  pub place : r.at ≡ at + length (expr_bytes (known_expr k))
  pub wrote : r.fits ≡ true → Wrote o at (expr_bytes (known_expr k)) o' r.at
  pub depth : (d : ℕ) → shallow d (expr_row (page_expr (known_expr k)) end) ≡ leb (d + r.deep) 48
  pub short : long_body (expr_row (page_expr (known_expr k)) end) ≡ false
  pub size : length o' ≡ length o

-- read where the grammar reads it, and only there
unfoldable pub Holds : Option Known → Bytes → ℕ → Bytes → Option Held → Type 0
Holds None o at o' None = length o' ≡ length o
Holds None o at o' (Some r) = ⊥
Holds (Some k) o at o' None = ⊥
Holds (Some k) o at o' (Some r) = Holding k o at o' r

-- of a number, whatever it is that was counted
unfoldable pub HeldWhole : Bool → ℕ → Bytes → ℕ → Bytes → Held → Type 0
HeldWhole minus v o at o' r = (x : ℕ) → Capped x v → Holding (signed_whole minus x) o at o' r

unfoldable pub HeldDecimal : Bool → ℕ → ℕ → Bytes → ℕ → Bytes → Held → Type 0
HeldDecimal minus v p o at o' r = (x : ℕ) → Capped x v → Holding (signed_decimal minus x p) o at o' r
