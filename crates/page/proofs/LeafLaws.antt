-- What the code learns of numbers and of names. Main statements: `number_eight`, `name_first`, `hyphen_none`. Assumes nothing.
use mathlib.Core.Path.{◌≡◌, refl, sym, ap, ◌∙◌}
use mathlib.Core.Bool.{Bool, false, not, ◌&&◌}
use Prim.Native.Nat.{ℕ, zero, suc, ◌+◌, ◌*◌, ◌^◌, ◌≤◌, ◌<◌}
use native.Mathlib.Omega.{arith}
use native.Mathlib.Numerals.{add-one}
use native.Mathlib.Nat.{pow-suc, pow-le-pow_right}
use mathlib.Core.List.{[], ◌∷◌}
use lib.ListN.{length, take, drop, get_or}
use lib.Seq.{take-suc, take_all}
use lib.Dec.{leb, eqb}
use Rattle.std.specs.List.{list_all}
use Rattle.field.specs.Bytes.{Bytes}
use Rattle.field.specs.Number.{number_from, number_of}
use Rattle.field.proofs.NumberLaws.{number_append}
use Rattle.page.specs.Check.{name_start, name_part, name_parts, no_hyphen, is_name}

-- ---- numbers

-- all at once
pub number_eight : (s : Bytes) → length s ≡ 8 → {r : ℕ} →
    r ≡ get_or s 0 0 * 72057594037927936 + get_or s 1 0 * 281474976710656 + get_or s 2 0 * 1099511627776 + get_or s 3 0 * 4294967296 + get_or s 4 0 * 16777216 + get_or s 5 0 * 65536 + get_or s 6 0 * 256 + get_or s 7 0 → r ≡ number_of s
unfolding number_from
number_eight [] l = absurd (omega arith)
number_eight (x0 ∷ []) l = absurd (omega arith)
number_eight (x0 ∷ x1 ∷ []) l = absurd (omega arith)
number_eight (x0 ∷ x1 ∷ x2 ∷ []) l = absurd (omega arith)
number_eight (x0 ∷ x1 ∷ x2 ∷ x3 ∷ []) l = absurd (omega arith)
number_eight (x0 ∷ x1 ∷ x2 ∷ x3 ∷ x4 ∷ []) l = absurd (omega arith)
number_eight (x0 ∷ x1 ∷ x2 ∷ x3 ∷ x4 ∷ x5 ∷ []) l = absurd (omega arith)
number_eight (x0 ∷ x1 ∷ x2 ∷ x3 ∷ x4 ∷ x5 ∷ x6 ∷ []) l = absurd (omega arith)
number_eight (x0 ∷ x1 ∷ x2 ∷ x3 ∷ x4 ∷ x5 ∷ x6 ∷ x7 ∷ []) l = λ e. omega (arith, e)
number_eight (x0 ∷ x1 ∷ x2 ∷ x3 ∷ x4 ∷ x5 ∷ x6 ∷ x7 ∷ x8 ∷ s) l = absurd (omega arith)

-- one by one, where there are fewer
pub number_start : 0 ≡ number_of []
unfolding number_from
number_start = refl

module _ (s : Bytes) (i n : ℕ) where
  pub number_next : i < length s → n ≡ number_of (take i s) → {r : ℕ} → r ≡ n * 256 + get_or s i 0 → r ≡ number_of (take (i + 1) s)
  unfolding number_from
  number_next h e {r} q =
      q ∙ (ap (λ (m : ℕ). m * 256 + get_or s i 0) e ∙ sym (ap number_of (ap (λ (k : ℕ). take k s) (add-one i) ∙ take-suc s i 0 h) ∙ number_append 0 (take i s) (get_or s i 0 ∷ [])))

  pub number_all : length s ≤ i → n ≡ number_of (take i s) → n ≡ number_of s
  number_all h e = e ∙ ap number_of (take_all i s h)

-- a number of i bytes has room for one more
module _ (i n : ℕ) (h : n < 256 ^ i) where
  pub number_room : i < 8 → n < 2 ^ 56
  number_room l = omega (arith, pow-le-pow_right {n = 256} (let z : 0 < 256 = omega arith in z) {i = i} {j = 7} (let z : i ≤ 7 = omega arith in z))

  pub number_grown : {r : ℕ} → r < 256 * (n + 1) → r < 256 ^ (i + 1)
  number_grown {r} l = rw (add-one i, pow-suc 256 i) (omega arith)

-- one byte, and 0 past the end
pub byte_at : (s : Bytes) (i : ℕ) → get_or s i 0 ≡ number_of (take 1 (drop i s))
unfolding number_from
byte_at [] zero = refl
byte_at [] (suc i) = refl
byte_at (c ∷ s) zero = omega arith
byte_at (c ∷ s) (suc i) = byte_at s i

-- ---- names

pub name_empty : (s : Bytes) → length s ≡ 0 → false ≡ is_name s
unfolding is_name
name_empty [] h = refl
name_empty (c ∷ cs) h = absurd (omega arith)

parts_all : (s : Bytes) → list_all (λ c. name_part c) s ≡ name_parts s
unfolding name_parts
parts_all [] = refl
parts_all (c ∷ s) = ap (λ (b : Bool). name_part c && b) (parts_all s)

pub name_first : (s : Bytes) (c : ℕ) (r : Bytes) → s ≡ c ∷ r → is_name s ≡ (leb (length s) 128 && (name_start c && list_all (λ c. name_part c) r))
unfolding is_name
name_first s c r e = ap is_name e ∙ rw (e, parts_all r)

pub hyphen_none : (s : Bytes) → list_all (λ c. not (eqb c 45)) s ≡ no_hyphen s
unfolding no_hyphen
hyphen_none [] = refl
hyphen_none (c ∷ s) = ap (λ (b : Bool). not (eqb c 45) && b) (hyphen_none s)
