-- Laws of the test by length and first letter.
-- Assumes nothing.
use mathlib.Core.Path.{◌≡◌, refl, sym, ◌∙◌}
use mathlib.Core.Bool.{Bool, true, false, false≢true}
use mathlib.Core.List.{List, [], ◌∷◌}
use Prim.Native.Nat.{ℕ, zero, suc, ◌+◌, ◌≤◌, ◌<◌, ◌/◌, ◌%◌, ◌^◌}
use native.Mathlib.Nat.{zero-div}
use native.Mathlib.Omega.{arith}
use lib.Dec.{eqb, ltb}
use borrow.Author.Tests.{ltb-true, ltb-false}
use lib.ListN.{length, get_or, get_or-eq_default}
use Rattle.field.specs.Bytes.{Bytes, pick}
use Rattle.names.specs.Names.{capital, small_letter, small_letters}
use Rattle.names.specs.Table.{read_as, fits_in}
use Rattle.names.proofs.CompareLaws.{length_small}

pub fits_none : (fs : List ℕ) (n : Bytes) → length n ≡ 0 → fits_in fs n ≡ false
unfolding fits_in
fits_none fs [] h = refl
fits_none fs (c ∷ cs) h = absurd (omega arith)

pub fits_long : (fs : List ℕ) (n : Bytes) → length fs ≤ length n → fits_in fs n ≡ false
unfolding fits_in
fits_long fs [] h = refl
fits_long fs (c ∷ cs) h = rw (get_or-eq_default fs 0 h, zero-div (2 ^ (c % 32)))

pub fits_bit : (fs : List ℕ) (n : Bytes) → (length n ≡ 0 → ⊥) → eqb (get_or fs (length n) 0 / 2 ^ (get_or n 0 0 % 32) % 2) 1 ≡ fits_in fs n
unfolding fits_in
fits_bit fs [] h = absurd (h refl)
fits_bit fs (c ∷ cs) h = refl

-- a name that fits is not empty, and the table has its length
pub fits_length : (fs : List ℕ) (n : Bytes) → fits_in fs n ≡ true → (0 < length n) × (length n < length fs)
fits_length fs n h = (above (length n) refl, within (ltb (length n) (length fs)) refl)
  where
    above : (k : ℕ) → length n ≡ k → 0 < length n
    above zero e = absurd (false≢true (sym (fits_none fs n e) ∙ h))
    above (suc k) e = omega arith

    within : (b : Bool) → ltb (length n) (length fs) ≡ b → length n < length fs
    within true e = ltb-true (length n) (length fs) e
    within false e = absurd (false≢true (sym (fits_long fs n (ltb-false (length n) (length fs) e)) ∙ h))

-- a capital and its small letter are one letter to the test
pub small_modulo : (c : ℕ) → small_letter c % 32 ≡ c % 32
unfolding small_letter
small_modulo c = on (capital c)
  where
    on : (b : Bool) → pick b (c + 32) c % 32 ≡ c % 32
    on true = omega arith
    on false = refl

pub fits_read_as : (fs : List ℕ) (s : Bool) (n : Bytes) → fits_in fs (read_as s n) ≡ fits_in fs n
unfolding fits_in small_letters
fits_read_as fs false n = refl
fits_read_as fs true [] = refl
fits_read_as fs true (c ∷ cs) = rw (length_small cs, small_modulo c)
