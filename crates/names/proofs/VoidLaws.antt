-- Laws of the void names: the test by length, first letter and last letter, and both answers at once.
-- Main statements: `ends_other`, `ends_within`, `ends_read_as`, `never_void`, `kind_is`; `void_by_kind`, `lowered_by_kind` and their contraries.
-- Assumes nothing.
use mathlib.Core.Path.{◌≡◌, refl, sym, ap, ap₂, ◌∙◌}
use mathlib.Core.Bool.{Bool, true, false, ◌&&◌, not, false≢true}
use mathlib.Core.List.{List, [], ◌∷◌}
use Prim.Native.Nat.{ℕ, zero, suc, ◌+◌, ◌-◌, ◌<◌, ◌/◌, ◌%◌, ◌^◌}
use native.Mathlib.Nat.{zero-div}
use native.Mathlib.Omega.{arith}
use lib.Dec.{eqb, ltb}
use borrow.Author.Tests.{ltb-true, ltb-false}
use lib.ListN.{length, get_or, get_or-eq_default}
use Rattle.std.specs.Prelude.{Option, Some, None}
use Rattle.field.specs.Bytes.{Bytes, pick}
use Rattle.names.specs.Names.{small_letter, small_letters, void_names, is_void_element}
use Rattle.names.specs.Table.{read_as, fits_ends, void_ends, void_kind}
use Rattle.names.specs.declared.elements.Void.{Void}
use Rattle.names.specs.declared.elements.Void.TheVariants.{AsWritten, InSmallLetters}
use Rattle.names.proofs.CompareLaws.{length_read_as, letter_at}
use Rattle.names.proofs.FitsLaws.{small_modulo}
use Rattle.names.proofs.TableLaws.{lacks}

-- ---- by length, first letter and last letter

-- the lengths that none of the names has
pub ends_other : (n : ℕ) → (n ≡ 2 → ⊥) → (n ≡ 3 → ⊥) → (n ≡ 4 → ⊥) → (n ≡ 5 → ⊥) → (n ≡ 6 → ⊥) → 0 ≡ get_or void_ends n 0
unfolding void_ends
ends_other zero a b c d e = refl
ends_other (suc zero) a b c d e = refl
ends_other (suc (suc zero)) a b c d e = absurd (a refl)
ends_other (suc (suc (suc zero))) a b c d e = absurd (b refl)
ends_other (suc (suc (suc (suc zero)))) a b c d e = absurd (c refl)
ends_other (suc (suc (suc (suc (suc zero))))) a b c d e = absurd (d refl)
ends_other (suc (suc (suc (suc (suc (suc zero)))))) a b c d e = absurd (e refl)
ends_other (suc (suc (suc (suc (suc (suc (suc n))))))) a b c d e = refl

-- the test, of an entry
abbrev pub ends_bits : ℕ → ℕ → ℕ → Bool
ends_bits e a b = eqb (e / 2 ^ (a % 32) % 2) 1 && eqb (e / 2 ^ (b % 32 + 32) % 2) 1

no_entry : (a b : ℕ) {e : ℕ} → e ≡ 0 → ends_bits e a b ≡ false
no_entry a b h = rw (h, zero-div (2 ^ (a % 32)))

pub ends_short : (n : Bytes) → length n < 2 → fits_ends void_ends n ≡ false
unfolding fits_ends void_ends
ends_short [] h = no_entry 0 0 refl
ends_short (c ∷ []) h = no_entry c c refl
ends_short (c ∷ d ∷ cs) h = absurd (omega (arith, h))

pub ends_long : (n : Bytes) → 6 < length n → fits_ends void_ends n ≡ false
unfolding fits_ends void_ends
ends_long n h = no_entry (get_or n 0 0) (get_or n (length n - 1) 0) (get_or-eq_default void_ends 0 h)

-- a name that passes has a length of the table
pub ends_within : (n : Bytes) → fits_ends void_ends n ≡ true → (0 < length n) × (length n < 7)
ends_within n h = (above (ltb (length n) 2) refl, within (ltb 6 (length n)) refl)
  where
    above : (b : Bool) → ltb (length n) 2 ≡ b → 0 < length n
    above true e = absurd (false≢true (sym (ends_short n (ltb-true (length n) 2 e)) ∙ h))
    above false e = omega (arith, ltb-false (length n) 2 e)

    within : (b : Bool) → ltb 6 (length n) ≡ b → length n < 7
    within true e = absurd (false≢true (sym (ends_long n (ltb-true 6 (length n) e)) ∙ h))
    within false e = omega (arith, ltb-false 6 (length n) e)

-- a capital and its small letter are one letter to the test
letter_modulo : (s : Bool) (n : Bytes) (i : ℕ) → i < length n → get_or (read_as s n) i 0 % 32 ≡ get_or n i 0 % 32
letter_modulo s n i h = ap (λ (c : ℕ). c % 32) (letter_at s n i h) ∙ on s
  where
    on : (b : Bool) → pick b (small_letter (get_or n i 0)) (get_or n i 0) % 32 ≡ get_or n i 0 % 32
    on true = small_modulo (get_or n i 0)
    on false = refl

pub ends_read_as : (es : List ℕ) (s : Bool) (n : Bytes) → fits_ends es (read_as s n) ≡ fits_ends es n
unfolding fits_ends small_letters
ends_read_as es false n = refl
ends_read_as es true [] = refl
ends_read_as es true (c ∷ cs) =
    let n = c ∷ cs in
    let bits : ℕ → ℕ → ℕ → Bool = λ l a b. eqb (get_or es l 0 / 2 ^ a % 2) 1 && eqb (get_or es l 0 / 2 ^ (b + 32) % 2) 1 in
    ap (λ (l : ℕ). bits l (get_or (small_letters n) 0 0 % 32) (get_or (small_letters n) (l - 1) 0 % 32)) (length_read_as true n)
    ∙ ap₂ (bits (length n)) (letter_modulo true n 0 (omega arith)) (letter_modulo true n (length n - 1) (omega arith))

-- what fails is no void name, as it stands or in small letters
pub never_void : (s : Bool) (n : Bytes) → fits_ends void_ends n ≡ false → is_void_element (read_as s n) ≡ false
unfolding is_void_element void_names fits_ends void_ends
never_void s n h = lacks (fits_ends void_ends) void_names (read_as s n) (ends_read_as void_ends s n ∙ h) refl

-- ---- both answers at once

abbrev kind_by : Bool → Bool → Option Void
kind_by v l = pick v (Some AsWritten) (pick l (Some InSmallLetters) None)

pub kind_is : (n : Bytes) {v l : Bool} → is_void_element n ≡ v → is_void_element (small_letters n) ≡ l → void_kind n ≡ kind_by v l
kind_is n p q = ap₂ kind_by p q

-- how a kind is read
abbrev as_written : Option Void → Bool
as_written None = false
as_written (Some AsWritten) = true
as_written (Some InSmallLetters) = false

abbrev lowered : Option Void → Bool
lowered None = false
lowered (Some AsWritten) = false
lowered (Some InSmallLetters) = true

written_is : (v l : Bool) → as_written (kind_by v l) ≡ v
written_is true l = refl
written_is false true = refl
written_is false false = refl

lowered_is : (v l : Bool) → lowered (kind_by v l) ≡ (l && not v)
lowered_is true true = refl
lowered_is true false = refl
lowered_is false true = refl
lowered_is false false = refl

module _ (n : Bytes) {k : Option Void} (e : k ≡ void_kind n) where
  by_written : as_written k ≡ is_void_element n
  by_written = ap as_written e ∙ written_is (is_void_element n) (is_void_element (small_letters n))

  by_lowered : lowered k ≡ (is_void_element (small_letters n) && not (is_void_element n))
  by_lowered = ap lowered e ∙ lowered_is (is_void_element n) (is_void_element (small_letters n))

  pub void_by_kind : k ≡ Some AsWritten → is_void_element n ≡ true
  void_by_kind h = sym by_written ∙ ap as_written h

  pub not_void_by_kind : (k ≡ Some AsWritten → ⊥) → is_void_element n ≡ false
  not_void_by_kind h = sym by_written ∙ on k refl
    where
      on : (o : Option Void) → k ≡ o → as_written o ≡ false
      on None p = refl
      on (Some AsWritten) p = absurd (h p)
      on (Some InSmallLetters) p = refl

  -- void in small letters, and not as it stands
  pub lowered_by_kind : k ≡ Some InSmallLetters → (is_void_element (small_letters n) && not (is_void_element n)) ≡ true
  lowered_by_kind h = sym by_lowered ∙ ap lowered h

  pub not_lowered_by_kind : (k ≡ Some InSmallLetters → ⊥) → (is_void_element (small_letters n) && not (is_void_element n)) ≡ false
  not_lowered_by_kind h = sym by_lowered ∙ on k refl
    where
      on : (o : Option Void) → k ≡ o → lowered o ≡ false
      on None p = refl
      on (Some AsWritten) p = refl
      on (Some InSmallLetters) p = absurd (h p)
