-- Bytes that are all zero, by all of them joined. Main statements: `zero_so_far`, `zero_more`, `zero_all`. Assumes nothing.
use Prim.Native.Nat.{ℕ, ◌+◌, ◌≤◌, ◌<◌}
use mathlib.Core.Path.{◌≡◌, refl, sym, ap, ◌∙◌}
use mathlib.Core.Bool.{Bool, true, false, ◌&&◌}
use mathlib.Core.List.{[], ◌∷◌, ◌++◌}
use mathlib.Core.Logic.{◌⊎◌, inl, inr}
use native.Mathlib.Omega.{arith}
use lib.Dec.{eqb}
use lib.ListN.{length, take, get_or}
use lib.Seq.{take_all}
use Rattle.std.specs.Int.Bits.{bit_or, or_zero_l}
use Rattle.std.proofs.lemmas.Nat.{le_or_l}
use Rattle.std.proofs.lemmas.List.{take_more}
use Rattle.std.proofs.lemmas.Bool.{cases_Bool}
use borrow.Author.Tests.{eqb-true, ne_eqb, eqb-false}
use Rattle.field.specs.Bytes.{Bytes}
use Rattle.catalogue.specs.Catalogue.{all_zero}

joined : (m n : ℕ) → eqb (bit_or m n) 0 ≡ (eqb m 0 && eqb n 0)
joined m n = on (cases_Bool (eqb m 0)) (cases_Bool (eqb n 0))
  where
    on : (eqb m 0 ≡ true) ⊎ (eqb m 0 ≡ false) → (eqb n 0 ≡ true) ⊎ (eqb n 0 ≡ false) → eqb (bit_or m n) 0 ≡ (eqb m 0 && eqb n 0)
    on (inl a) b = ap (λ (k : ℕ). eqb (bit_or k n) 0) (eqb-true m 0 a) ∙ ap (λ (k : ℕ). eqb k 0) (or_zero_l n) ∙ sym (ap (λ (x : Bool). x && eqb n 0) a)
    on (inr a) b = ne_eqb (bit_or m n) 0 (λ e. eqb-false m 0 a (omega (arith, le_or_l m n))) ∙ sym (ap (λ (x : Bool). x && eqb n 0) a)

and_assoc : (a b c : Bool) → (a && (b && c)) ≡ ((a && b) && c)
and_assoc true b c = refl
and_assoc false b c = refl

zero_append : (s : Bytes) (n : ℕ) → all_zero (s ++ (n ∷ [])) ≡ (all_zero s && eqb n 0)
unfolding all_zero
zero_append [] n = on (eqb n 0)
  where
    on : (b : Bool) → (b && true) ≡ b
    on true = refl
    on false = refl
zero_append (c ∷ s) n = ap (λ (x : Bool). eqb c 0 && x) (zero_append s n) ∙ and_assoc (eqb c 0) (all_zero s) (eqb n 0)

pub zero_more : (s : Bytes) (i m : ℕ) → i < length s → eqb m 0 ≡ all_zero (take i s) → eqb (bit_or m (get_or s i 0)) 0 ≡ all_zero (take (i + 1) s)
zero_more s i m h e =
    joined m (get_or s i 0) ∙ ap (λ (x : Bool). x && eqb (get_or s i 0) 0) e ∙ sym (zero_append (take i s) (get_or s i 0)) ∙ ap all_zero (sym (take_more s i 0 h))

pub zero_all : (s : Bytes) (i m : ℕ) → length s ≤ i → eqb m 0 ≡ all_zero (take i s) → eqb m 0 ≡ all_zero s
zero_all s i m h e = e ∙ ap all_zero (take_all i s h)
