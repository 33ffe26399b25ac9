-- Facts about tests. Assumes nothing.
use Prim.Native.Nat.{ℕ}
use mathlib.Core.Path.{◌≡◌, refl, sym, ◌∙◌}
use mathlib.Core.Bool.{Bool, true, false, ◌&&◌, true≢false}
use mathlib.Core.Logic.{◌⊎◌, inl, inr}
use lib.Dec.{eqb}
use Rattle.std.proofs.lemmas.Bool.{cases_Bool}
use borrow.Author.Tests.{eq-eqb, eqb-true, ne_eqb, eqb-false}

pub not_both : (b : Bool) {A : Type 0} → b ≡ true → b ≡ false → A
not_both b e f = absurd (true≢false (sym e ∙ f))

pub and_left : (a b : Bool) → (a && b) ≡ true → a ≡ true
and_left true b e = refl
and_left false b e = e

pub and_right : (a b : Bool) → (a && b) ≡ true → b ≡ true
and_right true b e = e
and_right false b e = absurd (true≢false (sym e))

pub eq_flip : (m n : ℕ) → eqb m n ≡ eqb n m
eq_flip m n = on (cases_Bool (eqb m n))
  where
    on : (eqb m n ≡ true) ⊎ (eqb m n ≡ false) → eqb m n ≡ eqb n m
    on (inl e) = e ∙ sym (eq-eqb n m (sym (eqb-true m n e)))
    on (inr e) = e ∙ sym (ne_eqb n m (λ f. eqb-false m n e (sym f)))
