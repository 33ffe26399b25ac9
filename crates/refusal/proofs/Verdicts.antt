-- What it takes for checks in a row to find nothing, and what is known once they did. One law for each combinator, either way.
-- Main statements: `after_fine`, `fine_after`, `unless_fine`, `fine_unless`, `refused_by`, `fine_by`, `number_some`.
-- Assumes nothing.
use mathlib.Core.Path.{◌≡◌, refl, sym, ap, ◌∙◌}
use mathlib.Core.Bool.{Bool, true, false}
use Prim.Native.Nat.{ℕ}
use native.Mathlib.Omega.{arith}
use lib.Dec.{T, eqb}
use borrow.Author.Tests.{eqb-false}
use Rattle.refusal.specs.Refusal.{Verdict, Fine, Refused, after, unless, refusal_number, verdict_number}
use Rattle.refusal.specs.declared.Refusal.{Refusal}
use Rattle.refusal.specs.declared.Refusal.TheVariants as R

-- ---- nothing found, so

-- a refusal is not fine
pub refused : {C : Type 0} (n : Refusal) → Refused n ≡ Fine → C
refused n e = absurd (let z : ◌≡◌ {A = ℕ} 0 1 = cc in omega arith)

pub after_fine : (v : Verdict) (w : Unit {0} → Verdict) → after v w ≡ Fine → (v ≡ Fine) × (w tt ≡ Fine)
unfolding after
after_fine Fine w e = (refl, e)
after_fine (Refused n) w e = refused n e

pub unless_fine : (b : Bool) (n : Refusal) → unless b n ≡ Fine → T b
unless_fine true n e = tt
unless_fine false n e = refused n e

pub unless_true : (b : Bool) (n : Refusal) → unless b n ≡ Fine → b ≡ true
unless_true true n e = refl
unless_true false n e = refused n e

-- what one test says behind a `?`
pub fine_by : {b : Bool} {v : Verdict} (n : Refusal) → v ≡ unless b n → v ≡ Fine → b ≡ true
fine_by {b} n u i = unless_true b n (sym u ∙ i)

pub refused_by : {b : Bool} {v : Verdict} {n e : Refusal} → v ≡ unless b n → v ≡ Refused e → (b ≡ false) × (n ≡ e)
refused_by {b} {v} {n} {e} u i = on b (sym u ∙ i)
  where
    on : (c : Bool) → unless c n ≡ Refused e → (c ≡ false) × (n ≡ e)
    on true q = refused e (sym q)
    on false q = (refl, cc)

-- ---- so nothing is found

pub fine_after : (v : Verdict) (w : Unit {0} → Verdict) → v ≡ Fine → w tt ≡ Fine → after v w ≡ Fine
unfolding after
fine_after v w e g = ap (λ (x : Verdict). after x w) e ∙ g

pub fine_unless : (b : Bool) (n : Refusal) → T b → unless b n ≡ Fine
fine_unless true n t = refl
fine_unless false n t = absurd t

-- ---- a refusal has a number

pub number_some : (r : Refusal) → eqb (refusal_number r) 0 ≡ false
unfolding refusal_number
number_some R.ScratchTooSmall = refl
number_some r = refl

pub never_zero : (r : Refusal) → refusal_number r ≡ 0 → ⊥
never_zero r e = eqb-false (refusal_number r) 0 (number_some r) e

pub verdict_fine : (v : Verdict) → verdict_number v ≡ 0 → v ≡ Fine
unfolding verdict_number
verdict_fine Fine e = refl
verdict_fine (Refused r) e = absurd (never_zero r e)
