-- What is answered may be written: a size within the bound, and below zero never zero. Assumes nothing.
use Prim.Native.Nat.{ℕ, zero, suc, ◌+◌, ◌-◌, ◌*◌, ◌≤◌, ◌<◌}
use mathlib.Core.Bool.{not}
use native.Mathlib.Omega.{arith}
use native.Mathlib.Nat.{one-le-mul}
use lib.Dec.{T, leb, eqb, leb→le, nleb→lt, eqb_refl}
use Rattle.sums.specs.Tree.{Tree, number, plus, minus, times}
use Rattle.field.specs.Bytes.{Bytes}
use Rattle.sums.specs.Machine.{Outcome, read, no_reading, outcome, start, found, sum_of}
use Rattle.sums.specs.Value.{most, upward, downward, difference, added, taken, multiplied, value}
use Rattle.sums.specs.Value.{Worked}
use Rattle.sums.specs.declared.value.Sum.TheVariants.{Plus, Minus}
use Rattle.std.specs.Prelude.{Some, None}
use Rattle.sums.proofs.Tests.{either, clash}

unfoldable pub Proper : Worked → Type 0
Proper None = Unit {0}
Proper (Some (Plus n)) = n ≤ most
Proper (Some (Minus n)) = (0 < n) × (n ≤ most)

up_proper : (n : ℕ) → Proper (upward n)
unfolding upward Proper
up_proper n = either Proper (leb n most) _ _ (λ u. leb→le n most u) (λ _. tt)

down_proper : (n : ℕ) → 0 < n → Proper (downward n)
unfolding downward Proper
down_proper n h = either Proper (leb n most) _ _ (λ u. (h, leb→le n most u)) (λ _. tt)

difference_proper : (a b : ℕ) → Proper (difference a b)
unfolding difference
difference_proper a b = either Proper (leb b a) _ _ (λ _. up_proper (a - b)) (λ u. let h = nleb→lt b a u in down_proper (b - a) (omega arith))

added_proper : (x y : Worked) → Proper x → Proper y → Proper (added x y)
unfolding added Proper
added_proper None y p q = tt
added_proper (Some (Plus a)) None p q = tt
added_proper (Some (Plus a)) (Some (Plus b)) p q = up_proper (a + b)
added_proper (Some (Plus a)) (Some (Minus b)) p q = difference_proper a b
added_proper (Some (Minus a)) None p q = tt
added_proper (Some (Minus a)) (Some (Plus b)) p q = difference_proper b a
added_proper (Some (Minus a)) (Some (Minus b)) p q = down_proper (a + b) (omega arith)

taken_proper : (x y : Worked) → Proper x → Proper y → Proper (taken x y)
unfolding taken Proper
taken_proper None y p q = tt
taken_proper (Some (Plus a)) None p q = tt
taken_proper (Some (Plus a)) (Some (Plus b)) p q = difference_proper a b
taken_proper (Some (Plus a)) (Some (Minus b)) p q = up_proper (a + b)
taken_proper (Some (Minus a)) None p q = tt
taken_proper (Some (Minus a)) (Some (Plus b)) p q = down_proper (a + b) (omega arith)
taken_proper (Some (Minus a)) (Some (Minus b)) p q = difference_proper b a

not_zero : (a : ℕ) → T (not (eqb a 0)) → 1 ≤ a
not_zero zero u = clash (eqb 0 0) (eqb_refl 0) u
not_zero (suc a) u = omega arith

multiplied_proper : (x y : Worked) → Proper x → Proper y → Proper (multiplied x y)
unfolding multiplied Proper
multiplied_proper None y p q = tt
multiplied_proper (Some (Plus a)) None p q = tt
multiplied_proper (Some (Plus a)) (Some (Plus b)) p q = up_proper (a * b)
multiplied_proper (Some (Plus a)) (Some (Minus b)) p q = either Proper (eqb a 0) _ _ (λ _. tt) (λ u. down_proper (a * b) (one-le-mul (not_zero a u) q.0))
multiplied_proper (Some (Minus a)) None p q = tt
multiplied_proper (Some (Minus a)) (Some (Plus b)) p q = either Proper (eqb b 0) _ _ (λ _. tt) (λ u. down_proper (a * b) (one-le-mul p.0 (not_zero b u)))
multiplied_proper (Some (Minus a)) (Some (Minus b)) p q = up_proper (a * b)

pub value_proper : (t : Tree) → Proper (value t)
unfolding value
value_proper (number n) = up_proper n
value_proper (plus x y) = added_proper (value x) (value y) (value_proper x) (value_proper y)
value_proper (minus x y) = taken_proper (value x) (value y) (value_proper x) (value_proper y)
value_proper (times x y) = multiplied_proper (value x) (value y) (value_proper x) (value_proper y)

-- and so of any text
pub sum_proper : (s : Bytes) → Proper (sum_of s)
unfolding sum_of found Proper
sum_proper s = on (outcome start s)
  where
    on : (o : Outcome) → Proper (found o)
    on (read t) = value_proper t
    on no_reading = tt
