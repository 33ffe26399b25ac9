-- The invariant: n is the number in the first bytes, and has room for what is still to come.
use mathlib.Core.Path.{ap}
use Prim.Native.Nat.{ℕ, ◌+◌, ◌*◌}
use native.Mathlib.Omega.{arith}
use Rattle.page.proofs.LeafLaws.{number_start, number_next, number_room, number_grown}
use Rattle.page.proofs.number.short_in.Goals as goal

pub loop-b-init : goal.loop-b-init
loop-b-init c = (number_start, omega arith)

pub overflow_mul-n : goal.overflow_mul-n
overflow_mul-n c = omega (arith, number_room _ _ c.loop-b.invariant.1 (omega (arith, c.loop-b-test.true, c.requires)))

pub loop-b-preserved : goal.loop-b-preserved
loop-b-preserved c = (number_next _ _ _ c.loop-b-test.true c.loop-b.invariant.0 (ap (λ (x : ℕ). c.loop-b.n * 256 + x) c.from.ensures), number_grown _ _ c.loop-b.invariant.1 (omega (arith, c.from.ensures, c.type_inv.s c.loop-b.b-index)))
