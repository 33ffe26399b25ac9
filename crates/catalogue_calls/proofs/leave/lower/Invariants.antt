use Prim.Native.Nat.{◌-◌}
use lib.ListN.{length}
use Rattle.catalogue_calls.proofs.LowerLaws.{Lowering}
use Rattle.catalogue_calls.proofs.leave.lower.Given as goal

abbrev pub invariant-loop-size : goal.invariant-loop-size
invariant-loop-size l = Lowering l.fn.s l.forms l.s l.at

abbrev pub decreases-loop-size : goal.decreases-loop-size
decreases-loop-size l = length l.s - l.at
