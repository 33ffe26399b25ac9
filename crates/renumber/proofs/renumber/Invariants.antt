use Prim.Native.Nat.{◌+◌, ◌-◌}
use lib.ListN.{length}
use Rattle.renumber.proofs.Renumbering.{Keeps}
use Rattle.renumber.proofs.renumber.Given as goal

abbrev pub invariant-loop-out : goal.invariant-loop-out
invariant-loop-out l = Keeps l.from l.to l.s l.initial.out l.stack.frames l.stack.height l.base l.at l.end l.out l.n l.long l.wide

abbrev pub decreases-loop-out : goal.decreases-loop-out
decreases-loop-out l = length l.s - l.at + l.stack.height
