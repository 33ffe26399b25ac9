use Prim.Native.Nat.{◌-◌}
use lib.ListN.{length}
use Rattle.catalogue_calls.proofs.CallWalk.{Raising}
use Rattle.catalogue_calls.proofs.numbers.raise_calls.Given as goal

abbrev pub invariant-loop-number : goal.invariant-loop-number
invariant-loop-number l = Raising l.by l.fn.s l.s l.at

abbrev pub decreases-loop-number : goal.decreases-loop-number
decreases-loop-number l = length l.s - l.at
