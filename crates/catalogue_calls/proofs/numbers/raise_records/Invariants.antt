use Prim.Native.Nat.{◌-◌}
use lib.ListN.{length}
use Rattle.catalogue_calls.proofs.RecordWalk.{Raising}
use Rattle.catalogue_calls.proofs.numbers.raise_records.Given as goal

abbrev pub invariant-loop-h : goal.invariant-loop-h
invariant-loop-h l = Raising l.by l.fn.s l.s l.at

abbrev pub decreases-loop-h : goal.decreases-loop-h
decreases-loop-h l = length l.s - l.at
