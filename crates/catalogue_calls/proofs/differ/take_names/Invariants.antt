use Prim.Native.Nat.{◌-◌}
use lib.ListN.{length}
use Rattle.catalogue_calls.proofs.TakenLaws.{Taking}
use Rattle.catalogue_calls.proofs.differ.take_names.Given as goal

abbrev pub invariant-loop-count : goal.invariant-loop-count
invariant-loop-count l = Taking l.s (length l.fn.batch) l.batch l.count l.rest

abbrev pub decreases-loop-count : goal.decreases-loop-count
decreases-loop-count l = length l.batch - l.count
