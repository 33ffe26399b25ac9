use lib.ListN.{length}
use Rattle.catalogue_calls.specs.Once.{lowered_by}
use Rattle.catalogue_calls.proofs.OnceLaws.{Passed}
use Rattle.catalogue_calls.proofs.once.is_clear.Given as goal

abbrev pub invariant-loop-raised : goal.invariant-loop-raised
invariant-loop-raised g l = Passed l.count l.low g.row.W l.words l.left (lowered_by l.before (g.N.Numbers.numbers l.s)) (lowered_by l.before (g.N.Numbers.numbers l.rest))

abbrev pub decreases-loop-raised : goal.decreases-loop-raised
decreases-loop-raised g l = length l.rest
