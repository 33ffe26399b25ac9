use Rattle.catalogue_calls.specs.Once.{lowered_by}
use Rattle.catalogue_calls.proofs.OnceLaws.{Singles}
use Rattle.catalogue_calls.proofs.once.in_windows.Given as goal

abbrev pub invariant-loop-count : goal.invariant-loop-count
invariant-loop-count g l = Singles l.count l.above (lowered_by l.before (g.N.Numbers.numbers l.s))

abbrev pub decreases-loop-count : goal.decreases-loop-count
decreases-loop-count g l = l.above
