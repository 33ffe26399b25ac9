-- The invariant: what was gone down to has all that is known of the whole.
use Rattle.found.proofs.FoundLaws.{Inner}
use Rattle.found.proofs.innermost.Given as goal

abbrev pub invariant-loop-left : goal.invariant-loop-left
invariant-loop-left l = Inner l.b l.known l.t l.left

abbrev pub decreases-loop-left : goal.decreases-loop-left
decreases-loop-left l = l.left
