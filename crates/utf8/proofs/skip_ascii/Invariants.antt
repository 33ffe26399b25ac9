use lib.ListN.{length}
use Rattle.utf8.specs.Parts.{Skips}
use Rattle.utf8.proofs.skip_ascii.Given as goal

abbrev pub invariant-loop-left : goal.invariant-loop-left
invariant-loop-left l = Skips l.s l.left

abbrev pub decreases-loop-left : goal.decreases-loop-left
decreases-loop-left l = length l.left
