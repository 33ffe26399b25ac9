use lib.ListN.{length}
use Rattle.utf8.specs.Parts.{Skipped}
use Rattle.utf8.proofs.skip_rows.Given as goal

abbrev pub invariant-loop-block : goal.invariant-loop-block
invariant-loop-block g l = Skipped l.s l.left

abbrev pub decreases-loop-block : goal.decreases-loop-block
decreases-loop-block g l = length l.left
