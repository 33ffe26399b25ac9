use lib.ListN.{length}
use Rattle.utf8.specs.Parts.{Skips}
use Rattle.utf8.proofs.skip_blocks.Given as goal

abbrev pub invariant-loop-block : goal.invariant-loop-block
invariant-loop-block g l = Skips l.s l.left

abbrev pub decreases-loop-block : goal.decreases-loop-block
decreases-loop-block g l = length l.left
