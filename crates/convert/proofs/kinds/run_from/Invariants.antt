use lib.ListN.{length}
use Rattle.convert.specs.Flat.{EndsRun}
use Rattle.convert.proofs.kinds.run_from.Given as goal

abbrev pub invariant-loop-block : goal.invariant-loop-block
invariant-loop-block l = EndsRun l.fn.c l.s l.last l.left

abbrev pub decreases-loop-block : goal.decreases-loop-block
decreases-loop-block l = length l.left

abbrev pub invariant-loop-left : goal.invariant-loop-left
invariant-loop-left l = EndsRun l.fn.c l.s l.last l.left

abbrev pub decreases-loop-left : goal.decreases-loop-left
decreases-loop-left l = length l.left
