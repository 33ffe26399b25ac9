-- `differ::take_names` meets its contract: each name goes behind those that the batch has. Assumes nothing.
use Rattle.catalogue_calls.proofs.TakenLaws.{taken_one, taken_full, taken_all}
use Rattle.catalogue_calls.proofs.differ.take_names.Goals as goal
use Rattle.catalogue_calls.proofs.differ.take_names.Goals.{else-loop-count-test, then-loop-count-test+in_default}

pub loop-count-preserved : goal.loop-count-preserved
loop-count-preserved c = taken_one c.loop-count.invariant c.loop-count-test.true c.in-Some.ensures

pub returns : goal.returns
returns c =
    elim c.loop-count-test.branch [
      | else-loop-count-test w ↦ taken_full c.loop-count.invariant w.loop-count-test.false
      | then-loop-count-test+in_default w ↦ taken_all c.loop-count.invariant w.in_default.ensures
    ]
