-- `transform_checked` meets its contract: the verdict is that of the outputs, and a refusal clears what was written. Assumes nothing.
use Rattle.transform.proofs.AnswerLaws.{refused_outputs, accepted_outputs}
use Rattle.transform.proofs.transform_checked.Goals as goal

pub returns-in-Err : goal.returns-in-Err
returns-in-Err c = refused_outputs _ _ _ _ _ c.requires c.write_given-w.ensures c.write_given-w.auto.templates c.write_given-w.auto.page c.check_outputs.ensures c.in-Err.is c.write_given-w.auto.scratch c.refuse.ensures

pub returns-in-Ok : goal.returns-in-Ok
returns-in-Ok c = accepted_outputs _ _ _ _ _ c.requires c.write_given-w.ensures c.write_given-w.auto.templates c.write_given-w.auto.page c.check_outputs.ensures c.in-Ok.is c.write_given-w.new.scratch c.write_given-w.auto.scratch (c.fill.ensures.after (λ y e. e))
