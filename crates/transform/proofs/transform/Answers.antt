-- `transform` meets its contract: what the inputs are refused for, or the transform of inputs that are fine. Assumes nothing.
use Rattle.transform.proofs.AnswerLaws.{refused_inputs}
use Rattle.transform.proofs.transform.Goals as goal

pub returns-in-Err : goal.returns-in-Err
returns-in-Err c = refused_inputs _ _ _ _ _ c.check_inputs.ensures c.in-Err.is c.refuse.ensures
