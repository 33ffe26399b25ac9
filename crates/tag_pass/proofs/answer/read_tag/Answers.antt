-- `tag_pass::answer::read_tag` meets its contract. Assumes nothing.
use mathlib.Core.Path.{refl}
use native.Mathlib.Omega.{arith}
use Rattle.tag_pass.proofs.AnswerLaws.{answer_put, answer_refused}
use Rattle.tag_pass.proofs.answer.read_tag.Goals as goal

pub returns-in-Ok : goal.returns-in-Ok
returns-in-Ok c = answer_put c.in-Ok.ensures refl

pub returns-in-Err : goal.returns-in-Err
returns-in-Err c = answer_refused _ c.in-Err.e c.in-Err.ensures c.from.ensures refl (omega arith) (c.fill.ensures.after (λ y e. e))
