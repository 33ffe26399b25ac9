-- `answer::fill` meets its contract: a refusal is its number, and zeros. Assumes nothing.
use Rattle.fill.proofs.AnswerLaws.{refusal_answered}
use Rattle.fill.proofs.answer.fill.Goals as goal

pub returns-in-Err : goal.returns-in-Err
returns-in-Err c = refusal_answered c.in-Err.ensures c.from.ensures (c.fill.ensures.after (λ y e. e))
