-- `answer` meets its contract: a refusal is its number, and zeros. Assumes nothing.

use Rattle.convert.proofs.TurnedLaws.{refusal_answered}
use Rattle.convert.proofs.answer.Goals as goal

pub returns-in-Err : goal.returns-in-Err
returns-in-Err c = refusal_answered c.in-Err.ensures c.from.ensures (c.fill.ensures.after (λ y e. e)) (c.fill-in-Err.ensures.after (λ y e. e))
