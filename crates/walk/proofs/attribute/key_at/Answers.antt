use Rattle.walk.proofs.ReadLaws.{other_passed, key_here, key_answer}
use Rattle.walk.proofs.attribute.key_at.Goals as goal

pub loop-a-preserved-then-is_key : goal.loop-a-preserved-then-is_key
loop-a-preserved-then-is_key c = rw c.or-key.ensures (key_here _ _ _ _ c.loop-a.invariant _ c.in-Some.ensures.steps c.is_key.ensures c.if-is_key.true c.value_at.result c.value_at.ensures)

pub loop-a-preserved : goal.loop-a-preserved
loop-a-preserved c = other_passed _ _ _ _ c.loop-a.invariant _ c.in-Some.ensures.steps c.is_key.ensures c.if-is_key.false

pub returns : goal.returns
returns c = key_answer _ _ _ _ c.loop-a.invariant c.in-None.ensures.steps
