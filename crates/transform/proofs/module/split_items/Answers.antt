-- `split_items` meets its contract: what is passed holds no statement. Assumes nothing.
use native.Mathlib.Omega.{arith}
use Rattle.transform.proofs.SplitLaws.{passing_on, splits, splits_all}
use Rattle.transform.proofs.module.split_items.Goals as goal

pub returns : goal.returns
returns c = splits_all c.loop-item.invariant c.in-None.ensures.steps.ended

pub returns-in-16 : goal.returns-in-16
returns-in-16 c = splits c.loop-item.invariant c.split_at.ensures.front c.split_at.ensures.back c.in-Some.ensures.steps.tag_is c.in-16.is

pub loop-item-preserved : goal.loop-item-preserved
loop-item-preserved c = passing_on c.loop-item.invariant c.in-Some.ensures.steps (λ z. grind arith) (λ z. grind arith)
