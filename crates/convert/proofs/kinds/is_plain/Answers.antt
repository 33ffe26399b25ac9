-- `kinds::is_plain` meets its contract: what is left decides. Assumes nothing.
use mathlib.Core.Path.{sym, ◌∙◌}
use native.Mathlib.Omega.{arith}
use Rattle.convert.proofs.PlainLaws.{plain_on, plain_ends}
use Rattle.convert.proofs.kinds.is_plain.Goals as goal

pub loop-c-preserved : goal.loop-c-preserved
loop-c-preserved c = plain_on c.args.block.now c.loop-c.c-index c.loop-c-test.true c.loop-c.is ∙ c.loop-c.invariant

pub returns : goal.returns
returns c = sym (plain_ends c.args.block.now c.loop-c.c-index (omega arith) c.loop-c.is) ∙ c.loop-c.invariant
