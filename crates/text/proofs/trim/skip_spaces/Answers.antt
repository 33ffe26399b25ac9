-- `text::trim::skip_spaces` meets its contract. Assumes nothing.
use native.Mathlib.Omega.{arith}
use mathlib.Core.Path.{◌∙◌}
use Rattle.text.proofs.TrimLaws.{skip_on, skip_stop}
use Rattle.text.proofs.trim.skip_spaces.Goals as goal

pub loop-left-preserved : goal.loop-left-preserved
loop-left-preserved c = skip_on c.loop-left.left.now (omega arith) (omega arith) ∙ c.loop-left.invariant

pub returns-in_default-2 : goal.returns-in_default-2
returns-in_default-2 c = skip_stop c.loop-left.left.now (λ e. omega arith) ∙ c.loop-left.invariant
