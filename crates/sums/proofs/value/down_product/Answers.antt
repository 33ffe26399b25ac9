-- `sums::value::down_product` meets its contract. Assumes nothing.
use mathlib.Core.Path.{refl, ◌∙◌, ap}
use borrow.Author.Tests.{ne_eqb}
use Rattle.sums.specs.Choice.{choose}
use Rattle.sums.specs.Value.{downward}
use Rattle.sums.specs.Small.{mixed_product}
use Rattle.sums.proofs.Steps.{down_capped}
use Rattle.sums.proofs.value.down_product.Goals as goal

pub returns-then-x-eq0 : goal.returns-then-x-eq0
unfolding mixed_product choose
returns-then-x-eq0 c = rw c.if-x-eq0.true refl

pub returns-else-x-eq0 : goal.returns-else-x-eq0
unfolding mixed_product choose
returns-else-x-eq0 c = rw (ne_eqb c.args.x 0 c.if-x-eq0.false) (c.bounded.ensures ∙ ap downward c.saturating_mul.ensures ∙ down_capped _)
