-- `sums::value::subtract` meets its contract. Assumes nothing.
use mathlib.Core.Path.{◌∙◌}
use Rattle.sums.proofs.Steps.{taken_as}
use Rattle.sums.proofs.value.subtract.Goals as goal

pub returns : goal.returns
returns c = c.add.ensures ∙ taken_as _ _ _ c.map.ensures.cases
