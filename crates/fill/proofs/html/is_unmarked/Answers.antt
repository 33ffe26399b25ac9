use mathlib.Core.Path.{refl}
use Rattle.fill.specs.Writing.{unmarked}
use Rattle.fill.proofs.html.is_unmarked.Goals as goal

pub returns : goal.returns
unfolding unmarked
returns c = refl
