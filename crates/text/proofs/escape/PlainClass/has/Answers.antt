use mathlib.Core.Path.{refl}
use Rattle.text.specs.Runs.{plain}
use Rattle.text.proofs.escape.PlainClass.has.Goals as goal

pub returns : goal.returns
unfolding plain
returns c = refl
