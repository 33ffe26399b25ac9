use mathlib.Core.Path.{refl}
use Rattle.text.specs.Runs.{not_lf}
use Rattle.text.proofs.lines.NotLfClass.has.Goals as goal

pub returns : goal.returns
unfolding not_lf
returns c = refl
