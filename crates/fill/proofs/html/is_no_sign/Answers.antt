use mathlib.Core.Path.{refl}
use Rattle.fill.specs.Writing.{no_sign}
use Rattle.fill.proofs.html.is_no_sign.Goals as goal

pub returns : goal.returns
unfolding no_sign
returns c = refl
