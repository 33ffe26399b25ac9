use mathlib.Core.Path.{◌≡◌}
use lib.ListN.{take}
use Rattle.text.specs.Runs.{all}
use Rattle.text.proofs.runs.is_all.Given as goal

abbrev pub invariant-loop-b : goal.invariant-loop-b
invariant-loop-b g l = l.is ≡ all (g.C.Class.holds l.class) (take l.b-index l.block)
