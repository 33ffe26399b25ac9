use mathlib.Core.Path.{◌≡◌}
use lib.ListN.{take}
use Rattle.text.specs.Runs.{all}
use Rattle.fill.specs.Writing.{no_sign}
use Rattle.fill.proofs.html.are_free.Given as goal

abbrev pub invariant-loop-b : goal.invariant-loop-b
invariant-loop-b l = l.are ≡ all no_sign (take l.b-index l.block)
