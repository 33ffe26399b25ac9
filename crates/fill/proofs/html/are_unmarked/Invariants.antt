use mathlib.Core.Path.{◌≡◌}
use lib.ListN.{take}
use Rattle.text.specs.Runs.{all}
use Rattle.fill.specs.Writing.{unmarked}
use Rattle.fill.proofs.html.are_unmarked.Given as goal

abbrev pub invariant-loop-b : goal.invariant-loop-b
invariant-loop-b l = l.are ≡ all unmarked (take l.b-index l.block)
