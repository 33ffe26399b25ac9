use mathlib.Core.Bool.{true}
use mathlib.Core.Path.{◌≡◌}
use lib.ListN.{drop}
use Rattle.utf8.specs.Parts.{Row}
use Rattle.utf8.proofs.is_wide_row.Given as goal

abbrev pub invariant-loop-b : goal.invariant-loop-b
invariant-loop-b l = l.is ≡ true → Row l.third l.second l.last (drop l.b-index l.block) → Row 0 0 0 l.block
