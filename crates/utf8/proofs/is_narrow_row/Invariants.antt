use mathlib.Core.Bool.{true}
use mathlib.Core.Path.{◌≡◌}
use lib.ListN.{drop}
use Rattle.utf8.proofs.Rows.{NarrowRow}
use Rattle.utf8.proofs.is_narrow_row.Given as goal

abbrev pub invariant-loop-b : goal.invariant-loop-b
invariant-loop-b l = l.is ≡ true → NarrowRow l.last (drop l.b-index l.block) l.block
