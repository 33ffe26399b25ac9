use lib.ListN.{length}
use mathlib.Core.Path.{◌≡◌}
use Rattle.utf8.specs.Utf8.{utf8}
use Rattle.utf8.proofs.is_utf8_behind.Given as goal

abbrev pub invariant-loop-left : goal.invariant-loop-left
invariant-loop-left l = utf8 l.s ≡ utf8 l.left

abbrev pub decreases-loop-left : goal.decreases-loop-left
decreases-loop-left l = length l.left
