use mathlib.Core.Path.{◌≡◌}
use lib.ListN.{length, drop}
use Rattle.text.specs.Runs.{is_space, run}
use Rattle.text.proofs.trim.skip_spaces.Given as goal

abbrev pub invariant-loop-left : goal.invariant-loop-left
invariant-loop-left l = drop (run is_space l.left) l.left ≡ drop (run is_space l.s) l.s

abbrev pub decreases-loop-left : goal.decreases-loop-left
decreases-loop-left l = length l.left
