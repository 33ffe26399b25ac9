use mathlib.Core.Path.{◌≡◌}
use lib.ListN.{length}
use Rattle.convert.specs.Kinds.{all_passed}
use Rattle.convert.proofs.kinds.pass_all.Given as goal

abbrev pub invariant-loop-left : goal.invariant-loop-left
invariant-loop-left l = all_passed l.fn.m l.s ≡ all_passed l.q l.left

abbrev pub decreases-loop-left : goal.decreases-loop-left
decreases-loop-left l = length l.left
