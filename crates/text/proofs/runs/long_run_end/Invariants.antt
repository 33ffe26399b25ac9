use mathlib.Core.Path.{◌≡◌}
use Prim.Native.Nat.{◌+◌, ◌≤◌, ◌-◌}
use lib.ListN.{length, drop}
use Rattle.text.specs.Runs.{run}
use Rattle.text.proofs.runs.long_run_end.Given as goal

abbrev pub invariant-loop-i : goal.invariant-loop-i
invariant-loop-i g l = (l.at ≤ l.i) × (l.i ≤ length l.s) × (l.i + run (g.C.Class.holds l.class) (drop l.i l.s) ≡ l.at + run (g.C.Class.holds l.class) (drop l.at l.s))

abbrev pub decreases-loop-i : goal.decreases-loop-i
decreases-loop-i g l = length l.s - l.i
