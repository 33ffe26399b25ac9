use mathlib.Core.Path.{◌≡◌}
use Prim.Native.Nat.{◌*◌}
use lib.ListN.{drop}
use Rattle.text.specs.Runs.{all}
use Rattle.text.proofs.runs.is_run.Given as goal

abbrev pub invariant-loop-block : goal.invariant-loop-block
invariant-loop-block g l = all (g.C.Class.holds l.class) (drop (g.row.N * l.block-index) l.s) ≡ all (g.C.Class.holds l.class) l.s
