use mathlib.Core.Path.{◌≡◌}
use Prim.Native.Nat.{◌+◌, ◌≤◌, ◌-◌}
use lib.ListN.{take, drop}
use Rattle.std.specs.Prelude.{None}
use Rattle.names.specs.Table.{mark_in}
use Rattle.names.proofs.table.find_long.Given as goal

abbrev pub invariant-loop-mark : goal.invariant-loop-mark
invariant-loop-mark l = (l.i + 8 ≤ l.n) × ((l.mark ≡ None) × (drop (l.i + 8) (take l.n (drop l.p l.row)) ≡ drop (l.i + 8) l.name))

abbrev pub decreases-loop-mark : goal.decreases-loop-mark
decreases-loop-mark l = l.i

abbrev pub invariant-names : goal.invariant-names
invariant-names l = (l.p ≤ l.end) × ((l.mark ≡ None) × (mark_in (drop l.p l.row) l.name ≡ mark_in l.row l.name))

abbrev pub decreases-names : goal.decreases-names
decreases-names l = l.end - l.p
