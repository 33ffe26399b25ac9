use mathlib.Core.Path.{◌≡◌}
use Prim.Native.Nat.{◌≤◌, ◌<◌, ◌-◌}
use lib.ListN.{take, drop}
use Rattle.std.specs.Prelude.{None}
use Rattle.field.specs.Bytes.{same}
use Rattle.names.specs.Table.{read_as, mark_in}
use Rattle.names.proofs.table.find_in.Given as goal

abbrev pub invariant-loop-i : goal.invariant-loop-i
invariant-loop-i l = (l.i < l.n) × ((l.mark ≡ None) × (same (drop l.i (take l.n (drop l.p l.row))) (drop l.i (read_as l.small l.name)) ≡ same (take l.n (drop l.p l.row)) (read_as l.small l.name)))

abbrev pub decreases-loop-i : goal.decreases-loop-i
decreases-loop-i l = l.n - l.i

abbrev pub invariant-names : goal.invariant-names
invariant-names l = (l.p ≤ l.end) × ((l.mark ≡ None) × (mark_in (drop l.p l.row) (read_as l.small l.name) ≡ mark_in l.row (read_as l.small l.name)))

abbrev pub decreases-names : goal.decreases-names
decreases-names l = l.end - l.p
