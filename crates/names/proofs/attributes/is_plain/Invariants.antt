use mathlib.Core.Path.{◌≡◌}
use Prim.Native.Nat.{◌≤◌, ◌<◌, ◌-◌}
use lib.ListN.{drop}
use Rattle.names.specs.Table.{plain_name}
use Rattle.names.proofs.attributes.is_plain.Given as goal

abbrev pub invariant-loop-i-2 : goal.invariant-loop-i-2
invariant-loop-i-2 l = (l.initial.i ≤ l.i) × ((l.i < l.n) × (plain_name (drop l.i l.name) ≡ plain_name l.name))

abbrev pub decreases-loop-i-2 : goal.decreases-loop-i-2
decreases-loop-i-2 l = l.n - l.i

abbrev pub invariant-loop-i : goal.invariant-loop-i
invariant-loop-i l = (l.i ≤ l.n) × (plain_name (drop l.i l.name) ≡ plain_name l.name)

abbrev pub decreases-loop-i : goal.decreases-loop-i
decreases-loop-i l = l.n - l.i
