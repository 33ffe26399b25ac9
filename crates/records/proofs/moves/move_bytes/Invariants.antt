use Prim.Native.Nat.{◌+◌, ◌-◌, ◌≤◌}
use mathlib.Core.Path.{◌≡◌}
use lib.ListN.{take, drop}
use Rattle.field.specs.Put.{put}
use Rattle.records.proofs.moves.move_bytes.Given as goal

abbrev pub invariant-loop-i : goal.invariant-loop-i
invariant-loop-i l = (l.p ≤ l.i) × ((l.i ≤ l.end) × (l.out ≡ put l.initial.out (l.i + l.n) (take (l.end - l.i) (drop l.i l.initial.out))))
