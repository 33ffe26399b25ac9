use mathlib.Core.Path.{◌≡◌}
use Prim.Native.Nat.{◌+◌}
use lib.ListN.{length}
use Rattle.decisions.proofs.BuildLaws.{Built}
use Rattle.decisions.proofs.index.index_names.Given as goal

abbrev pub invariant-loop-field : goal.invariant-loop-field
invariant-loop-field l = Built l.out l.list l.k l.field-iterator.0.now × (l.place + length l.field-iterator.0.now ≡ length l.list)
