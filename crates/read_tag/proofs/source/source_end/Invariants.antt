use Prim.Native.Nat.{◌-◌}
use lib.ListN.{length}
use Rattle.read_tag.proofs.SourceLaws.{Sourcing}
use Rattle.read_tag.proofs.source.source_end.Given as goal

abbrev pub invariant-loop-k : goal.invariant-loop-k
invariant-loop-k l = Sourcing l.text l.i l.k l.depth

abbrev pub decreases-loop-k : goal.decreases-loop-k
decreases-loop-k l = length l.text - l.k
