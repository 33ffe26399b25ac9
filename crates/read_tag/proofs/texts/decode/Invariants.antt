use Prim.Native.Nat.{◌-◌}
use lib.ListN.{length}
use Rattle.read_tag.proofs.TextLaws.{Decoding}
use Rattle.read_tag.proofs.texts.decode.Given as goal

abbrev pub invariant-loop-entity : goal.invariant-loop-entity
invariant-loop-entity l = Decoding l.x l.text l.i l.initial.out l.at l.k l.out l.a

abbrev pub decreases-loop-entity : goal.decreases-loop-entity
decreases-loop-entity l = length l.text - l.k
