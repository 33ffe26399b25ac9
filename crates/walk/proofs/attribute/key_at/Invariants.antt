use Rattle.walk.proofs.ReadLaws.{Keying}
use Rattle.walk.proofs.attribute.key_at.Given as goal

abbrev pub invariant-loop-a : goal.invariant-loop-a
invariant-loop-a l = Keying l.norm l.s l.a-iterator.0.now l.key
