use Rattle.convert.proofs.KindLaws.{Marking}
use Rattle.convert.proofs.kinds.put_kinds.Given as goal

abbrev pub invariant-loop : goal.invariant-loop
invariant-loop l = Marking l.initial.out l.at l.gaps l.s l.out l.left l.counter l.a
