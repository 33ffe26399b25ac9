use Rattle.convert.proofs.KindLaws.{Comparing}
use Rattle.convert.proofs.kinds.are_kinds.Given as goal

abbrev pub invariant-loop-k : goal.invariant-loop-k
invariant-loop-k l = Comparing l.kinds l.s l.left l.k-index
