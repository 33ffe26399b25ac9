-- `kinds::are_kinds` meets its contract: the kinds before i are those of the strings. Assumes nothing.
use native.Mathlib.Omega.{arith}
use Rattle.convert.proofs.KindLaws.{comparing_off, comparing_on, comparing_ends}
use Rattle.convert.proofs.kinds.are_kinds.Goals as goal

pub returns-then-ne : goal.returns-then-ne
returns-then-ne c = comparing_off c.loop-k.invariant c.loop-k-test.true c.next_kind.ensures c.if-ne.ensures

pub loop-k-preserved : goal.loop-k-preserved
loop-k-preserved c = comparing_on c.loop-k.invariant c.loop-k-test.true c.next_kind.ensures c.if-ne.ensures

pub returns : goal.returns
returns c = comparing_ends c.loop-k.invariant (omega arith)
