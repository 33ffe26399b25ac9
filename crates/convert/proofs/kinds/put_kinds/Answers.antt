-- `kinds::put_kinds` meets its contract: what is written and what is left to write are all. Assumes nothing.
use native.Mathlib.Omega.{arith}
use Rattle.convert.proofs.KindLaws.{marking_on, marking_stops, marking_ends}
use Rattle.convert.proofs.kinds.put_kinds.Goals as goal

pub returns-in_err-next_kind : goal.returns-in_err-next_kind
returns-in_err-next_kind c = rw c.from_residual.ensures (marking_stops c.loop.invariant c.loop-test.true c.in_err-next_kind.ensures)

pub loop-preserved : goal.loop-preserved
loop-preserved c = marking_on c.loop.invariant c.loop-test.true c.in_ok-next_kind.ensures c.put_byte-a.ensures

pub returns : goal.returns
returns c = marking_ends c.loop.invariant (omega arith)
