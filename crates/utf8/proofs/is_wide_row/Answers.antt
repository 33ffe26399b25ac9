-- `utf8::is_wide_row` meets its contract. The invariant: if the bytes so far are in order, the row is one if the rest of it is. Assumes nothing.
use native.Mathlib.Omega.{arith}
use Rattle.utf8.proofs.Rows.{row_on, row_all}
use Rattle.utf8.proofs.is_wide_row.Goals as goal

pub loop-b-init : goal.loop-b-init
loop-b-init c e r = r

pub loop-b-preserved : goal.loop-b-preserved
loop-b-preserved c e r = row_on _ _ _ c.fault.result c.loop-b.b-index _ (omega arith) c.loop-b.invariant c.fault.ensures e r

pub returns : goal.returns
returns c e = row_all _ _ _ c.loop-b.b-index _ (omega arith) c.loop-b.invariant e
