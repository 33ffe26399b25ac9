-- `utf8::is_narrow_row` meets its contract. The invariant is that of `is_wide_row`, and that no byte so far begins three bytes. Assumes nothing.
use native.Mathlib.Omega.{arith}
use Rattle.utf8.proofs.Rows.{narrow_on, narrow_all}
use Rattle.utf8.proofs.is_narrow_row.Goals as goal

pub loop-b-init : goal.loop-b-init
loop-b-init c e = (omega arith, λ r. r 0 0 (omega arith) (omega arith))

pub loop-b-preserved : goal.loop-b-preserved
loop-b-preserved c e = narrow_on _ c.narrow_fault.result c.loop-b.b-index _ (omega arith) c.loop-b.invariant c.narrow_fault.ensures e

pub returns : goal.returns
returns c e = narrow_all _ c.loop-b.b-index _ (omega arith) c.loop-b.invariant e
