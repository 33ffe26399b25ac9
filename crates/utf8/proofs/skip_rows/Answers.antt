-- `utf8::skip_rows` meets its contract. The invariant is the contract at what is left. Assumes nothing.
use native.Mathlib.Omega.{arith}
use Rattle.utf8.proofs.Rows.{skipped_none, skipped_on, skip_row, less_left}
use Rattle.utf8.proofs.skip_rows.Goals as goal

pub loop-block-init : goal.loop-block-init
loop-block-init g c = skipped_none _

pub loop-block-smaller : goal.loop-block-smaller
loop-block-smaller g c = let s = c.in-Some.ensures.cases in less_left c.whole_bytes.result c.loop-block.left.now c.whole_bytes.ensures.some (omega (arith, s.2))

pub loop-block-preserved : goal.loop-block-preserved
loop-block-preserved g c = let s = c.in-Some.ensures.cases in skipped_on c.loop-block.invariant (skip_row c.whole_bytes.result s.0 s.1 c.whole_bytes.ensures (c.is_row.ensures c.if-not-is_row.false))
