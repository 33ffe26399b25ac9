-- `utf8::whole_bytes` meets its contract. Assumes nothing.
use native.Mathlib.Omega.{arith}
use Rattle.utf8.proofs.Rows.{whole_at, whole_all}
use Rattle.utf8.proofs.whole_bytes.Goals as goal

pub returns-then-block-ge192 : goal.returns-then-block-ge192
returns-then-block-ge192 c = whole_at 15 _ (omega arith) (omega arith) (omega arith)

pub returns-then-block-ge224 : goal.returns-then-block-ge224
returns-then-block-ge224 c = whole_at 14 _ (omega arith) (omega arith) (omega arith)

pub returns-then-block-ge240 : goal.returns-then-block-ge240
returns-then-block-ge240 c = whole_at 13 _ (omega arith) (omega arith) (omega arith)

pub returns-else-block-ge240 : goal.returns-else-block-ge240
returns-else-block-ge240 c = whole_all _ c.told-block (omega arith) (omega arith) (omega arith)
