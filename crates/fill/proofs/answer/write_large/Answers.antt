-- `answer::write_large` meets its contract: as one field, an order cannot ask for more. Assumes nothing.
use native.Mathlib.Omega.{arith}
use mathlib.Core.Logic.{inr}
use Rattle.fill.proofs.answer.write_large.Goals as goal

pub write_by-requires : goal.write_by-requires
write_by-requires c = (c.requires, inr (omega arith), omega arith)
