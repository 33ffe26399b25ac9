-- `answer::write` meets its contract: a small order asks for few records. Assumes nothing.
use native.Mathlib.Omega.{arith}
use mathlib.Core.Logic.{inl}
use Rattle.fill.proofs.answer.write.Goals as goal

pub write_by-requires : goal.write_by-requires
write_by-requires c = (c.requires, inl (omega arith), omega arith)
