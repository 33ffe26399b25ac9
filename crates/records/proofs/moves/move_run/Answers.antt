-- `move_run` meets its contract: the bytes from i on are moved already, and those in front of them stand as they did. Assumes nothing.
use Prim.Native.Nat.{◌-◌}
use native.Mathlib.Omega.{arith}
use native.Mathlib.Nat.{le_refl}
use borrow.Author.Rules.{rules}
use Rattle.records.proofs.MoveLaws.{move_none, move_block}
use Rattle.records.proofs.moves.move_run.Goals as goal

pub loop-i-init : goal.loop-i-init
loop-i-init c = (search rules, (le_refl _, move_none _ _ _))

pub loop-i-preserved : goal.loop-i-preserved
loop-i-preserved c = let a = c.args in (omega arith, (omega arith, move_block a.out.now 16 c.loop-i.i (c.loop-i.i - 16) a.end a.n (omega arith) c.loop-i.invariant.1.0 c.requires.1 c.loop-i.invariant.1.1 c.move_block.ensures))

pub returns : goal.returns
returns c = (let a = c.args in move_block a.out.now (c.loop-i.i - a.p) c.loop-i.i a.p a.end a.n (omega arith) c.loop-i.invariant.1.0 c.requires.1 c.loop-i.invariant.1.1 c.move_few.ensures)
