-- `move_few` meets its contract: the last eight bytes are moved first, and those in front of them stand as they did. Assumes nothing.
use Prim.Native.Nat.{◌-◌}
use native.Mathlib.Omega.{arith}
use native.Mathlib.Nat.{le_refl}
use Rattle.records.proofs.MoveLaws.{move_none, move_block}
use Rattle.records.proofs.moves.move_few.Goals as goal

pub returns-then-end-p-ge8 : goal.returns-then-end-p-ge8
returns-then-end-p-ge8 c =
    let a = c.args in
    let i = a.end - 8 in
    let h = move_block a.out.now 8 a.end i a.end a.n (omega (arith, c.if-end-p-ge8.true)) (le_refl _) c.requires.1 (move_none a.out.now a.end a.n) c.move_block.ensures in
    move_block a.out.now (i - a.p) i a.p a.end a.n (omega (arith, c.if-end-p-ge8.true)) (omega arith) c.requires.1 h c.move_bytes.ensures
