-- `move_block` meets its contract: the local holds the block, and is copied whole. Assumes nothing.
use native.Mathlib.Omega.{arith}
use mathlib.Core.Path.{◌≡◌, ap, ◌∙◌}
use Prim.Native.Nat.{◌+◌, ◌-◌}
use lib.ListN.{length, take, drop, length-drop}
use lib.Seq.{length-take-le}
use borrow.Rule.Slice.PartMut.{put_mid}
use Rattle.field.proofs.PutLaws.{put_part}
use Rattle.records.proofs.moves.move_block.Goals as goal

pub returns : goal.returns
returns g c =
    let out = c.args.out.now in
    let at = c.args.i + c.args.n in
    let w = take g.row.N (drop c.args.i out) in
    let l : length w ≡ g.row.N = length-take-le g.row.N (drop c.args.i out) (omega (arith, length-drop c.args.i out, c.requires)) in
    let k : at + g.row.N - at ≡ at + length w - at = omega (arith, l) in
    let s : c.args.i + g.row.N - c.args.i ≡ g.row.N = omega arith in
    rw (c.copy_bytes-2.ensures, c.copy_bytes.ensures, s) (ap (λ m. put_mid at m out w) k ∙ put_part out at w (omega (arith, l, c.requires)))
