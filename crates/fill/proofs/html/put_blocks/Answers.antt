-- `html::put_blocks` meets its contract. The loop's invariant: the escapes of the first i bytes are written. Assumes nothing.
use native.Mathlib.Omega.{arith}
use Prim.Native.Nat.{◌+◌, ◌-◌}
use lib.ListN.{length, drop, length-take, length-drop}
use Rattle.field.proofs.PutLaws.{wrote_none}
use Rattle.text.specs.Escape.{escape_html}
use Rattle.text.proofs.WriteLaws.{wrote_more}
use Rattle.text.proofs.EscapeLaws.{escaped_rest}
use Rattle.fill.proofs.TextLaws.{room_at, escaped_block}
use Rattle.fill.proofs.html.put_blocks.Goals as goal

pub loop-i-init : goal.loop-i-init
unfolding escape_html
loop-i-init c = (omega arith, wrote_none _ _)

pub put_block-a-requires : goal.put_block-a-requires
put_block-a-requires c =
    let s = c.args.s.now in
    let i = c.loop-i.i in
    let r = room_at s i 8 c.loop-i.invariant.1 (omega (arith, c.loop-i-test.true)) c.requires in
    (omega (arith, c.loop-i-test.true, length-take (i + 8 - i) (drop i s), length-drop i s), omega (arith, r, length-take (i + 8 - i) (drop i s), length-drop i s))

pub loop-i-preserved : goal.loop-i-preserved
loop-i-preserved c =
    let i = c.loop-i.i in
    (omega (arith, c.loop-i-test.true), wrote_more c.loop-i.invariant.1 (escaped_block c.args.s.now i (i + 8 - i) (i + 8) (omega arith)) c.put_block-a.ensures)

pub put_each-requires : goal.put_each-requires
put_each-requires c =
    let s = c.args.s.now in
    let i = c.loop-i.i in
    let r = room_at s i (length s - i) c.loop-i.invariant.1 (omega (arith, c.loop-i.invariant.0)) c.requires in
    omega (arith, r, length-take (length s - i) (drop i s), length-drop i s)

pub returns : goal.returns
returns c = wrote_more c.loop-i.invariant.1 (escaped_rest c.args.s.now c.loop-i.i c.loop-i.invariant.0) c.put_each.ensures
