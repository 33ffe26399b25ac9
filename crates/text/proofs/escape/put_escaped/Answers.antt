-- `text::escape::put_escaped` meets its contract. The loop's invariant: the escapes of the first i bytes are written. Assumes nothing.
use native.Mathlib.Omega.{arith}
use mathlib.Core.Path.{sym, ◌∙◌}
use Prim.Native.Nat.{◌+◌, ◌-◌, ◌^◌}
use lib.ListN.{get_or, take, drop}
use Rattle.field.proofs.PutLaws.{wrote_none}
use Rattle.text.specs.Escape.{escape_byte, escape_html}
use Rattle.text.specs.Runs.{plain}
use Rattle.text.proofs.RunLaws.{scan_le, scan_back}
use Rattle.text.proofs.WriteLaws.{room_for, wrote_more}
use Rattle.text.proofs.EscapeLaws.{escaped_run, escaped_sign, escaped_le}
use Rattle.text.proofs.escape.put_escaped.Goals as goal

pub loop-i-init : goal.loop-i-init
unfolding escape_html
loop-i-init c = (omega arith, wrote_none _ _)

pub put_bytes-a-requires : goal.put_bytes-a-requires
put_bytes-a-requires c = let args = c.args in let pre = c.requires in let s = args.s.now in
    let i = c.loop-i.i in let e = c.long_run_end-e.result in let run' = scan_back plain s i (omega arith) (sym c.has.ensures ∙ c.if-has.true) c.long_run_end-e.ensures.place in
    let h = room_for {k = 2 ^ 63} (take (e - i) (drop i s)) c.loop-i.invariant.1 (escaped_run s i e run') (escaped_le s e) pre in
    omega arith

pub loop-i-preserved-then-has : goal.loop-i-preserved-then-has
loop-i-preserved-then-has c = let args = c.args in let s = args.s.now in
    let b = scan_le plain s (c.loop-i.i + 1) (omega arith) c.long_run_end-e.ensures.place in
    let run' = scan_back plain s c.loop-i.i (omega arith) (sym c.has.ensures ∙ c.if-has.true) c.long_run_end-e.ensures.place in
    (b.1, wrote_more c.loop-i.invariant.1 (escaped_run s c.loop-i.i c.long_run_end-e.result run') c.put_bytes-a.ensures)

pub put_escape-a-requires : goal.put_escape-a-requires
put_escape-a-requires c = let args = c.args in let pre = c.requires in let s = args.s.now in
    let i = c.loop-i.i in let h = room_for {k = 2 ^ 63} (escape_byte (get_or s i 0)) c.loop-i.invariant.1 (escaped_sign s i (omega arith)) (escaped_le s (i + 1)) pre in
    omega arith

pub loop-i-preserved : goal.loop-i-preserved
loop-i-preserved c = let args = c.args in (omega arith, wrote_more c.loop-i.invariant.1 (escaped_sign args.s.now c.loop-i.i (omega arith)) c.put_escape-a.ensures)
