-- `text::escape::put_short_escaped` meets its contract. The loop's invariant: the escapes of the first i bytes are written. Assumes nothing.
use native.Mathlib.Omega.{arith}
use mathlib.Core.Path.{sym, ◌∙◌}
use mathlib.Core.List.{[], ◌∷◌}
use Prim.Native.Nat.{◌-◌, ◌+◌, ◌^◌}
use lib.ListN.{length, get_or, take, drop}
use Rattle.field.proofs.PutLaws.{wrote_none}
use Rattle.text.specs.Escape.{escape_html}
use Rattle.text.proofs.WriteLaws.{room_for, wrote_more}
use Rattle.text.proofs.EscapeLaws.{escaped_plain, escaped_rest, escaped_le}
use Rattle.text.proofs.escape.put_short_escaped.Goals as goal

pub loop-i-init : goal.loop-i-init
unfolding escape_html
loop-i-init c = wrote_none _ _

pub put_escaped-requires-then-not-has : goal.put_escaped-requires-then-not-has
put_escaped-requires-then-not-has c = let s = c.args.s.now in let i = c.loop-i.i in let h = room_for {k = 2 ^ 63} (escape_html (take (length s - i) (drop i s))) c.loop-i.invariant (escaped_rest s i (omega arith)) (omega arith) c.requires in
    omega arith

pub returns-then-not-has : goal.returns-then-not-has
returns-then-not-has c = let s = c.args.s.now in wrote_more c.loop-i.invariant (escaped_rest s c.loop-i.i (omega arith)) c.put_escaped-then-not-has.ensures

pub put_byte-a-requires : goal.put_byte-a-requires
put_byte-a-requires c = let s = c.args.s.now in let i = c.loop-i.i in let is = sym c.has.ensures ∙ c.if-not-has.false in
    let h = room_for {k = 2 ^ 63} (get_or s i 0 ∷ []) c.loop-i.invariant (escaped_plain s i (omega arith) is) (escaped_le s (i + 1)) c.requires in
    omega arith

pub loop-i-preserved : goal.loop-i-preserved
loop-i-preserved c = let s = c.args.s.now in let is = sym c.has.ensures ∙ c.if-not-has.false in
    wrote_more c.loop-i.invariant (escaped_plain s c.loop-i.i (omega arith) is) c.put_byte-a.ensures
