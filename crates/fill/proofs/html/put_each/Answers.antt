-- `html::put_each` meets its contract. The loop's invariant: the escapes of the bytes so far are written. Assumes nothing.
use native.Mathlib.Omega.{arith}
use mathlib.Core.Path.{ap}
use lib.Seq.{take_all}
use Rattle.field.proofs.PutLaws.{wrote_none, wrote_is}
use Rattle.text.specs.Escape.{escape_html}
use Rattle.text.proofs.WriteLaws.{wrote_more}
use Rattle.text.proofs.EscapeLaws.{escaped_sign}
use Rattle.fill.proofs.TextLaws.{room_at}
use Rattle.fill.proofs.html.put_each.Goals as goal

pub loop-b-init : goal.loop-b-init
unfolding escape_html
loop-b-init c = wrote_none _ _

pub put_one-a-requires : goal.put_one-a-requires
put_one-a-requires c = omega (arith, room_at c.args.s.now c.loop-b.b-index 1 c.loop-b.invariant (omega arith) c.requires)

pub loop-b-preserved : goal.loop-b-preserved
loop-b-preserved c = wrote_more c.loop-b.invariant (escaped_sign c.args.s.now c.loop-b.b-index (omega arith)) c.put_one-a.ensures

pub returns : goal.returns
returns c = wrote_is (ap escape_html (take_all c.loop-b.b-index c.args.s.now (omega arith))) c.loop-b.invariant
