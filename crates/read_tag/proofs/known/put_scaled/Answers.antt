-- `read_tag::known::put_scaled` meets its contract. Assumes nothing.
use native.Mathlib.Omega.{arith}
use mathlib.Core.Path.{◌≡◌}
use Rattle.field.proofs.PutLaws.{length_head}
use Rattle.read_tag.specs.Knowns.{decimal_tag}
use Rattle.read_tag.proofs.HeldLaws.{length_eight, held_decimal}
use Rattle.read_tag.proofs.known.put_scaled.Goals as goal
use Rattle.read_tag.proofs.known.put_scaled.Goals.{then-minus, else-minus}

pub put_eight-b-requires : goal.put_eight-b-requires
put_eight-b-requires c = omega (arith, c.put_head-a.ensures.end_is, length_head c.if-minus.tag 9, c.requires)

pub put_byte-e-requires : goal.put_byte-e-requires
put_byte-e-requires c = omega (arith, c.put_eight-b.ensures.end_is, length_eight c.args.v, c.put_head-a.ensures.end_is, length_head c.if-minus.tag 9, c.requires)

pub returns : goal.returns
unfolding decimal_tag
returns c =
    let t : c.if-minus.tag ≡ decimal_tag c.args.minus = elim c.if-minus.branch [ then-minus w ↦ rw (w.tag-is, w.if-minus.true) | else-minus w ↦ rw (w.tag-is, w.if-minus.false) ] in
    rw c.leaf.ensures (held_decimal _ _ _ _ t c.put_head-a.ensures c.put_eight-b.ensures c.put_byte-e.ensures)
