-- `read_tag::known::put_whole` meets its contract. Assumes nothing.
use mathlib.Core.Path.{◌≡◌}
use Rattle.read_tag.specs.Knowns.{whole_tag}
use Rattle.read_tag.proofs.HeldLaws.{held_whole}
use Rattle.read_tag.proofs.known.put_whole.Goals as goal
use Rattle.read_tag.proofs.known.put_whole.Goals.{then-minus, else-minus}

pub returns : goal.returns
unfolding whole_tag
returns c =
    let t : c.if-minus.tag ≡ whole_tag c.args.minus = elim c.if-minus.branch [ then-minus w ↦ rw (w.tag-is, w.if-minus.true) | else-minus w ↦ rw (w.tag-is, w.if-minus.false) ] in
    rw c.leaf.ensures (held_whole _ _ _ t c.put_number_field-e.ensures)
