-- `read_tag::known::put_null` meets its contract. Assumes nothing.
use Rattle.read_tag.proofs.HeldLaws.{held_null}
use Rattle.read_tag.proofs.known.put_null.Goals as goal

pub returns : goal.returns
returns c = rw c.leaf.ensures (held_null c.put_head.ensures)
