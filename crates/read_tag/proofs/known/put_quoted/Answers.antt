-- `read_tag::known::put_quoted` meets its contract. Assumes nothing.
use Rattle.read_tag.proofs.HeldLaws.{held_quoted}
use Rattle.read_tag.proofs.known.put_quoted.Goals as goal

pub returns : goal.returns
returns c = rw c.leaf.ensures (held_quoted _ c.requires.0 c.put_field.ensures)
