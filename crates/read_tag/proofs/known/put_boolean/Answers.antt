-- `read_tag::known::put_boolean` meets its contract. Assumes nothing.
use native.Mathlib.Omega.{arith}
use Rattle.field.proofs.PutLaws.{length_head}
use Rattle.read_tag.proofs.HeldLaws.{held_boolean}
use Rattle.read_tag.proofs.known.put_boolean.Goals as goal

pub put_byte-requires : goal.put_byte-requires
put_byte-requires c = omega (arith, c.put_head-a.ensures.end_is, length_head 0x72 1, c.requires)

pub returns : goal.returns
returns c = rw c.leaf.ensures (held_boolean _ c.put_head-a.ensures (rw c.from.ensures at c.put_byte.ensures))
