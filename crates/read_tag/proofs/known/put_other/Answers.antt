-- `read_tag::known::put_other` meets its contract. Assumes nothing.
use native.Mathlib.Omega.{arith}
use Prim.Native.Nat.{◌+◌}
use lib.ListN.{length}
use Rattle.field.proofs.PutLaws.{length_head}
use Rattle.read_tag.proofs.HeldLaws.{held_other}
use Rattle.read_tag.proofs.known.put_other.Goals as goal

pub put_field-e-requires : goal.put_field-e-requires
put_field-e-requires c = omega (arith, c.put_head-a.ensures.end_is, length_head 0x79 (3 + length c.args.s.now), c.requires.1)

pub returns : goal.returns
returns c = rw c.leaf.ensures (held_other _ c.requires.0 c.put_head-a.ensures c.put_field-e.ensures)
