use native.Mathlib.Omega.{arith}
use Rattle.walk.proofs.LeafLaws.{leaf_close, leaf_is}
use Rattle.walk.proofs.ArmLaws.{namespaced_room, namespaced_wrote}
use Rattle.walk.proofs.call.namespaced_leaf.Goals as goal

pub overflow_add-st : goal.overflow_add-st
overflow_add-st c = omega (arith, namespaced_room _ _ _ _ c.requires)

pub put_bytes-x-requires : goal.put_bytes-x-requires
put_bytes-x-requires c = omega (arith, namespaced_room _ _ _ _ c.requires)

pub put_byte-y-requires : goal.put_byte-y-requires
put_byte-y-requires c = omega (arith, namespaced_room _ _ _ _ c.requires, c.put_bytes-x.ensures.end_is)

pub put_bytes-z-requires : goal.put_bytes-z-requires
put_bytes-z-requires c = omega (arith, namespaced_room _ _ _ _ c.requires, c.put_bytes-x.ensures.end_is, c.put_byte-y.ensures.end_is)

pub close_leaf-requires : goal.close_leaf-requires
close_leaf-requires c = let a = c.args in leaf_close _ _ 0x81 _ (namespaced_wrote _ a.st _ _ c.put_bytes-x.ensures c.put_byte-y.ensures c.put_bytes-z.ensures) c.requires

pub returns : goal.returns
returns c = let a = c.args in leaf_is _ _ 0x81 _ (namespaced_wrote _ a.st _ _ c.put_bytes-x.ensures c.put_byte-y.ensures c.put_bytes-z.ensures) c.close_leaf.ensures
