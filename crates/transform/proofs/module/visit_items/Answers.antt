-- `visit_items` meets its contract: the place goes between the two parts of the items. Assumes nothing.
use mathlib.Core.Path.{refl, ◌∙◌}
use native.Mathlib.Omega.{arith}
use Rattle.visits.proofs.FieldLaws.{room_part, room_is}
use Rattle.transform.proofs.ItemLaws.{part_room, place_room, place_on}
use Rattle.transform.proofs.module.visit_items.Goals as goal

pub visit_module-a-requires : goal.visit_module-a-requires
visit_module-a-requires c = let p = c.split_items.ensures in room_part _ _ _ _ c.requires refl (omega (arith, p.sizes)) (part_room _ _ _ _ _ _ p c.requires.low)

pub leaf-b-requires : goal.leaf-b-requires
leaf-b-requires c = let p = c.split_items.ensures in place_room _ _ _ _ _ _ p c.visit_module-a.ensures c.requires.low

pub visit_module-requires : goal.visit_module-requires
visit_module-requires c = let p = c.split_items.ensures in room_is _ _ _ _ c.requires c.visit_module-a.auto.scratch (omega (arith, p.sizes)) (place_on _ _ _ _ _ _ p c.visit_module-a.ensures c.leaf-b.ensures)

pub returns : goal.returns
returns c = let p = c.split_items.ensures in c.visit_module.ensures ∙ place_on _ _ _ _ _ _ p c.visit_module-a.ensures c.leaf-b.ensures
