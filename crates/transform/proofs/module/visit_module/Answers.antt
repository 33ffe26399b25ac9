-- `visit_module` meets its contract: what is left of the items leads to where all of them do. Assumes nothing.
use native.Mathlib.Omega.{arith}
use Rattle.visits.proofs.FieldLaws.{room_part}
use Rattle.transform.proofs.ItemLaws.{item_room, item_on, empty_room, empty_on, items_end}
use Rattle.transform.proofs.module.visit_module.Goals as goal

pub returns : goal.returns
returns c = items_end _ _ _ _ c.in-None.ensures.steps.no_tag _ _ _ c.loop-item.invariant.1 c.in-None.ensures.steps.ended

pub visit_item-cur-requires : goal.visit_item-cur-requires
visit_item-cur-requires c = let f = c.in-Some.ensures.steps in let i = c.loop-item.invariant in
    room_part _ _ _ _ c.requires c.loop-item.auto.scratch (omega (arith, f.sizes, i.0)) (item_room _ _ _ _ f.tag_is _ _ _ i.1 (omega arith) (omega arith) f.body_is c.requires.low)

pub loop-item-preserved-in-16-to-18 : goal.loop-item-preserved-in-16-to-18
loop-item-preserved-in-16-to-18 c = let f = c.in-Some.ensures.steps in let i = c.loop-item.invariant in
    (omega (arith, f.sizes, i.0), item_on _ _ _ _ f.tag_is _ _ _ i.1 (omega arith) (omega arith) f.body_is f.behind_is c.visit_item-cur.ensures)

pub leaf-cur-requires : goal.leaf-cur-requires
leaf-cur-requires c = let f = c.in-Some.ensures.steps in empty_room _ _ _ _ f.tag_is _ _ _ c.loop-item.invariant.1 (λ z. omega (arith, f.tag_below, z)) (λ l h. grind arith) c.requires.low

pub loop-item-preserved : goal.loop-item-preserved
loop-item-preserved c = let f = c.in-Some.ensures.steps in let i = c.loop-item.invariant in
    (omega (arith, f.sizes, i.0), empty_on _ _ _ _ f.tag_is _ _ _ i.1 (λ z. omega (arith, f.tag_below, z)) (λ l h. grind arith) f.behind_is c.leaf-cur.ensures)
