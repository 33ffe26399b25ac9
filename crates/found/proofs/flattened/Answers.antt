use native.Mathlib.Omega.{arith}
use Rattle.found.proofs.Places.{front_is, front_none}
use Rattle.found.proofs.FlattenLaws.{flat_77, flat_78, flat_other, flat_many, flat_placed, flat_rest}
use Rattle.found.proofs.flattened.Goals as goal

pub returns-in-Some-eq119 : goal.returns-in-Some-eq119
returns-in-Some-eq119 c = flat_77 _ _ c.requires c.in-Item.is c.part.ensures c.in-Some-eq119.ensures (omega arith) c.place.ensures

pub returns-in-Some-eq120 : goal.returns-in-Some-eq120
returns-in-Some-eq120 c = flat_78 _ _ c.requires c.in-Item.is c.part.ensures c.in-Some-eq120.ensures.tag_is (omega arith)

pub returns-in_default-field_at : goal.returns-in_default-field_at
returns-in_default-field_at c = flat_other _ _ c.requires c.in-Item.is c.part.ensures (front_is c.field_at.ensures c.in_default-field_at.is).tag_is (grind arith) (grind arith)

pub returns-in_default-field_at-2 : goal.returns-in_default-field_at-2
returns-in_default-field_at-2 c = flat_other _ _ c.requires c.in-Item.is c.part.ensures (front_none c.field_at.ensures c.in_default-field_at.is).no_tag (λ z. omega (arith, z)) (λ z. omega (arith, z))

pub returns-then-f-eq0 : goal.returns-then-f-eq0
returns-then-f-eq0 c = flat_many _ _ c.requires c.in-Many.is c.place-then-f-eq0.ensures

pub returns-else-f-eq0 : goal.returns-else-f-eq0
returns-else-f-eq0 c = flat_placed _ _ c.requires c.in-Many.is c.if-f-eq0.false

pub returns-in_default : goal.returns-in_default
returns-in_default c = flat_rest _ _ c.requires c.in_default.not-Many c.in_default.not-Item
