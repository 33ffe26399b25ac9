-- A string is normalised; else it is what stands in an opening tag.
use mathlib.Core.Path.{◌∙◌, sym}
use mathlib.Core.List.{[]}
use native.Mathlib.Omega.{arith}
use Rattle.field.specs.Bytes.{Bytes}
use Rattle.text.specs.Text.{normalize_lit_str}
use Rattle.walk.specs.See.{at}
use Rattle.walk.proofs.LeafLaws.{low_world, front_low, rest_low, rest_is}
use Rattle.walk.proofs.ArmLaws.{front_room, front_done, fronts_agree}
use Rattle.walk.proofs.attribute.property_front.Goals as goal

pub begin_named-x-requires : goal.begin_named-x-requires
begin_named-x-requires c = front_low _ _ _ _ (front_room normalize_lit_str _ _ c.in-String.is c.requires)

pub attr_string_leaf-requires : goal.attr_string_leaf-requires
attr_string_leaf-requires c = rest_low _ _ _ _ c.begin_named-x.ensures (front_room normalize_lit_str _ _ c.in-String.is c.requires)

pub returns-in-String : goal.returns-in-String
returns-in-String c = rest_is _ _ _ _ c.begin_named-x.ensures c.attr_string_leaf.ensures ∙ sym (front_done normalize_lit_str _ _ c.in-String.is)

pub attribute_front-requires : goal.attribute_front-requires
attribute_front-requires c = let a = c.args in low_world (sym (fronts_agree (λ (b : Bytes). b) normalize_lit_str a.a.now (at [] a.page.now a.st) a.gap (grind arith))) c.requires

pub returns-in_default : goal.returns-in_default
returns-in_default c = let a = c.args in c.attribute_front.ensures ∙ fronts_agree (λ (b : Bytes). b) normalize_lit_str a.a.now (at [] a.page.now a.st) a.gap (grind arith)
