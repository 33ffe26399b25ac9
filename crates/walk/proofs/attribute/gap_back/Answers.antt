-- A choice ends with a name; any other field with its head.
use mathlib.Core.Path.{◌∙◌, ap}
use native.Mathlib.Omega.{arith}
use Rattle.walk.specs.See.{wrap}
use Rattle.walk.proofs.ArmLaws.{back_plain, back_choice, plain_room, choice_room, choice_close}
use Rattle.walk.proofs.attribute.gap_back.Goals as goal

pub name_leaf-x-requires : goal.name_leaf-x-requires
name_leaf-x-requires c = choice_room c.args.tag _ c.args.p _ _ c.requires c.in-Choice.is

pub close-requires : goal.close-requires
close-requires c = choice_close c.args.tag _ c.args.p _ _ c.requires c.in-Choice.is c.name_leaf-x.ensures

pub close-requires-in-True : goal.close-requires-in-True
close-requires-in-True c = plain_room c.args.tag _ c.args.p _ _ c.requires (grind arith)

pub returns-in-Choice : goal.returns-in-Choice
returns-in-Choice c = c.close.ensures ∙ ap (wrap 0x93 c.args.p) c.name_leaf-x.ensures ∙ back_choice c.args.tag _ c.args.p _ _ c.in-Choice.is

pub returns-in-True : goal.returns-in-True
returns-in-True c = c.close-in-True.ensures ∙ back_plain c.args.tag _ c.args.p _ _ (grind arith)
