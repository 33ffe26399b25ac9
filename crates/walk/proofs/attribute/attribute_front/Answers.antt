-- The room of each arm.
use mathlib.Core.Path.{◌∙◌, sym, ap}
use mathlib.Core.List.{[]}
use native.Mathlib.Omega.{arith}
use Rattle.walk.specs.See.{at}
use Rattle.walk.proofs.ArmLaws.{front_room, front_done}
use Rattle.walk.proofs.attribute.attribute_front.Goals as goal

pub begin_leaf-requires : goal.begin_leaf-requires
begin_leaf-requires c = front_room _ _ _ c.in-True.is c.requires

pub begin_leaf-requires-in-String : goal.begin_leaf-requires-in-String
begin_leaf-requires-in-String c = front_room _ _ _ c.in-String.is c.requires

pub begin_leaf-requires-in-Null : goal.begin_leaf-requires-in-Null
begin_leaf-requires-in-Null c = front_room _ _ _ c.in-Null.is c.requires

pub begin_named-requires : goal.begin_named-requires
begin_named-requires c = front_room _ _ _ c.in-Attr.is c.requires

pub begin-requires : goal.begin-requires
begin-requires c = let l = front_room _ _ _ c.in-Choice.is c.requires in omega (arith, l.low_page)

pub returns-in-Choice : goal.returns-in-Choice
returns-in-Choice c = ap (at [] c.args.page.now) c.begin.ensures ∙ sym (front_done _ _ _ c.in-Choice.is)
