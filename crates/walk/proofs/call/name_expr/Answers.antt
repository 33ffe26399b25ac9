-- A member, a namespaced name, or an identifier.
use mathlib.Core.List.{[]}
use Rattle.walk.specs.See.{at}
use Rattle.walk.proofs.LeafLaws.{low_as, done_as, node_room, node_inner, node_close, node_is}
use Rattle.walk.proofs.ArmLaws.{name_expr_upper, name_expr_small, name_expr_members, name_expr_pair}
use Rattle.walk.proofs.call.name_expr.Goals as goal

pub leaf-requires : goal.leaf-requires
leaf-requires c = let a = c.args in low_as (at [] a.page.now a.st) (name_expr_upper c.in-Identifier.ensures c.is_upper.ensures c.if-is_upper.true) c.requires

pub returns-in-Identifier : goal.returns-in-Identifier
returns-in-Identifier c = let a = c.args in done_as (at [] a.page.now a.st) (name_expr_upper c.in-Identifier.ensures c.is_upper.ensures c.if-is_upper.true) c.leaf.ensures

pub leaf-requires-in-Identifier-2 : goal.leaf-requires-in-Identifier-2
leaf-requires-in-Identifier-2 c = let a = c.args in low_as (at [] a.page.now a.st) (name_expr_small c.in-Identifier.ensures c.is_upper.ensures c.if-is_upper.false) c.requires

pub returns-in-Identifier-2 : goal.returns-in-Identifier-2
returns-in-Identifier-2 c = let a = c.args in done_as (at [] a.page.now a.st) (name_expr_small c.in-Identifier.ensures c.is_upper.ensures c.if-is_upper.false) c.leaf-in-Identifier-2.ensures

pub begin-requires : goal.begin-requires
begin-requires c = let a = c.args in node_room 0x41 _ a.page.now a.st (low_as (at [] a.page.now a.st) (name_expr_members c.in-Member.ensures) c.requires)

pub member_names-a-requires : goal.member_names-a-requires
member_names-a-requires c = let a = c.args in node_inner 0x41 _ a.page.now a.st c.begin.ensures (low_as (at [] a.page.now a.st) (name_expr_members c.in-Member.ensures) c.requires)

pub close-requires : goal.close-requires
close-requires c = let a = c.args in node_close 0x41 _ a.page.now a.st c.begin.ensures c.member_names-a.ensures (low_as (at [] a.page.now a.st) (name_expr_members c.in-Member.ensures) c.requires)

pub returns-in-Member : goal.returns-in-Member
returns-in-Member c = let a = c.args in done_as (at [] a.page.now a.st) (name_expr_members c.in-Member.ensures) (node_is 0x41 _ a.page.now a.st c.begin.ensures c.member_names-a.ensures c.close.ensures)

pub namespaced_leaf-requires : goal.namespaced_leaf-requires
namespaced_leaf-requires c = let a = c.args in low_as (at [] a.page.now a.st) (name_expr_pair c.in-Namespaced.ensures) c.requires

pub returns-in-Namespaced : goal.returns-in-Namespaced
returns-in-Namespaced c = let a = c.args in done_as (at [] a.page.now a.st) (name_expr_pair c.in-Namespaced.ensures) c.namespaced_leaf.ensures
