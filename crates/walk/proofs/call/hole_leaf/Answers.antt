use mathlib.Core.Path.{ap}
use mathlib.Core.Bool.{Bool}
use mathlib.Core.List.{[]}
use Rattle.spec.specs.Output as O
use Rattle.walk.specs.See.{at, hole_mid}
use Rattle.walk.proofs.LeafLaws.{low_as, done_as, node_room, node_inner, node_close, node_is}
use Rattle.walk.proofs.call.hole_leaf.Goals as goal

pub begin-requires : goal.begin-requires
begin-requires c = let a = c.args in node_room 0x76 (O.leaf 0x78 []) a.page.now a.st (low_as (at [] a.page.now a.st) (ap (λ (b : Bool). hole_mid b) c.if-splice.false) c.requires)

pub leaf-x-requires : goal.leaf-x-requires
leaf-x-requires c = let a = c.args in node_inner 0x76 (O.leaf 0x78 []) a.page.now a.st c.begin.ensures (low_as (at [] a.page.now a.st) (ap (λ (b : Bool). hole_mid b) c.if-splice.false) c.requires)

pub close-requires : goal.close-requires
close-requires c = let a = c.args in node_close 0x76 (O.leaf 0x78 []) a.page.now a.st c.begin.ensures c.leaf-x.ensures (low_as (at [] a.page.now a.st) (ap (λ (b : Bool). hole_mid b) c.if-splice.false) c.requires)

pub returns : goal.returns
returns c = let a = c.args in done_as (at [] a.page.now a.st) (ap (λ (b : Bool). hole_mid b) c.if-splice.false) (node_is 0x76 (O.leaf 0x78 []) a.page.now a.st c.begin.ensures c.leaf-x.ensures c.close.ensures)
