use Rattle.field.specs.Bytes.{ascii}
use Rattle.spec.specs.Output as O
use Rattle.walk.proofs.LeafLaws.{begun_room}
use Rattle.walk.proofs.ArmLaws.{stands_low}
use Rattle.walk.proofs.call.children_front.Goals as goal

pub begin-requires : goal.begin-requires
begin-requires c = let a = c.args in let m = O.leaf 0x81 (ascii "children") in
    begun_room m a.page.now a.st (stands_low a.stands m a.page.now a.st c.if-stands.true c.requires)
