use Rattle.walk.proofs.LeafLaws.{front_low}
use Rattle.walk.proofs.attribute.begin_leaf.Goals as goal

pub begin_named-x-requires : goal.begin_named-x-requires
begin_named-x-requires c = front_low _ _ _ _ c.requires
