use Rattle.walk.proofs.LeafLaws.{leaf_close}
use Rattle.walk.proofs.state.leaf.Goals as goal

pub close_leaf-requires : goal.close_leaf-requires
close_leaf-requires c = leaf_close _ _ _ _ c.put_bytes-e.ensures c.requires
