use Rattle.walk.proofs.LeafLaws.{leaf_close}
use Rattle.walk.proofs.state.number_leaf.Goals as goal

pub close_leaf-requires : goal.close_leaf-requires
close_leaf-requires c = leaf_close _ _ _ _ c.put_number_bytes_at-e.ensures c.requires
