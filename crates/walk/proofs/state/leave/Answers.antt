use Rattle.walk.proofs.LeafLaws.{left_done}
use Rattle.walk.proofs.state.leave.Goals as goal

pub returns : goal.returns
returns c = let a = c.args in left_done a.page.now a.st c.leaf-w.ensures c.graver-due.ensures
