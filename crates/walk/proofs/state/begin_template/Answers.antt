use Rattle.walk.proofs.LeafLaws.{numbered_is}
use Rattle.walk.proofs.state.begin_template.Goals as goal

pub returns : goal.returns
returns c = let a = c.args in numbered_is a.page.now a.st c.put_four.ensures
