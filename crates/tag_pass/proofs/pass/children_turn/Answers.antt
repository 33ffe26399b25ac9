-- `tag_pass::pass::children_turn` meets its contract. Assumes nothing.
use Rattle.tag_pass.specs.Turns.{turned, stayed}
use Rattle.tag_pass.proofs.PassLaws.{step_in_children}
use Rattle.tag_pass.proofs.pass.children_turn.Goals as goal

pub step_children-requires : goal.step_children-requires
step_children-requires c = c.requires c.in-InChildren.is

pub returns-in-InChildren : goal.returns-in-InChildren
returns-in-InChildren c fs o i g = turned c.in-InChildren.is (step_in_children c.in-InChildren.is c.step_children.ensures o i g)

pub returns-in_default : goal.returns-in_default
returns-in_default c fs o i g = stayed c.in_default.not-InChildren
