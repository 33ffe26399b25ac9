-- `tag_pass::pass::tag_turn` meets its contract. Assumes nothing.
use Rattle.tag_pass.specs.Turns.{turned, stayed}
use Rattle.tag_pass.proofs.PassLaws.{step_in_tag}
use Rattle.tag_pass.proofs.pass.tag_turn.Goals as goal

pub returns-in-InTag : goal.returns-in-InTag
returns-in-InTag c fs o i g = turned c.in-InTag.is (step_in_tag c.in-InTag.is c.step_tag.ensures o i g)

pub returns-in_default : goal.returns-in_default
returns-in_default c fs o i g = stayed c.in_default.not-InTag
