-- `printing::front::first_front` meets its contract. Assumes nothing.
use mathlib.Core.Path.{◌∙◌}
use Rattle.printing.proofs.FrontLaws.{front_here, front_none}
use Rattle.printing.proofs.front.first_front.Goals as goal

pub returns-in-Some : goal.returns-in-Some
returns-in-Some c = c.parts.ensures.front ∙ front_here _ c.in-Some.ensures.tag_is c.in-Some.ensures.body_is

pub returns-in-None : goal.returns-in-None
returns-in-None c = front_none _ c.in-None.ensures.ended
