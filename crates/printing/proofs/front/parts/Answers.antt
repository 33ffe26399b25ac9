-- `printing::front::parts` meets its contract. Assumes nothing.
use mathlib.Core.Path.{◌∙◌}
use Rattle.printing.proofs.FrontLaws.{front_fits, front_is, inner_is}
use Rattle.printing.proofs.front.parts.Goals as goal

pub split_at-requires : goal.split_at-requires
split_at-requires c = let f = c.args.field in front_fits f.tag f.body.now c.front_len.ensures

pub returns-clause-front : goal.returns-clause-front
returns-clause-front c = let f = c.args.field in c.split_at.ensures.front ∙ front_is f.tag f.body.now c.front_len.ensures

pub returns-clause-inner : goal.returns-clause-inner
returns-clause-inner c = let f = c.args.field in c.split_at.ensures.back ∙ inner_is f.tag f.body.now c.front_len.ensures
