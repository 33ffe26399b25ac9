-- `read_tag::name::same_names` meets its contract. Assumes nothing.
use Rattle.std.proofs.Common.{rules, tests}
use Rattle.read_tag.proofs.NameWalkLaws.{pairs_compared}
use Rattle.read_tag.proofs.name.same_names.Goals as goal

pub returns : goal.returns
returns c = pairs_compared c.args.text.now c.args.i c.args.j c.requires.0 c.requires.1 _ _ _ c.all.new.self (search rules) (search rules) (search rules) (search rules) (λ x b q k. search (rules, tests)) c.all.ensures.ran
