-- `first_with` meets its contract, as `find` runs: what is passed over has other tags. Assumes nothing.
use mathlib.Core.Path.{refl}
use borrow.Author.Rules.{rules}
use borrow.Author.Tests.{tests}
use Rattle.transform.proofs.OptionLaws.{first_found, body_found}
use Rattle.transform.proofs.options.first_with.Goals as goal

pub returns : goal.returns
returns c =
    let f = first_found c.args.tag c.args.options.now _ _ (λ x b q k. search (rules, tests)) (record { 0 = c.args.options }) c.find.new.self c.find.result refl c.find.ensures.ran in
    body_found (λ x y q. search rules) _ _ _ _ f c.map.ensures.cases
