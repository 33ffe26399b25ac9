use mathlib.Core.Path.{◌∙◌}
use borrow.Author.Rules.{rules}
use borrow.Author.Tests.{tests}
use Rattle.field.specs.Bytes.{same}
use Rattle.std.proofs.lemmas.Iterator.{YieldsList-from_take}
use Rattle.std.proofs.lemmas.Iterator.Consumers.{YieldsList-at}
use Rattle.std.proofs.lemmas.Iterator.Search.{any_from_yields_List}
use Rattle.decisions.specs.Repeats.{name_in}
use Rattle.decisions.proofs.RepeatLaws.{attributes_yield, any_among}
use Rattle.decisions.proofs.repeats.earlier_has.Goals as goal

pub returns : goal.returns
returns c = any_from_yields_List (same (name_in c.args.a.now)) c.any.new.self _ _ c.any.ensures.ran (YieldsList-from_take c.args.k (YieldsList-at c.take.ensures.source (attributes_yield (record { 0 = c.args.s }))) c.take.ensures.count) (λ x b q k. search (rules, tests))
    ∙ any_among (name_in c.args.a.now) _
