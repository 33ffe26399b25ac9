use borrow.Author.Rules.{rules}
use borrow.Author.Tests.{tests}
use mathlib.Core.Bool.{◌&&◌}
use lib.Dec.{eqb}
use Rattle.field.specs.Bytes.{among, same}
use Rattle.field.specs.Row.{read}
use Rattle.page.specs.Tree.{texts_in}
use Rattle.decisions.proofs.AnyLaws.{any_field}
use Rattle.decisions.proofs.AttributeLaws.{listed_front, listed_none}
use Rattle.decisions.proofs.index.in_series.Goals as goal

pub returns : goal.returns
returns g c =
    let x = g.N.Asked.bytes c.args.asked.now in
    any_field (λ s. among x (texts_in 0x20 (read s))) (λ f. eqb f.tag 0x20 && same x f.body.now) (listed_none x) (listed_front x) _ _ (λ f b q k. search (rules, tests)) (record { 0 = c.args.list }) c.any.new.self c.any.result c.any.ensures.ran
