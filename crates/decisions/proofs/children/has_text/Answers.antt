use borrow.Author.Rules.{rules}
use borrow.Author.Tests.{tests}
use mathlib.Core.Bool.{◌&&◌, not, false}
use lib.Dec.{eqb}
use Rattle.field.specs.Bytes.{null?}
use Rattle.field.specs.Row.{read}
use Rattle.text.specs.Text.{jsx_text_to_str}
use Rattle.page.specs.Tree.{children_in}
use Rattle.decisions.specs.At.{some_text}
use Rattle.decisions.proofs.AnyLaws.{any_field}
use Rattle.decisions.proofs.ChildrenLaws.{text_front, no_text}
use Rattle.decisions.proofs.children.has_text.Goals as goal

pub returns : goal.returns
returns c =
    any_field (λ s. some_text (children_in (read s))) (λ f. eqb f.tag 0x60 && not (null? (jsx_text_to_str f.body.now false false))) no_text text_front _ _ (λ f b q k. search (rules, tests)) (record { 0 = c.args.s }) c.any.new.self c.any.result c.any.ensures.ran
