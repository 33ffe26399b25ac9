-- `has_html` meets its contract, as `any` runs. Assumes nothing.
use borrow.Author.Rules.{rules}
use borrow.Author.Tests.{tests}
use mathlib.Core.Bool.{◌&&◌}
use mathlib.Core.List.{[]}
use lib.Dec.{leb}
use Rattle.field.specs.Row.{read}
use Rattle.page.specs.Tree.{pieces_in, module_items_in}
use Rattle.decisions.specs.At.{opts}
use Rattle.decisions.proofs.AnyLaws.{any_field}
use Rattle.transform.specs.Run.{has_html, piece_html}
use Rattle.transform.proofs.ExportLaws.{html_none, html_front}
use Rattle.transform.proofs.module.has_html.Goals as goal

pub returns : goal.returns
returns c =
    let k = c.args.skip.now in
    any_field (λ s. has_html (opts k []) (module_items_in (read s))) (λ f. (leb 0x10 f.tag && leb f.tag 0x12) && piece_html (opts k []) (pieces_in (read f.body.now))) (html_none k) (html_front k) _ _ (λ f b q h. search (rules, tests)) (record { 0 = c.args.s }) c.any.new.self c.any.result c.any.ensures.ran
