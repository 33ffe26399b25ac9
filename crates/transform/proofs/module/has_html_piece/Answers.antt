-- `has_html_piece` meets its contract, as `any` runs. Assumes nothing.
use borrow.Author.Rules.{rules}
use borrow.Author.Tests.{tests}
use mathlib.Core.Bool.{◌&&◌}
use mathlib.Core.List.{[]}
use lib.Dec.{eqb}
use Rattle.field.specs.Row.{read}
use Rattle.page.specs.Tree.{pieces_in}
use Rattle.decisions.specs.At.{opts, serializable}
use Rattle.decisions.proofs.AnyLaws.{any_field}
use Rattle.transform.specs.Run.{piece_html}
use Rattle.transform.proofs.ExportLaws.{piece_none, piece_front}
use Rattle.transform.proofs.module.has_html_piece.Goals as goal

pub returns : goal.returns
returns c =
    let k = c.args.skip.now in
    any_field (λ s. piece_html (opts k []) (pieces_in (read s))) (λ f. eqb f.tag 0x30 && serializable k f.body.now) (piece_none k) (piece_front k) _ _ (λ f b q h. search (rules, tests)) (record { 0 = c.args.s }) c.any.new.self c.any.result c.any.ensures.ran
