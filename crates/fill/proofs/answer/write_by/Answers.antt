-- `answer::write_by` meets its contract: an order without one of its records has no HTML, and else its body is written. Assumes nothing.
use mathlib.Core.Path.{sym, ap, ap₂, ◌∙◌}
use native.Mathlib.Omega.{arith}
use lib.ListN.{length}
use Rattle.field.specs.Bytes.{Bytes, AllBytes}
use Rattle.field.specs.Row.{read}
use Rattle.field.proofs.NumberLaws.{all_from}
use Rattle.fill.proofs.AskedLaws.{unknown_none}
use Rattle.fill.proofs.HtmlLaws.{fills_is}
use Rattle.fill.specs.Writing.{html_of_body}
use Rattle.fill.proofs.WholeLaws.{body_short, entries_fit, order_html}
use Rattle.fill.proofs.answer.write_by.Goals as goal

pub returns-in_default : goal.returns-in_default
returns-in_default g c =
    let e = c.in_ok-index.ensures.0 in
    let n = rw c.in_default.is at c.in_ok-index.ensures.1 in
    (e, fills_is _ _ _ _ (unknown_none _ _ e n.0 n.1 n.2) tt)

pub write_order-requires : goal.write_order-requires
write_order-requires g c =
    let a : AllBytes c.args.order.now = all_from _ (λ i. (c.type_inv.order i).fits) in
    let e = c.in_ok-index.ensures.0 in
    let n = rw c.in-Some.is at c.in_ok-index.ensures.1 in
    (entries_fit c.args.order.now e c.entries.ensures n.1 c.body.ensures, omega (arith, body_short c.args.order.now e a, ap length c.body.ensures))

pub returns : goal.returns
returns g c =
    let e = c.in_ok-index.ensures.0 in
    (e, fills_is _ _ _ _ (order_html _ e _ ∙ ap₂ (λ (t w : Bytes). html_of_body (read t) w) (sym c.entries.ensures.2) (sym c.body.ensures)) c.write_order.ensures.html)
