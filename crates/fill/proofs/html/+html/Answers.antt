-- `html::write_order` and `html::write_filling` meet their contracts by one induction: the bytes that are left fall, and a filling stands above the
-- order that it may be. The loop keeps that what is left, written from here on, makes the whole from the start. Assumes nothing.
use mathlib.Core.Path.{refl, sym, ◌∙◌}
use native.Mathlib.Omega.{arith}
use borrow.Author.Tests.{eqb-true, eqb-false}
use Rattle.find.proofs.RecordLaws.{number_four}
use Rattle.text.proofs.EscapeLaws.{length_escape_html}
use Rattle.fill.proofs.HtmlLaws.{fills_is, order_filling, free_filling, plain_filling, no_filling, record_none, turns_begin, turn_fits, no_kind, turn_stops, turn_on, kind_left, turns_end}
use Rattle.fill.proofs.Fronts.{none_left, filling_there, string_stands}
use Rattle.fill.proofs.html.+html.Goals as goal

pub write_filling-put_text-requires : goal.write_filling-put_text-requires
write_filling-put_text-requires t c = omega (arith, c.requires.1, length_escape_html c.args.filling.body.now)

pub write_filling-returns-in-2-eq133-clause-html : goal.write_filling-returns-in-2-eq133-clause-html
write_filling-returns-in-2-eq133-clause-html t c = fills_is _ _ _ _ (order_filling _ _ c.in-2-eq133.is-0 c.in-2-eq133.is-1) c.write_order.ensures.html

pub write_filling-returns-in-2-eq135-clause-html : goal.write_filling-returns-in-2-eq135-clause-html
write_filling-returns-in-2-eq135-clause-html t c = fills_is _ _ _ _ (plain_filling _ _ c.in-2-eq135.is-0 c.in-2-eq135.is-1) c.put_text.ensures

pub write_filling-returns-in-2-eq135-clause-short : goal.write_filling-returns-in-2-eq135-clause-short
write_filling-returns-in-2-eq135-clause-short t c = omega (arith, c.put_text.ensures.end_is, length_escape_html c.args.filling.body.now)

pub write_filling-returns-in-1-eq134-clause-html : goal.write_filling-returns-in-1-eq134-clause-html
write_filling-returns-in-1-eq134-clause-html t c = fills_is _ _ _ _ (free_filling _ _ c.in-1-eq134.is-0 c.in-1-eq134.is-1) c.put_free.ensures.html

pub write_filling-returns-in_default-clause-html : goal.write_filling-returns-in_default-clause-html
write_filling-returns-in_default-clause-html t c = fills_is _ _ _ _ (no_filling _ _ c.requires.0.tag_is (λ x y. c.in_default.is-1.0.1 y) (λ x y. omega (arith, c.in_default.is-0, x)) (λ x y. c.in_default.is-1.1 y)) tt

pub write_filling-returns-in_default-2-clause-html : goal.write_filling-returns-in_default-2-clause-html
write_filling-returns-in_default-2-clause-html t c = fills_is _ _ _ _ (no_filling _ _ c.requires.0.tag_is (λ x y. omega arith) (λ x y. omega arith) (λ x y. omega arith)) tt

pub write_filling-returns-in_default-3-clause-html : goal.write_filling-returns-in_default-3-clause-html
write_filling-returns-in_default-3-clause-html t c = fills_is _ _ _ _ (no_filling _ _ c.requires.0.tag_is (λ x y. omega arith) (λ x y. omega arith) (λ x y. omega arith)) tt

pub write_order-record_of-requires : goal.write_order-record_of-requires
write_order-record_of-requires t c = rw (number_four c.args.body.now c.requires.0.long_enough c.from_be_bytes-number.ensures) c.requires.0.number_found

pub write_order-returns-in_err-record_of-clause-html : goal.write_order-returns-in_err-record_of-clause-html
write_order-returns-in_err-record_of-clause-html t c = rw c.from_residual.ensures (fills_is _ _ _ _ (record_none _ _ (number_four c.args.body.now c.requires.0.long_enough c.from_be_bytes-number.ensures) c.in_err-record_of.ensures) tt)

pub write_order-loop-fillings-init : goal.write_order-loop-fillings-init
write_order-loop-fillings-init t c =
    turns_begin _ _ (number_four c.args.body.now c.requires.0.long_enough c.from_be_bytes-number.ensures) c.in_ok-record_of.ensures c.parts_of-parts.ensures c.requires.0 _ _ c.iter-kinds.ensures.rest refl

pub write_order-front-requires : goal.write_order-front-requires
write_order-front-requires t c = filling_there c.loop-fillings.invariant.left (eqb-false _ 0 (sym c.is_empty.ensures ∙ c.loop-fillings-test.true))

pub write_order-returns-in_err-kind-clause-html : goal.write_order-returns-in_err-kind-clause-html
write_order-returns-in_err-kind-clause-html t c = rw c.from_residual-in_err-kind.ensures (no_kind c.loop-fillings.invariant c.front.ensures c.in_err-kind.ensures.steps.0 _)

pub write_order-front-requires-in-loop-fillings : goal.write_order-front-requires-in-loop-fillings
write_order-front-requires-in-loop-fillings t c = string_stands _ _ c.loop-fillings.invariant.one_more

pub write_order-put_string-m-requires : goal.write_order-put_string-m-requires
write_order-put_string-m-requires t c =
    let i = c.loop-fillings.invariant in
    let g = c.front-in-loop-fillings.ensures in
    omega (arith, c.requires.1, i.room, g.sizes)

pub write_order-write_filling-requires : goal.write_order-write_filling-requires
write_order-write_filling-requires t c =
    let i = c.loop-fillings.invariant in
    let f = c.front.ensures in
    let g = c.front-in-loop-fillings.ensures in
    (omega (arith, c.decreases, i.short, f.sizes), (turn_fits i f, omega (arith, c.requires.1, i.room, f.sizes, g.sizes, c.put_string-m.ensures.end_is)))

pub write_order-returns-in_err-n-clause-html : goal.write_order-returns-in_err-n-clause-html
write_order-returns-in_err-n-clause-html t c =
    rw c.from_residual-in_err-n.ensures (turn_stops c.loop-fillings.invariant c.front.ensures c.in_ok-kind.ensures.steps c.front-in-loop-fillings.ensures c.put_string-m.ensures _ c.in_err-n.ensures.html)

pub write_order-loop-fillings-preserved : goal.write_order-loop-fillings-preserved
write_order-loop-fillings-preserved t c = turn_on c.loop-fillings.invariant c.front.ensures c.in_ok-kind.ensures.steps c.front-in-loop-fillings.ensures c.put_string-m.ensures c.in_ok-n.ensures.html c.in_ok-n.ensures.short

pub write_order-loop-fillings-smaller : goal.write_order-loop-fillings-smaller
write_order-loop-fillings-smaller t c = omega (arith, c.front.ensures.sizes)

pub write_order-returns-in-Some-clause-html : goal.write_order-returns-in-Some-clause-html
write_order-returns-in-Some-clause-html t c = kind_left c.loop-fillings.invariant (none_left _ (eqb-true _ 0 (sym c.is_empty.ensures ∙ c.loop-fillings-test.false))) c.in-Some.ensures.steps _

pub write_order-front-requires-in-None : goal.write_order-front-requires-in-None
write_order-front-requires-in-None t c = string_stands _ _ c.loop-fillings.invariant.one_more

pub write_order-put_string-requires : goal.write_order-put_string-requires
write_order-put_string-requires t c =
    let i = c.loop-fillings.invariant in
    let g = c.front-in-None.ensures in
    omega (arith, c.requires.1, i.room, g.sizes)

pub write_order-returns-in-None-clause-html : goal.write_order-returns-in-None-clause-html
write_order-returns-in-None-clause-html t c = turns_end c.loop-fillings.invariant (none_left _ (eqb-true _ 0 (sym c.is_empty.ensures ∙ c.loop-fillings-test.false))) c.in-None.ensures.steps.0 c.front-in-None.ensures c.put_string.ensures

pub write_order-returns-in-None-clause-short : goal.write_order-returns-in-None-clause-short
write_order-returns-in-None-clause-short t c =
    let i = c.loop-fillings.invariant in
    let g = c.front-in-None.ensures in
    omega (arith, i.room, g.sizes, c.put_string.ensures.end_is)
