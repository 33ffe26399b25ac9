-- `fill::order::check_order` meets its contract: the outermost 85, its body, and nothing behind it. Assumes nothing.
use Rattle.field.proofs.NumberLaws.{all_from}
use Rattle.page.proofs.Steps.{next_at, exit_at, last_at}
use Rattle.fill.proofs.OrderLaws.{order_step, order_end}
use Rattle.refusal.proofs.Verdicts.{fine_by}
use Rattle.refusal.specs.declared.Refusal.TheVariants as R
use borrow.Author.Tests.{eqb-true}
use native.Mathlib.Omega.{arith}
use Rattle.fill.proofs.Asked.{on_ok, ok_is, asked_alone, body_room, gather_whole}
use Rattle.fill.proofs.order.check_order.Goals as goal

pub returns-in_default-clause-gives : goal.returns-in_default-clause-gives
returns-in_default-clause-gives c = order_end c.in_default.ensures.steps

pub returns-in_err-refuse_unless-clause-gives : goal.returns-in_err-refuse_unless-clause-gives
returns-in_err-refuse_unless-clause-gives c = exit_at (order_step c.in-Some.ensures.steps) c.refuse_unless.ensures c.in_err-refuse_unless.was c.from_residual.ensures

pub check_body-requires : goal.check_body-requires
check_body-requires c = omega (arith, c.requires.0, body_room c.in-Some.ensures.steps (all_from _ (λ i. (c.type_inv.s i).fits)) c.requires.1)

pub returns-in_err-check_body-clause-gives : goal.returns-in_err-check_body-clause-gives
returns-in_err-check_body-clause-gives c =
    exit_at (next_at (order_step c.in-Some.ensures.steps) c.refuse_unless.ensures c.in_ok-refuse_unless.was) c.check_body.ensures.gives c.in_err-check_body.was c.from_residual-in_err-check_body.ensures

pub returns-clause-gives : goal.returns-clause-gives
returns-clause-gives c =
    last_at (next_at (order_step c.in-Some.ensures.steps) c.refuse_unless.ensures c.in_ok-refuse_unless.was) c.check_body.ensures.gives c.in_ok-check_body.was c.check_nothing_after.ensures

pub returns-clause-gathers : goal.returns-clause-gathers
returns-clause-gathers c =
    let f = c.in-Some.ensures.steps in
    let k = eqb-true _ 0x85 (fine_by R.Misplaced c.refuse_unless.ensures c.in_ok-refuse_unless.was) in
    let l = body_room f (all_from _ (λ i. (c.type_inv.s i).fits)) c.requires.1 in
    on_ok _ (gather_whole f k c.requires.0 l (ok_is c.in_ok-check_body.was c.check_body.ensures.gathers)) (asked_alone _ c.check_nothing_after.ensures)
