-- What `check_fillings` and the functions of its cycle need to meet their contracts. Assumes nothing.
use mathlib.Core.Path.{◌≡◌, sym, ◌∙◌}
use Prim.Native.Nat.{◌-◌}
use native.Mathlib.Omega.{arith}
use lib.ListN.{length, take, drop, length-drop}
use lib.Seq.{take_all}
use Rattle.field.specs.Bytes.{Bytes}
use Rattle.find.proofs.RecordLaws.{number_four}
use Rattle.page.proofs.Steps.{on_at, exit_at, last_at}
use Rattle.fill.proofs.OrderLaws.{fillings_step, fillings_end, body_short, body_then, filling_body, filling_text, filling_header}
use Rattle.fill.proofs.Asked.{on_ok, ok_is, always, gather_step, gather_ends, gather_body, gather_text, gather_inner}
use Rattle.fill.proofs.order.+check.Goals as goal

-- the part behind the number
rest_is : (b : Bytes) → take (length b - 4) (drop 4 b) ≡ drop 4 b
rest_is b = take_all (length b - 4) (drop 4 b) (omega (arith, length-drop 4 b))

pub check_body-returns-in_default-clause-gives : goal.check_body-returns-in_default-clause-gives
check_body-returns-in_default-clause-gives t c = body_short _ _ c.in_default.len_below

pub check_body-returns-clause-gives : goal.check_body-returns-clause-gives
check_body-returns-clause-gives t c = body_then _ _ c.in-len4-up.len_at_least c.check_fillings.ensures.gives

pub check_body-returns-clause-gathers : goal.check_body-returns-clause-gathers
check_body-returns-clause-gathers t c =
    let w = c.args.s.now in
    let l = c.in-len4-up.len_at_least in
    on_ok _ (λ h. gather_body w l (rest_is w) (number_four w l c.from_be_bytes.ensures) (omega (arith, l, c.requires)) h) c.check_fillings.ensures.gathers

pub check_filling-returns-in_err-check_header-clause-gives : goal.check_filling-returns-in_err-check_header-clause-gives
check_filling-returns-in_err-check_header-clause-gives t c = exit_at (filling_header _ _ _ c.is_filling.ensures) c.check_header.ensures.gives c.in_err-check_header.was c.from_residual.ensures

pub check_filling-returns-then-tag-eq-ORDER-clause-gives : goal.check_filling-returns-then-tag-eq-ORDER-clause-gives
check_filling-returns-then-tag-eq-ORDER-clause-gives t c = last_at (filling_body _ _ _ c.is_filling.ensures c.if-tag-eq-ORDER.true) c.check_header.ensures.gives c.in_ok-check_header.was c.check_body.ensures.gives

pub check_filling-returns-then-tag-eq-ORDER-clause-gathers : goal.check_filling-returns-then-tag-eq-ORDER-clause-gathers
check_filling-returns-then-tag-eq-ORDER-clause-gathers t c = on_ok _ (λ h. gather_inner c.args.body.now c.if-tag-eq-ORDER.true h) c.check_body.ensures.gathers

pub check_filling-returns-else-tag-eq-ORDER-clause-gives : goal.check_filling-returns-else-tag-eq-ORDER-clause-gives
check_filling-returns-else-tag-eq-ORDER-clause-gives t c = last_at (filling_text _ _ _ c.is_filling.ensures c.if-tag-eq-ORDER.false) c.check_header.ensures.gives c.in_ok-check_header.was c.check_short_text.ensures

pub check_filling-returns-else-tag-eq-ORDER-clause-gathers : goal.check_filling-returns-else-tag-eq-ORDER-clause-gathers
check_filling-returns-else-tag-eq-ORDER-clause-gathers t c = always _ (gather_text _ _ _ _ c.if-tag-eq-ORDER.false)

pub check_fillings-loop-filling-preserved : goal.check_fillings-loop-filling-preserved
check_fillings-loop-filling-preserved t c =
    let i = c.loop-filling.invariant in
    (gather_step i.0 c.in-Some.ensures.steps (ok_is c.in_ok-check_filling.was c.check_filling.ensures.gathers), i.1 ∙ on_at (fillings_step _ c.in-Some.ensures.steps) c.check_filling.ensures.gives c.in_ok-check_filling.was)

pub check_fillings-returns-in_err-check_filling-clause-gives : goal.check_fillings-returns-in_err-check_filling-clause-gives
check_fillings-returns-in_err-check_filling-clause-gives t c = exit_at (fillings_step _ c.in-Some.ensures.steps) c.check_filling.ensures.gives c.in_err-check_filling.was c.from_residual.ensures ∙ sym c.loop-filling.invariant.1

pub check_fillings-returns-clause-gives : goal.check_fillings-returns-clause-gives
check_fillings-returns-clause-gives t c = c.check_nothing_after.ensures ∙ fillings_end _ c.in_default.ensures.steps ∙ sym c.loop-filling.invariant.1

pub check_fillings-returns-clause-gathers : goal.check_fillings-returns-clause-gathers
check_fillings-returns-clause-gathers t c = always _ (gather_ends c.loop-filling.invariant.0 c.in_default.ensures.steps)
