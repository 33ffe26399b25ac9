-- The two functions meet their contracts by one induction: the bytes left fall, and a field stands above the row that it holds. The loop
-- keeps that what is left of the row, written from here on, gives what the whole gives from the start. Assumes nothing.
use mathlib.Core.Path.{refl, ◌∙◌, ap}
use Rattle.std.specs.Prelude.{Some}
use native.Mathlib.Omega.{arith}
use Rattle.field.proofs.NumberLaws.{all_from}
use Rattle.field.proofs.PutLaws.{wrote_length, wrote_is}
use Rattle.worked.proofs.Writes.{number_written, left_start, body_all, left_on, left_end, leaf_written, plus_written, minus_written, nest_written}
use Rattle.worked.proofs.+work.Goals as goal

pub work_field-returns-then-not-may_hold : goal.work_field-returns-then-not-may_hold
work_field-returns-then-not-may_hold t c = leaf_written _ _ c.may_hold.ensures c.if-not-may_hold.true c.requires.1 c.put_field.ensures

pub work_field-returns-in-Some-Plus : goal.work_field-returns-in-Some-Plus
work_field-returns-in-Some-Plus t c = plus_written _ _ c.may_hold.ensures c.if-not-may_hold.false c.sum_of_field.ensures (c.in-Some-Plus.is ∙ ap Some c.in-Some-Plus.field-0-is) (number_written _ _ c.put_number_field.ensures)

pub work_field-returns-in-Some-Minus : goal.work_field-returns-in-Some-Minus
work_field-returns-in-Some-Minus t c = minus_written _ _ c.may_hold.ensures c.if-not-may_hold.false c.sum_of_field.ensures (c.in-Some-Minus.is ∙ ap Some c.in-Some-Minus.field-0-is) (number_written _ _ c.put_number_field-in-Some-Minus.ensures)

pub work_field-returns-in-None : goal.work_field-returns-in-None
work_field-returns-in-None t c = nest_written _ _ c.may_hold.ensures c.if-not-may_hold.false c.sum_of_field.ensures c.in-None.is refl c.work_fields-e.ensures c.put_head.ensures

pub work_fields-loop-field-init : goal.work_fields-loop-field-init
work_fields-loop-field-init t c = left_start _ _ _ (all_from _ (λ i. (c.type_inv.s i).fits))

pub work_fields-returns : goal.work_fields-returns
work_fields-returns t c = left_end c.in_default.ensures.steps.ended c.loop-field.invariant (wrote_is c.in_default.ensures.steps.stays c.put_bytes.ensures)

pub work_fields-work_field-a-requires : goal.work_fields-work_field-a-requires
work_fields-work_field-a-requires t c =
    let i = c.loop-field.invariant in
    let z = c.in-Some.ensures.steps.sizes in
    (omega (arith, c.decreases, i.short, z), (omega (arith, c.requires.0, i.short, z), body_all c.in-Some.ensures.steps i.all, omega (arith, c.requires.1, i.room, z)))

pub work_fields-loop-field-preserved : goal.work_fields-loop-field-preserved
work_fields-loop-field-preserved t c = left_on c.in-Some.ensures.steps c.loop-field.invariant c.work_field-a.ensures
