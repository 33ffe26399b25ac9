-- `renumber::renumber` meets its contract: each turn keeps `Keeps`. Assumes nothing.
use Prim.Native.Nat.{◌+◌, ◌-◌}
use mathlib.Core.Logic.{inl}
use mathlib.Core.Path.{refl, sym, ap, ◌∙◌}
use native.Mathlib.Omega.{arith}
use lib.ListN.{drop}
use borrow.Author.Tests.{eqb-true, eqb-false}
use Rattle.field.proofs.HeaderLaws.{within_field}
use Rattle.field.proofs.NumberLaws.{all_from}
use Rattle.loops.proofs.Parts.{part}
use Rattle.loops.proofs.Turns.{high}
use Rattle.renumber.proofs.Renumbering.{begins, fits_torn, fits_leaf, fits_open, on_done, on_torn, on_leaf, on_open, on_pop, none, base_new, base_same, head_low, call_number, two_or_four, take_short}
use Rattle.renumber.proofs.renumber.Goals as goal
use Rattle.renumber.proofs.renumber.Goals.{then-stack-eq0, else-stack-eq0}

pub loop-out-init : goal.loop-out-init
loop-out-init c = rw c.new-stack.ensures.height (begins _ _ _ _ _ (all_from _ (λ i. (c.type_inv.s i).fits)) c.new-stack.ensures.depth)

pub put_bytes-n-requires : goal.put_bytes-n-requires
put_bytes-n-requires c = omega (arith, fits_torn c.loop-out.invariant c.read_header.ensures.0 c.in-None.is (eqb-false _ 0 (sym c.is_empty.ensures ∙ c.if-not-is_empty.true)), c.requires.2)

pub loop-out-preserved-then-not-is_empty : goal.loop-out-preserved-then-not-is_empty
loop-out-preserved-then-not-is_empty c = on_torn c.loop-out.invariant c.read_header.ensures.0 c.in-None.is (eqb-false _ 0 (sym c.is_empty.ensures ∙ c.if-not-is_empty.true)) c.put_bytes-n.ensures

pub pop-requires : goal.pop-requires
pop-requires c = (omega arith, high c.loop-out.invariant.going {n = 21846} (inl refl))

pub returns-in_default : goal.returns-in_default
returns-in_default c = on_done c.loop-out.invariant (eqb-true _ 0 (sym c.is_empty.ensures ∙ c.if-not-is_empty.false)) (rw c.in_default.is at c.pop.ensures.top).0

pub loop-out-preserved-in-None-2 : goal.loop-out-preserved-in-None-2
loop-out-preserved-in-None-2 c =
    rw (c.waits_until-end.ensures, c.pop.ensures.frames)
    (on_pop c.loop-out.invariant (eqb-true _ 0 (sym c.is_empty.ensures ∙ c.if-not-is_empty.false)) c.in-Some-pop.ensures.top.0 (rw c.pop.ensures.frames at c.in-Some-pop.ensures.top.1 none) c.put_head.ensures)

pub put_field-n-requires : goal.put_field-n-requires
put_field-n-requires c = omega (arith, take_short (c.in-Some.h.end - 3) (drop 3 (part c.args.s.now c.loop-out.at c.loop-out.end)), (within_field c.read_header.ensures.1 c.in-Some.is).0, fits_leaf c.loop-out.invariant c.read_header.ensures.0 c.read_header.ensures.1 c.in-Some.is c.front_of.ensures c.in-None-front_of.is, c.requires.2)

pub loop-out-preserved-in-None-front_of : goal.loop-out-preserved-in-None-front_of
loop-out-preserved-in-None-front_of c = on_leaf c.loop-out.invariant c.read_header.ensures.0 c.read_header.ensures.1 c.in-Some.is c.front_of.ensures c.in-None-front_of.is c.put_field-n.ensures

pub overflow_cast-n : goal.overflow_cast-n
overflow_cast-n c = omega (arith, head_low c.loop-out.invariant (elim c.if-stack-eq0.branch [ then-stack-eq0 w ↦ base_new w.if-stack-eq0.true w.base-is | else-stack-eq0 w ↦ base_same w.if-stack-eq0.false w.base-is ]))

pub overflow_add-n : goal.overflow_add-n
overflow_add-n c = omega (arith, fits_open c.loop-out.invariant c.read_header.ensures.0 c.read_header.ensures.1 c.in-Some.is c.front_of.ensures c.in-Some-front_of.is (ap (λ j. 3 + j) c.min-start.ensures) (call_number c.loop-out.invariant c.read_header.ensures.0 c.read_header.ensures.1 c.in-Some.is c.front_of.ensures c.in-Some-front_of.is (ap (λ j. 3 + j) c.min-start.ensures) c.requires.0 c.number_in-number.ensures), c.requires.2)

pub put_number-n-requires : goal.put_number-n-requires
put_number-n-requires c = (omega (arith, fits_open c.loop-out.invariant c.read_header.ensures.0 c.read_header.ensures.1 c.in-Some.is c.front_of.ensures c.in-Some-front_of.is (ap (λ j. 3 + j) c.min-start.ensures) (call_number c.loop-out.invariant c.read_header.ensures.0 c.read_header.ensures.1 c.in-Some.is c.front_of.ensures c.in-Some-front_of.is (ap (λ j. 3 + j) c.min-start.ensures) c.requires.0 c.number_in-number.ensures), c.requires.2), c.requires.1)

pub loop-out-preserved : goal.loop-out-preserved
loop-out-preserved c = rw (c.push.ensures.frames, c.push.ensures.height) (on_open c.loop-out.invariant c.read_header.ensures.0 c.read_header.ensures.1 c.in-Some.is c.front_of.ensures c.in-Some-front_of.is (ap (λ j. 3 + j) c.min-start.ensures) (call_number c.loop-out.invariant c.read_header.ensures.0 c.read_header.ensures.1 c.in-Some.is c.front_of.ensures c.in-Some-front_of.is (ap (λ j. 3 + j) c.min-start.ensures) c.requires.0 c.number_in-number.ensures) (elim c.if-stack-eq0.branch [ then-stack-eq0 w ↦ base_new w.if-stack-eq0.true w.base-is | else-stack-eq0 w ↦ base_same w.if-stack-eq0.false w.base-is ]) (two_or_four c.requires.1) c.put_number-n.ensures)
