-- `read::read` meets its contract: page by page, and then the end. Assumes nothing.
use mathlib.Core.Path.{sym, ◌∙◌}
use native.Mathlib.Omega.{arith}
use Rattle.field.proofs.NumberLaws.{all_from}
use Rattle.catalogue_calls.proofs.ReadLaws.{none_walked, walked_on, few_here, judged_fine, judged_not, walk_refused, not_ended, named_twice, walk_ended, too_long}
use Rattle.catalogue_calls.proofs.read.read.Goals as goal
use Rattle.catalogue_calls.proofs.read.read.Goals.{else-is_zero-via-then-is_zero+else-names_differ, else-is_zero-via-else-is_zero}

pub returns-then-catalogue-gt-MOST_BYTES : goal.returns-then-catalogue-gt-MOST_BYTES
returns-then-catalogue-gt-MOST_BYTES c = too_long _ c.if-catalogue-gt-MOST_BYTES.true

pub loop-p-init : goal.loop-p-init
loop-p-init c = none_walked _ (all_from _ (λ i. (c.type_inv.catalogue i).fits))

pub returns-in_err-forms : goal.returns-in_err-forms
returns-in_err-forms c = rw c.from_residual.ensures (walk_refused c.loop-p.invariant c.in-Some.ensures (judged_not _ _ _ c.judge.ensures c.ok.ensures.value c.in_err-forms.was))

pub overflow_cast-forms : goal.overflow_cast-forms
overflow_cast-forms c =
    let j = judged_fine _ _ _ c.judge.ensures c.ok.ensures.value c.in_ok-forms.was in
    omega (arith, few_here c.loop-p.invariant.of_bytes c.in-Some.ensures _ _ j, c.loop-p.invariant.few)

pub overflow_add-forms : goal.overflow_add-forms
overflow_add-forms c =
    let j = judged_fine _ _ _ c.judge.ensures c.ok.ensures.value c.in_ok-forms.was in
    omega (arith, few_here c.loop-p.invariant.of_bytes c.in-Some.ensures _ _ j, c.loop-p.invariant.few)

pub overflow_add-pages : goal.overflow_add-pages
overflow_add-pages c = omega (arith, c.loop-p.invariant.few)

pub loop-p-smaller : goal.loop-p-smaller
loop-p-smaller c = omega (arith, c.in-Some.ensures.sizes)

pub loop-p-preserved : goal.loop-p-preserved
loop-p-preserved c = walked_on c.loop-p.invariant.of_bytes c.in-Some.ensures _ _ (judged_fine _ _ _ c.judge.ensures c.ok.ensures.value c.in_ok-forms.was) c.loop-p.invariant

pub overflow_sub-result : goal.overflow_sub-result
overflow_sub-result c = omega (arith, c.loop-p.invariant.size_is)

pub returns-then-names_differ : goal.returns-then-names_differ
returns-then-names_differ c = walk_ended c.loop-p.invariant c.in_default.ensures (sym c.if-is_zero.ensures) c.if-catalogue-gt-MOST_BYTES.false (sym c.if-names_differ.ensures)

pub returns-else-is_zero : goal.returns-else-is_zero
returns-else-is_zero c =
    elim c.else-is_zero.branch [
      | else-is_zero-via-then-is_zero+else-names_differ w ↦ named_twice c.loop-p.invariant c.in_default.ensures (sym c.is_zero.ensures ∙ w.if-is_zero.true) c.if-catalogue-gt-MOST_BYTES.false (sym w.names_differ.ensures ∙ w.if-names_differ.false)
      | else-is_zero-via-else-is_zero w ↦ not_ended c.loop-p.invariant c.in_default.ensures (sym c.is_zero.ensures ∙ w.if-is_zero.false)
    ]
