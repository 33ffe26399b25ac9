-- `read_tag::name::scan_parts` meets its contract. Assumes nothing.
use mathlib.Core.Bool.{true, not}
use mathlib.Core.Path.{◌∙◌, ap}
use Rattle.read_tag.proofs.NameLaws.{NamingOn, parts_start, step_in, naming_first, naming_step, naming_misfit, naming_found, naming_cut, naming_broken, naming_out}
use Rattle.read_tag.proofs.name.scan_parts.Goals as goal

pub loop-part-init : goal.loop-part-init
loop-part-init c = parts_start _ (λ k. NamingOn c.args.text.now c.args.i k 0 true true true) c.into_iter-part-iterator.ensures.into_iter_gives c.parts_at-part-items.ensures (naming_first _ _ c.requires.0 c.requires.1, c.requires)

pub returns-in_err-tag : goal.returns-in_err-tag
returns-in_err-tag c =
    let u = c.loop-part.invariant in
    rw c.from_residual.ensures (naming_misfit _ _ _ _ _ _ _ _ _ c.has_no_hyphen.ensures c.in_default.is _ c.shape_of.ensures _ u.1 (step_in _ _ _ _ u.0 c.in-Some.ensures.steps.1) c.in_err-tag.was)

pub returns-in_default : goal.returns-in_default
returns-in_default c =
    let u = c.loop-part.invariant in
    naming_found _ _ _ _ _ _ _ _ _ c.has_no_hyphen.ensures c.in_default.is _ c.shape_of.ensures _ u.1 (step_in _ _ _ _ u.0 c.in-Some.ensures.steps.1) c.in_ok-tag.was

pub returns-in_err-get : goal.returns-in_err-get
returns-in_err-get c =
    let u = c.loop-part.invariant in
    rw c.from_residual-in_err-get.ensures (naming_cut _ _ _ _ _ _ _ _ _ c.has_no_hyphen.ensures _ c.in-Some-sign.is _ u.1 (step_in _ _ _ _ u.0 c.in-Some.ensures.steps.1) c.in_err-get.ensures.lookup.3)

pub returns-then-not-is_letter : goal.returns-then-not-is_letter
returns-then-not-is_letter c =
    let u = c.loop-part.invariant in
    let h = c.in_ok-get.ensures.lookup in
    naming_broken _ _ _ _ _ _ _ _ _ c.has_no_hyphen.ensures _ c.in-Some-sign.is _ h.3.0 (h.3.1 0) _ c.is_letter.ensures _ u.1 (step_in _ _ _ _ u.0 c.in-Some.ensures.steps.1) (ap not c.if-not-is_letter.true)

pub loop-part-preserved : goal.loop-part-preserved
loop-part-preserved c =
    let u = c.loop-part.invariant in
    let h = c.in_ok-get.ensures.lookup in
    (c.in-Some.ensures.steps.0 ∙ u.0, naming_step _ _ _ _ _ _ _ _ _ c.has_no_hyphen.ensures _ c.in-Some-sign.is _ h.3.0 (h.3.1 0) _ c.is_letter.ensures _ u.1 (step_in _ _ _ _ u.0 c.in-Some.ensures.steps.1) (ap not c.if-not-is_letter.false))

pub returns : goal.returns
returns c =
    let u = c.loop-part.invariant in
    naming_out _ _ _ _ _ _ _ _ u.1 (step_in _ _ _ _ u.0 c.in-None.ensures.steps.1)
