-- The invariant: what is left forbids where the whole does, no two of the names that were passed are one, and each has its key among those seen,
-- as dangerouslySetInnerHTML has.
use mathlib.Core.Path.{refl, sym, ◌∙◌}
use native.Mathlib.Omega.{arith}
use Rattle.decisions.specs.Repeats.{ends_key}
use Rattle.decisions.proofs.ElementLaws.{forbids_on, forbids_53, forbids_other, forbids_none}
use Rattle.decisions.proofs.RepeatLaws.{names_at_50, names_none, names_end, seen_none, not_inner, inner_more, seen_more, seen_all}
use Rattle.decisions.proofs.element.names_told.Goals as goal

pub loop-field-init : goal.loop-field-init
loop-field-init c = rw c.into_iter-field-iterator.ensures.into_iter_gives (refl, seen_none ends_key _ _, refl)

pub loop-field-preserved : goal.loop-field-preserved
loop-field-preserved c =
    let i = c.loop-field.invariant in
    let f = c.in-Some.ensures.steps in
    let k = c.in-Some-ends_key.ensures in
    let h = c.if-seen-key-eq1.false in (
      forbids_on _ _ f.tag_is c.in-80.is f.body_is (sym (k.2 (not_inner _ _ i.2 h))) refl f.behind_is ∙ i.0,
      seen_more i.1 (names_at_50 _ _ f.tag_is c.in-80.is f.body_is f.behind_is) k.0 k.1 h,
      inner_more _ _ k.0 i.2 h,
    )

pub returns-in-83 : goal.returns-in-83
returns-in-83 c = sym (forbids_53 _ _ c.in-Some.ensures.steps.tag_is c.in-83.is ∙ c.loop-field.invariant.0)

pub returns-in_default : goal.returns-in_default
returns-in_default c =
    let i = c.loop-field.invariant in
    let f = c.in-Some.ensures.steps in
    (sym (forbids_other _ _ f.tag_is (λ z. omega (arith, z)) (λ z. omega (arith, z)) ∙ i.0), seen_all i.1 (names_none _ _ f.tag_is (λ z. omega (arith, z)) (λ z. omega (arith, z))))

pub returns : goal.returns
returns c =
    let i = c.loop-field.invariant in
    let e = c.in-None.ensures.steps.ended in
    (sym (forbids_none _ e ∙ i.0), seen_all i.1 (names_end _ e))
