-- The invariant: the tags that were passed, at most one, and those that are left are as many as the whole has.
use mathlib.Core.Path.{ap, ◌∙◌}
use native.Mathlib.Omega.{arith}
use Rattle.field.specs.Row.{read}
use Rattle.page.specs.Tree.{children_in}
use Rattle.decisions.proofs.ChildrenLaws.{passed, no_tag, tag_counted, tag_passed, tag_other, becomes_none, becomes_one, becomes_two}
use Rattle.decisions.proofs.children.becomes_template.Goals as goal
use Rattle.decisions.proofs.children.becomes_template.Goals.{else-field-eq-ELEMENT-via-then-field-eq-ELEMENT+else-is_serializable, else-field-eq-ELEMENT-via-else-field-eq-ELEMENT}

pub returns-then-tagged : goal.returns-then-tagged
returns-then-tagged c =
    let f = c.in-Some.ensures.steps in
    let h = tag_counted c.args.skip.now _ _ f.tag_is f.behind_is f.body_is c.if-field-eq-ELEMENT.true c.is_serializable.ensures c.if-is_serializable.true in
    becomes_two c.args.skip.now (children_in (read c.args.s.now)) (let t = ap passed c.if-tagged.true in omega (arith, h, c.loop-field.invariant, t))

pub loop-field-preserved-then-is_serializable : goal.loop-field-preserved-then-is_serializable
loop-field-preserved-then-is_serializable c =
    let f = c.in-Some.ensures.steps in
    let h = tag_counted c.args.skip.now _ _ f.tag_is f.behind_is f.body_is c.if-field-eq-ELEMENT.true c.is_serializable.ensures c.if-is_serializable.true in
    let t = ap passed c.if-tagged.false in omega (arith, h, c.loop-field.invariant, t)

pub loop-field-preserved : goal.loop-field-preserved
loop-field-preserved c =
    let f = c.in-Some.ensures.steps in
    elim c.else-field-eq-ELEMENT.branch [
      | else-field-eq-ELEMENT-via-then-field-eq-ELEMENT+else-is_serializable w ↦ let h = tag_passed c.args.skip.now _ _ f.tag_is f.behind_is f.body_is w.if-field-eq-ELEMENT.true w.is_serializable.ensures w.if-is_serializable.false in omega (arith, h, c.loop-field.invariant)
      | else-field-eq-ELEMENT-via-else-field-eq-ELEMENT w ↦ let h = tag_other c.args.skip.now _ _ f.tag_is f.behind_is (λ z. omega (arith, f.tag_below, z)) w.if-field-eq-ELEMENT.false in omega (arith, h, c.loop-field.invariant)
    ]

pub returns-then-tagged-2 : goal.returns-then-tagged-2
returns-then-tagged-2 c = c.has_text.ensures ∙ becomes_one c.args.skip.now (children_in (read c.args.s.now)) (let h = no_tag c.args.skip.now _ c.in-None.ensures.steps.ended in let t = ap passed c.if-tagged-2.true in omega (arith, h, c.loop-field.invariant, t))

pub returns-else-tagged-2 : goal.returns-else-tagged-2
returns-else-tagged-2 c = c.if-tagged-2.false ∙ becomes_none c.args.skip.now (children_in (read c.args.s.now)) (let h = no_tag c.args.skip.now _ c.in-None.ensures.steps.ended in let t = ap passed c.if-tagged-2.false in omega (arith, h, c.loop-field.invariant, t))
