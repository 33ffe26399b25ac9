-- The invariant: what is left holds the same children, and stands at the end of the whole.
use mathlib.Core.Path.{refl, sym, ◌∙◌}
use native.Mathlib.Omega.{arith}
use Rattle.decisions.proofs.ChildrenLaws.{no_child, passed_by, stands_behind}
use Rattle.decisions.proofs.children.children_at.Goals as goal

pub loop-field-preserved : goal.loop-field-preserved
loop-field-preserved c =
    let f = c.in-Some.ensures.steps in
    let i = c.loop-field.invariant in (
      refl,
      passed_by _ _ i.1 _ f.tag_is (sym c.is_child.ensures ∙ c.if-is_child.false) (λ z. omega (arith, f.tag_below, z)) f.behind_is,
      omega (arith, f.sizes, i.2),
      stands_behind _ _ i.2 i.3 _ f.tag_is (λ z. omega (arith, f.tag_below, z)) f.behind_is,
    )

pub returns-clause-first : goal.returns-clause-first
returns-clause-first c = no_child _ _ c.loop-field.invariant.1 c.in_default.ensures.steps.ended
