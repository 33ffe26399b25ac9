use mathlib.Core.Path.{sym}
use native.Mathlib.Omega.{arith}
use Rattle.decisions.proofs.ChildrenLaws.{few_ended, few_one, few_more}
use Rattle.decisions.proofs.children.children_of.Goals as goal

pub returns-in_default-clause-count : goal.returns-in_default-clause-count
returns-in_default-clause-count c = sym (few_ended _ _ c.children_at-first.ensures.first c.in_default.ensures.steps.ended)

pub returns-then-is_empty-clause-count : goal.returns-then-is_empty-clause-count
returns-then-is_empty-clause-count c = let f = c.in-Some.ensures.steps in sym (few_one _ _ c.children_at-first.ensures.first (λ z. omega (arith, f.sizes, z)) f.behind_is _ c.children_at.ensures.first (grind arith))

pub returns-else-is_empty-clause-count : goal.returns-else-is_empty-clause-count
returns-else-is_empty-clause-count c = let f = c.in-Some.ensures.steps in sym (few_more _ _ c.children_at-first.ensures.first (λ z. omega (arith, f.sizes, z)) f.behind_is _ c.children_at.ensures.first (λ z. grind (arith, z)))
