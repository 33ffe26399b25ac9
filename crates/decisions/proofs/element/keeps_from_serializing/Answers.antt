-- The invariant: what is left forbids where the whole does.
use mathlib.Core.Path.{◌∙◌}
use native.Mathlib.Omega.{arith}
use Rattle.decisions.proofs.ElementLaws.{forbids_50, forbids_on, forbids_53, forbids_other, forbids_none}
use Rattle.decisions.proofs.element.keeps_from_serializing.Goals as goal

pub returns-then-is_inner_html : goal.returns-then-is_inner_html
returns-then-is_inner_html c = let f = c.in-Some.ensures.steps in forbids_50 _ _ f.tag_is c.in-80.is f.body_is c.is_inner_html.ensures c.if-is_inner_html.true ∙ c.loop-field.invariant

pub loop-field-preserved : goal.loop-field-preserved
loop-field-preserved c = let f = c.in-Some.ensures.steps in forbids_on _ _ f.tag_is c.in-80.is f.body_is c.is_inner_html.ensures c.if-is_inner_html.false f.behind_is ∙ c.loop-field.invariant

pub returns-in-83 : goal.returns-in-83
returns-in-83 c = forbids_53 _ _ c.in-Some.ensures.steps.tag_is c.in-83.is ∙ c.loop-field.invariant

pub returns-in_default : goal.returns-in_default
returns-in_default c = forbids_other _ _ c.in-Some.ensures.steps.tag_is (λ z. omega (arith, z)) (λ z. omega (arith, z)) ∙ c.loop-field.invariant

pub returns : goal.returns
returns c = forbids_none _ c.in-None.ensures.steps.ended ∙ c.loop-field.invariant
