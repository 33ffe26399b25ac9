-- The invariant: what is left of the row has the written attributes that all of it has.
use mathlib.Core.Path.{sym, ◌∙◌}
use native.Mathlib.Omega.{arith}
use Rattle.decisions.proofs.AttributeLaws.{written_50, written_53, written_none}
use Rattle.decisions.proofs.attribute.AttributesIterator.next.Goals as goal

pub returns-in-80-clause-steps : goal.returns-in-80-clause-steps
returns-in-80-clause-steps c = let f = c.in-Some.ensures.steps in let i = c.loop-field.invariant in record { written_is = sym i.1 ∙ written_50 _ f c.in-80.is; sizes = omega (arith, f.sizes, i.2) }

pub loop-field-preserved : goal.loop-field-preserved
loop-field-preserved c = let f = c.in-Some.ensures.steps in let i = c.loop-field.invariant in (i.0, written_53 _ f c.in-83.is ∙ i.1, omega (arith, f.sizes, i.2))

pub returns-in_default-tag-clause-steps : goal.returns-in_default-tag-clause-steps
returns-in_default-tag-clause-steps c = let i = c.loop-field.invariant in record { none_written = sym i.1 ∙ written_none _ c.in-Some.ensures.steps.tag_is (λ z. omega (arith, z)) (λ z. omega (arith, z)); stays = i.0 }

pub returns-clause-steps : goal.returns-clause-steps
returns-clause-steps c = let i = c.loop-field.invariant in record { none_written = sym i.1 ∙ written_none _ c.in_default.ensures.steps.no_tag (λ z. omega (arith, z)) (λ z. omega (arith, z)); stays = i.0 }
