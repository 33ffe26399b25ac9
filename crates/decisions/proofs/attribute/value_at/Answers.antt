use native.Mathlib.Omega.{arith}
use Rattle.decisions.proofs.AttributeLaws.{value_is_51, value_is_52, value_is_tag, value_is_absent}
use Rattle.decisions.proofs.attribute.value_at.Goals as goal

pub returns-in_err-body : goal.returns-in_err-body
returns-in_err-body c = rw c.from_residual.ensures (value_is_absent _ c.behind-value.ensures c.in_err-body.ensures.no_tag (λ z. omega (arith, z)) (λ z. omega (arith, z)) (λ z. omega (arith, z)) (λ z. omega (arith, z)))

pub returns-in-81 : goal.returns-in-81
returns-in-81 c = value_is_51 _ c.behind-value.ensures c.in_ok-body.ensures (grind arith)

pub returns-in-82 : goal.returns-in-82
returns-in-82 c = value_is_52 _ c.behind-value.ensures c.in_ok-body.ensures (grind arith)

pub returns-in-48 : goal.returns-in-48
returns-in-48 c = value_is_tag _ c.behind-value.ensures c.in_ok-body.ensures (grind arith)

pub returns-in_default : goal.returns-in_default
returns-in_default c = value_is_absent _ c.behind-value.ensures c.in_ok-body.ensures.tag_is (λ z. grind (arith, z)) (λ z. grind (arith, z)) (λ z. grind (arith, z)) (λ z. grind (arith, z))
