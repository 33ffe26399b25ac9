use native.Mathlib.Omega.{arith}
use Rattle.decisions.proofs.ExprLaws.{boolean_true, boolean_false, boolean_none}
use Rattle.decisions.proofs.expr.boolean_in.Goals as goal

pub returns-in-1 : goal.returns-in-1
returns-in-1 c = boolean_true _ c.in-1.len_at_least (omega arith)

pub returns-in_default : goal.returns-in_default
returns-in_default c = boolean_none _ (omega (arith, c.in_default.len_below))

pub returns-in_default-2 : goal.returns-in_default-2
returns-in_default-2 c = boolean_false _ c.in_default.len_at_least (λ z. omega (arith, z))
