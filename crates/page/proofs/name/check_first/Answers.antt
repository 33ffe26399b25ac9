-- `page::name::check_first` meets its contract. Assumes nothing.
use mathlib.Core.Path.{◌∙◌}
use native.Mathlib.Omega.{arith}
use Rattle.page.proofs.Steps.{exit_at, last_at}
use Rattle.page.proofs.RowEnds.{missing_refused, first_missing, first_other, first_name}
use Rattle.page.proofs.name.check_first.Goals as goal

pub returns-in_err-check_depth-in-Some-eq64-clause-gives : goal.returns-in_err-check_depth-in-Some-eq64-clause-gives
returns-in_err-check_depth-in-Some-eq64-clause-gives c = exit_at (first_name _ c.in-Some-eq64.ensures.steps (omega arith)) c.check_depth.ensures.gives c.in_err-check_depth-in-Some-eq64.was c.from_residual.ensures

pub returns-in_ok-check_depth-in-Some-eq64-clause-gives : goal.returns-in_ok-check_depth-in-Some-eq64-clause-gives
returns-in_ok-check_depth-in-Some-eq64-clause-gives c = last_at (first_name _ c.in-Some-eq64.ensures.steps (omega arith)) c.check_depth.ensures.gives c.in_ok-check_depth-in-Some-eq64.was c.check_name.ensures

pub returns-in-Some-clause-gives : goal.returns-in-Some-clause-gives
returns-in-Some-clause-gives c = first_other _ c.in-Some.ensures.steps (λ z. omega (arith, z))

pub returns-in-None-clause-gives : goal.returns-in-None-clause-gives
returns-in-None-clause-gives c = c.check_missing.ensures ∙ first_missing _ c.in-None.ensures.steps

pub returns-in-None-clause-leaves : goal.returns-in-None-clause-leaves
returns-in-None-clause-leaves c = missing_refused _ _ c.check_missing.ensures
