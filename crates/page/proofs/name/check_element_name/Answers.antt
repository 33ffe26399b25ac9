-- `page::name::check_element_name` meets its contract. Assumes nothing.
use mathlib.Core.Path.{◌∙◌}
use native.Mathlib.Omega.{arith}
use Rattle.page.proofs.Steps.{exit_at, last_at}
use Rattle.page.proofs.CheckLaws.{element_name, element_below, element_above, element_end}
use Rattle.page.proofs.name.check_element_name.Goals as goal

pub returns-in_err-check_depth-in-Some-64-to-66 : goal.returns-in_err-check_depth-in-Some-64-to-66
returns-in_err-check_depth-in-Some-64-to-66 c = exit_at (element_name _ c.in-Some-64-to-66.ensures (omega arith) (omega arith)) c.check_depth.ensures.gives c.in_err-check_depth-in-Some-64-to-66.was c.from_residual.ensures

pub returns-in_ok-check_depth-in-Some-64-to-66 : goal.returns-in_ok-check_depth-in-Some-64-to-66
returns-in_ok-check_depth-in-Some-64-to-66 c = last_at (element_name _ c.in-Some-64-to-66.ensures (omega arith) (omega arith)) c.check_depth.ensures.gives c.in_ok-check_depth-in-Some-64-to-66.was c.check_name_by.ensures

pub returns-in-Some : goal.returns-in-Some
returns-in-Some c = element_below _ c.in-Some.ensures (omega arith)

pub returns-in-Some-2 : goal.returns-in-Some-2
returns-in-Some-2 c = element_above _ c.in-Some.ensures (omega arith)

pub returns-in-None : goal.returns-in-None
returns-in-None c = c.check_missing.ensures ∙ element_end _ c.in-None.ensures
