-- `page::whole::check_page` meets its contract. Assumes nothing.
use native.Mathlib.Omega.{arith}
use Rattle.page.proofs.Steps.{exit_at, last_at}
use Rattle.page.proofs.WholeLaws.{page_01, page_other, page_none}
use Rattle.page.proofs.whole.check_page.Goals as goal

pub returns-in_err-check_module_items-in-Some-eq1 : goal.returns-in_err-check_module_items-in-Some-eq1
returns-in_err-check_module_items-in-Some-eq1 c = exit_at (page_01 c.in-Some-eq1.ensures.steps (omega arith)) c.check_module_items.ensures c.in_err-check_module_items-in-Some-eq1.was c.from_residual.ensures

pub returns-in_ok-check_module_items-in-Some-eq1 : goal.returns-in_ok-check_module_items-in-Some-eq1
returns-in_ok-check_module_items-in-Some-eq1 c = last_at (page_01 c.in-Some-eq1.ensures.steps (omega arith)) c.check_module_items.ensures c.in_ok-check_module_items-in-Some-eq1.was c.check_nothing_after.ensures

pub returns-in-Some : goal.returns-in-Some
returns-in-Some c = page_other c.in-Some.ensures.steps (λ z. omega (arith, z))

pub returns-in-None : goal.returns-in-None
returns-in-None c = page_none c.in-None.ensures.steps
