-- `outs::leaf::check_import` meets its contract: each answer by the law of what was found. Assumes nothing.
use mathlib.Core.Path.{◌∙◌}
use native.Mathlib.Omega.{arith}
use Rattle.page.proofs.Steps.{exit_at, last_at}
use Rattle.outs.proofs.LeafLaws.{import_other, import_text, import_missing}
use Rattle.outs.proofs.leaf.check_import.Goals as goal

pub returns-in_err-check_text-in-Some-eq129 : goal.returns-in_err-check_text-in-Some-eq129
returns-in_err-check_text-in-Some-eq129 c = exit_at (import_text c.in-Some-eq129.ensures.steps (omega arith)) c.check_text.ensures c.in_err-check_text-in-Some-eq129.was c.from_residual.ensures

pub returns-in_ok-check_text-in-Some-eq129 : goal.returns-in_ok-check_text-in-Some-eq129
returns-in_ok-check_text-in-Some-eq129 c = last_at (import_text c.in-Some-eq129.ensures.steps (omega arith)) c.check_text.ensures c.in_ok-check_text-in-Some-eq129.was c.check_sum.ensures

pub returns-in-Some : goal.returns-in-Some
returns-in-Some c = import_other c.in-Some.ensures.steps (λ z. omega (arith, z))

pub returns-in-None : goal.returns-in-None
returns-in-None c = c.check_missing.ensures ∙ import_missing c.in-None.ensures.steps
