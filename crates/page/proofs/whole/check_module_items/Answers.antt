-- `page::whole::check_module_items` meets its contract: what is left is checked as the whole was. Assumes nothing.
use mathlib.Core.Path.{sym, ◌∙◌}
use Rattle.page.proofs.Steps.{on_at, exit_at}
use Rattle.page.proofs.WholeLaws.{module_step, module_end}
use Rattle.page.proofs.whole.check_module_items.Goals as goal

pub loop-field-preserved : goal.loop-field-preserved
loop-field-preserved c = c.loop-field.invariant ∙ on_at (module_step c.in-Some.ensures.steps) c.check_module_item.ensures c.in_ok-check_module_item.was

pub returns-in_err-check_module_item : goal.returns-in_err-check_module_item
returns-in_err-check_module_item c = exit_at (module_step c.in-Some.ensures.steps) c.check_module_item.ensures c.in_err-check_module_item.was c.from_residual.ensures ∙ sym c.loop-field.invariant

pub returns : goal.returns
returns c = c.check_nothing_after.ensures ∙ module_end c.in_default.ensures.steps ∙ sym c.loop-field.invariant
