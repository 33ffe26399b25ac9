-- `page::whole::check_options` meets its contract: what is left is checked from the least tag that may still come. Assumes nothing.
use mathlib.Core.Path.{sym, ◌∙◌}
use native.Mathlib.Omega.{arith}
use Rattle.page.specs.Check.{check_options}
use Rattle.page.proofs.Steps.{on_at, exit_at}
use Rattle.page.proofs.WholeLaws.{options_step, options_end, option_in}
use Rattle.page.proofs.whole.check_options.Goals as goal

pub overflow_add-from : goal.overflow_add-from
overflow_add-from c = omega (arith, (option_in _ _ _ c.check_option.ensures c.in_ok-check_option.was))

pub loop-field-preserved : goal.loop-field-preserved
loop-field-preserved c =
    let inv = c.loop-field.invariant in
    (omega (arith, (option_in _ _ _ c.check_option.ensures c.in_ok-check_option.was), inv.0), inv.1 ∙ on_at (options_step _ _ inv.0 c.in-Some.ensures.steps) c.check_option.ensures c.in_ok-check_option.was)

pub returns-in_err-check_option : goal.returns-in_err-check_option
unfolding check_options
returns-in_err-check_option c =
    let inv = c.loop-field.invariant in
    exit_at (options_step _ _ inv.0 c.in-Some.ensures.steps) c.check_option.ensures c.in_err-check_option.was c.from_residual.ensures ∙ sym inv.1

pub returns : goal.returns
unfolding check_options
returns c = c.check_nothing_after.ensures ∙ options_end c.in_default.ensures.steps _ ∙ sym c.loop-field.invariant.1
