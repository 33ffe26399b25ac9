-- `page::whole::check_texts` meets its contract: what is left is checked as the whole was. Assumes nothing.
use mathlib.Core.Path.{sym, ◌∙◌}
use Rattle.page.proofs.Steps.{next_at, on_at, exit_at}
use Rattle.page.proofs.WholeLaws.{texts_step, texts_end}
use Rattle.page.proofs.whole.check_texts.Goals as goal

pub loop-field-preserved : goal.loop-field-preserved
loop-field-preserved c = c.loop-field.invariant ∙ on_at (next_at (texts_step c.in-Some.ensures.steps) c.refuse_unless.ensures c.in_ok-refuse_unless.was) c.check_text.ensures c.in_ok-check_text.was

pub returns-in_err-refuse_unless : goal.returns-in_err-refuse_unless
returns-in_err-refuse_unless c = exit_at (texts_step c.in-Some.ensures.steps) c.refuse_unless.ensures c.in_err-refuse_unless.was c.from_residual.ensures ∙ sym c.loop-field.invariant

pub returns-in_err-check_text : goal.returns-in_err-check_text
returns-in_err-check_text c = exit_at (next_at (texts_step c.in-Some.ensures.steps) c.refuse_unless.ensures c.in_ok-refuse_unless.was) c.check_text.ensures c.in_err-check_text.was c.from_residual-in_err-check_text.ensures ∙ sym c.loop-field.invariant

pub returns : goal.returns
returns c = c.check_nothing_after.ensures ∙ texts_end c.in_default.ensures.steps ∙ sym c.loop-field.invariant
