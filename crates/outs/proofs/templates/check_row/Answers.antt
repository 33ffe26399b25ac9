-- `outs::templates::check_row` meets its contract: what is left of the row is checked as the whole. Assumes nothing.
use mathlib.Core.Path.{sym, ◌∙◌}
use Rattle.page.proofs.Steps.{next_at, on_at, exit_at}
use Rattle.outs.proofs.TemplateLaws.{row_next}
use Rattle.outs.proofs.templates.check_row.Goals as goal

pub loop-field-preserved : goal.loop-field-preserved
loop-field-preserved g c = c.loop-field.invariant ∙ on_at (next_at (row_next c.requires c.in-Some.ensures.steps c.TAG.ensures) c.refuse_unless.ensures c.in_ok-refuse_unless.was) c.check.ensures c.in_ok-check.was

pub returns-in_err-refuse_unless : goal.returns-in_err-refuse_unless
returns-in_err-refuse_unless g c = exit_at (row_next c.requires c.in-Some.ensures.steps c.TAG.ensures) c.refuse_unless.ensures c.in_err-refuse_unless.was c.from_residual.ensures ∙ sym c.loop-field.invariant

pub returns-in_err-check : goal.returns-in_err-check
returns-in_err-check g c = exit_at (next_at (row_next c.requires c.in-Some.ensures.steps c.TAG.ensures) c.refuse_unless.ensures c.in_ok-refuse_unless.was) c.check.ensures c.in_err-check.was c.from_residual-in_err-check.ensures ∙ sym c.loop-field.invariant
