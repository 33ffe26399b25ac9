-- `outs::templates::check_old_body` meets its contract. Assumes nothing.
use mathlib.Core.Path.{sym, ◌∙◌}
use native.Mathlib.Omega.{arith}
use Rattle.outs.proofs.TemplateLaws.{any_rowwise, old_short, old_none, old_strings}
use Rattle.outs.proofs.templates.check_old_body.Goals as goal

pub check_row-requires : goal.check_row-requires
check_row-requires c = any_rowwise

pub returns-in-len2-up : goal.returns-in-len2-up
returns-in-len2-up c = old_strings c.args.w.now c.in-len2-up.len_at_least (sym c.is_empty.ensures ∙ c.if-not-is_empty.true) c.check_row.ensures

pub returns-in_default : goal.returns-in_default
returns-in_default c = old_short c.args.w.now (omega (arith, c.in_default.len_below))

pub returns-in_default-2 : goal.returns-in_default-2
returns-in_default-2 c = old_none c.args.w.now c.in-len2-up.len_at_least (sym c.is_empty.ensures ∙ c.if-not-is_empty.false)
