use mathlib.Core.Path.{◌≡◌}
use Rattle.field.specs.Row.{read}
use Rattle.outs.proofs.templates.check_row.Given as goal

abbrev pub invariant-loop-field : goal.invariant-loop-field
invariant-loop-field g l = g.F.Sort.rows (read l.s) ≡ g.F.Sort.rows (read l.fields.0.now)
