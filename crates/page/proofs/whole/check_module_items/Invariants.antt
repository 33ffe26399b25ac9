use mathlib.Core.Path.{◌≡◌}
use Rattle.field.specs.Row.{read}
use Rattle.page.specs.Check.{check_module_items}
use Rattle.page.proofs.whole.check_module_items.Given as goal

abbrev pub invariant-loop-field : goal.invariant-loop-field
invariant-loop-field l = check_module_items (read l.s) ≡ check_module_items (read l.fields.0.now)
