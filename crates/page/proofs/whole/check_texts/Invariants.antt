use mathlib.Core.Path.{◌≡◌}
use Rattle.field.specs.Row.{read}
use Rattle.page.specs.Check.{check_texts}
use Rattle.page.proofs.whole.check_texts.Given as goal

abbrev pub invariant-loop-field : goal.invariant-loop-field
invariant-loop-field l = check_texts (read l.s) ≡ check_texts (read l.fields.0.now)
