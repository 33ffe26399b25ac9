use Prim.Native.Nat.{◌≤◌}
use mathlib.Core.Path.{◌≡◌}
use Rattle.field.specs.Row.{read}
use Rattle.page.specs.Check.{check_options_from}
use Rattle.page.proofs.whole.check_options.Given as goal

abbrev pub invariant-loop-field : goal.invariant-loop-field
invariant-loop-field l = (2 ≤ l.from) × (check_options_from 2 (read l.s) ≡ check_options_from l.from (read l.fields.0.now))
