use Prim.Native.Nat.{◌-◌}
use mathlib.Core.Path.{◌≡◌}
use Rattle.field.specs.Row.{read}
use Rattle.outs.specs.Templates.{check_strings}
use Rattle.outs.proofs.templates.check_strings.Given as goal

abbrev pub invariant-loop : goal.invariant-loop
invariant-loop l = check_strings l.count (read l.s) ≡ check_strings (l.count - l.counter) (read l.fields.0.now)
