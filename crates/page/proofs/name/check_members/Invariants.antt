use Prim.Native.Nat.{◌-◌}
use mathlib.Core.Path.{◌≡◌}
use Rattle.field.specs.Row.{read}
use Rattle.page.specs.CheckField.{check_counted}
use Rattle.page.proofs.name.check_members.Given as goal

abbrev pub invariant-loop-n : goal.invariant-loop-n
invariant-loop-n l = check_counted 8 2 l.depth (read l.s) ≡ check_counted (8 - l.n) (2 - l.n) l.depth (read l.fields.0.now)
