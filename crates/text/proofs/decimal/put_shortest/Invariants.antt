use mathlib.Core.Path.{◌≡◌}
use Rattle.text.specs.Decimal.{shortest}
use Rattle.text.proofs.decimal.put_shortest.Given as goal

abbrev pub invariant-loop-left : goal.invariant-loop-left
invariant-loop-left l = (shortest l.m l.left ≡ shortest l.n l.places) × (l.out ≡ l.initial.out)
