use mathlib.Core.Path.{◌≡◌}
use Rattle.text.proofs.DecimalLaws.{Filling}
use Rattle.text.proofs.decimal.put_decimal.Given as goal

abbrev pub invariant-loop-m : goal.invariant-loop-m
invariant-loop-m l = Filling l.n l.buf l.i l.m × (l.out ≡ l.initial.out)

abbrev pub decreases-loop-m : goal.decreases-loop-m
decreases-loop-m l = l.i
