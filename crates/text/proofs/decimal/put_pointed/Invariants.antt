use Prim.Native.Nat.{◌-◌, ◌≤◌}
use Rattle.text.proofs.PlacesLaws.{Placing}
use Rattle.text.proofs.decimal.put_pointed.Given as goal

abbrev pub invariant-loop-i : goal.invariant-loop-i
invariant-loop-i l = (l.first ≤ l.i) × Placing l.n l.places l.buf l.i l.whole (l.i - l.first)
