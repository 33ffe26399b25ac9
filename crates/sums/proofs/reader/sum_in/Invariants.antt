use Prim.Native.Nat.{◌-◌, ◌≤◌}
use lib.ListN.{length}
use Rattle.sums.specs.Small.{Digits, state_of}
use Rattle.sums.proofs.Loop.{Going}
use Rattle.sums.proofs.Turns.{waits}
use Rattle.sums.proofs.reader.sum_in.Given as goal

abbrev pub invariant-loop-i : goal.invariant-loop-i
invariant-loop-i l = Going l.text l.stack l.top l.i (state_of l.mode l.before l.factor l.y)

abbrev pub decreases-loop-i : goal.decreases-loop-i
decreases-loop-i l = length l.text - l.i

abbrev pub invariant-loop-i-then-is_ascii_digit : goal.invariant-loop-i-then-is_ascii_digit
invariant-loop-i-then-is_ascii_digit l = Going l.text l.stack l.top l.i (Digits l.n (waits l.before l.factor)) × (l.initial.i ≤ l.i)

abbrev pub decreases-loop-i-then-is_ascii_digit : goal.decreases-loop-i-then-is_ascii_digit
decreases-loop-i-then-is_ascii_digit l = length l.text - l.i
