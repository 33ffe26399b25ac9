use mathlib.Core.Path.{◌≡◌}
use Prim.Native.Nat.{◌≤◌}
use lib.ListN.{length}
use Rattle.text.proofs.TextLaws.{Joining}
use Rattle.text.proofs.jsx_text.jsx_text_to_str.Given as goal

abbrev pub invariant-loop-line : goal.invariant-loop-line
invariant-loop-line l = (l.line-iterator.text.now ≡ l.s) × ((l.line-iterator.place ≤ length l.s) × Joining l.s l.escape l.last l.initial.out l.at l.out l.a l.line-iterator.place)
