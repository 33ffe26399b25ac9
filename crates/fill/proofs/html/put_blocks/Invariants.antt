use Prim.Native.Nat.{◌≤◌, ◌-◌}
use lib.ListN.{length, take}
use Rattle.field.specs.Put.{Wrote}
use Rattle.text.specs.Escape.{escape_html}
use Rattle.fill.proofs.html.put_blocks.Given as goal

abbrev pub invariant-loop-i : goal.invariant-loop-i
invariant-loop-i l = (l.i ≤ length l.s) × Wrote l.initial.out l.at (escape_html (take l.i l.s)) l.out l.a

abbrev pub decreases-loop-i : goal.decreases-loop-i
decreases-loop-i l = length l.s - l.i
