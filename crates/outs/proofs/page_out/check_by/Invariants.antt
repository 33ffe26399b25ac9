use Prim.Native.Nat.{◌+◌, ◌-◌}
use mathlib.Core.Path.{◌≡◌}
use lib.ListN.{length}
use Rattle.refusal.specs.Refusal.{Fine}
use Rattle.loops.proofs.Turns.{Going}
use Rattle.outs.specs.PageOut.{check_page_out}
use Rattle.outs.proofs.Checks.{checks}
use Rattle.outs.proofs.page_out.check_by.Given as goal

abbrev pub invariant-loop-e : goal.invariant-loop-e
invariant-loop-e g l = Going (checks l.width) l.s l.stack.frames l.stack.height l.at l.end l.expect Fine (check_page_out l.width l.s) × (length l.stack.frames ≡ g.row.N)

abbrev pub decreases-loop-e : goal.decreases-loop-e
decreases-loop-e g l = length l.s - l.at + l.stack.height
