use Prim.Native.Nat.{◌≤◌, ◌+◌, ◌*◌}
use mathlib.Core.Path.{◌≡◌}
use lib.ListN.{length}
use Rattle.fill.specs.Order.{read_order, check_fillings}
use Rattle.fill.proofs.Asked.{Gathered}
use Rattle.fill.proofs.order.+check.Given as goal

abbrev pub invariant-check_fillings-loop-filling : goal.invariant-check_fillings-loop-filling
invariant-check_fillings-loop-filling l = Gathered l.initial.numbers l.initial.end l.s l.numbers l.end l.fields.0.now × (check_fillings l.depth (read_order l.s) ≡ check_fillings l.depth (read_order l.fields.0.now))

abbrev pub decreases-check_body : goal.decreases-check_body
decreases-check_body l = 2 * length l.s.now

abbrev pub decreases-check_filling : goal.decreases-check_filling
decreases-check_filling l = 2 * length l.body.now + 1

abbrev pub decreases-check_fillings : goal.decreases-check_fillings
decreases-check_fillings l = 2 * length l.s.now
