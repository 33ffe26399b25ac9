use Prim.Native.Nat.{◌+◌, ◌*◌, ◌≤◌}
use lib.ListN.{length}
use Rattle.field.specs.Row.{read}
use Rattle.printing.specs.Card.{all_text, behind_text}
use Rattle.printing.proofs.RoomLaws.{Left}
use Rattle.printing.proofs.expression.+print.Given as goal

abbrev pub decreases-print_all : goal.decreases-print_all
decreases-print_all l = 3 * length l.s.now + 1

abbrev pub decreases-print_behind : goal.decreases-print_behind
decreases-print_behind l = 3 * length l.s.now + 1

abbrev pub decreases-print_between : goal.decreases-print_between
decreases-print_between l = 3 * length l.s.now + 2

abbrev pub decreases-print_choice : goal.decreases-print_choice
decreases-print_choice l = 3 * length l.s.now + 1

abbrev pub decreases-print_first : goal.decreases-print_first
decreases-print_first l = 3 * length l.s.now

abbrev pub decreases-print_field : goal.decreases-print_field
decreases-print_field l = 3 * length l.field.body.now + 3

abbrev pub decreases-print_parted : goal.decreases-print_parted
decreases-print_parted l = 3 * length l.s.now + 1

abbrev pub decreases-print_prop : goal.decreases-print_prop
decreases-print_prop l = 3 * length l.s.now + 1

abbrev pub decreases-print_spread : goal.decreases-print_spread
decreases-print_spread l = 3 * length l.s.now + 1

abbrev pub decreases-print_template : goal.decreases-print_template
decreases-print_template l = 3 * length l.s.now + 2

abbrev pub invariant-print_all-loop-field : goal.invariant-print_all-loop-field
invariant-print_all-loop-field l = (length l.field-iterator.0.now ≤ length l.s) × Left l.initial.out l.at (all_text (read l.s)) l.out l.a (all_text (read l.field-iterator.0.now))

abbrev pub invariant-print_behind-loop-field : goal.invariant-print_behind-loop-field
invariant-print_behind-loop-field l = (length l.field-iterator.0.now ≤ length l.s) × Left l.initial.out l.at (behind_text (read l.s)) l.out l.a (behind_text (read l.field-iterator.0.now))
