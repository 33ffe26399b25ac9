use Prim.Native.Nat.{◌≤◌, ◌+◌, ◌*◌}
use mathlib.Core.Path.{◌≡◌}
use lib.ListN.{length}
use Rattle.field.specs.Row.{read}
use Rattle.page.specs.Check as Check
use Rattle.page.specs.CheckField as Field
use Rattle.page.proofs.element.+check.Given as goal

abbrev pub invariant-check_items-loop-field : goal.invariant-check_items-loop-field
invariant-check_items-loop-field l = (length l.fields.0.now ≤ length l.s) × (Check.check_items l.depth (read l.s) ≡ Check.check_items l.depth (read l.fields.0.now))

abbrev pub invariant-check_nodes-loop-field : goal.invariant-check_nodes-loop-field
invariant-check_nodes-loop-field l = (length l.fields.0.now ≤ length l.s) × (Field.check_nodes l.attributes l.depth (read l.s) ≡ Field.check_nodes l.first l.depth (read l.fields.0.now))

abbrev pub invariant-check_pieces-loop-field : goal.invariant-check_pieces-loop-field
invariant-check_pieces-loop-field l = (length l.fields.0.now ≤ length l.s) × (Check.check_pieces l.depth (read l.s) ≡ Check.check_pieces l.depth (read l.fields.0.now))

abbrev pub decreases-check_attribute : goal.decreases-check_attribute
decreases-check_attribute l = 8 * length l.s.now

abbrev pub decreases-check_container : goal.decreases-check_container
decreases-check_container l = 8 * length l.s.now + 1

abbrev pub decreases-check_expr : goal.decreases-check_expr
decreases-check_expr l = 8 * length l.s.now

abbrev pub decreases-check_expr_field : goal.decreases-check_expr_field
decreases-check_expr_field l = 8 * length l.body.now + 2

abbrev pub decreases-check_items : goal.decreases-check_items
decreases-check_items l = 8 * length l.s.now

abbrev pub decreases-check_nodes : goal.decreases-check_nodes
decreases-check_nodes l = 8 * length l.s.now

abbrev pub decreases-check_pieces : goal.decreases-check_pieces
decreases-check_pieces l = 8 * length l.s.now

abbrev pub decreases-check_tag : goal.decreases-check_tag
decreases-check_tag l = 8 * length l.body.now + 1

abbrev pub decreases-check_value : goal.decreases-check_value
decreases-check_value l = 8 * length l.s.now
