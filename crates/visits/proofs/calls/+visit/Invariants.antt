use Prim.Native.Nat.{◌+◌, ◌*◌, ◌≤◌}
use lib.ListN.{length}
use mathlib.Core.Path.{◌≡◌}
use Rattle.walk.specs.See.{at, see, act}
use Rattle.visits.specs.Visiting.{items_at, pieces_at}
use Rattle.spec.specs.Output.{dynamic_exprs}
use Rattle.strings.proofs.TreeLaws.{attrs_at, parts_at}
use mathlib.Core.Bool.{false}
use Rattle.field.specs.Row.{read}
use Rattle.decisions.specs.At.{children_at}
use Rattle.visits.proofs.CallLaws.{props_in}
use mathlib.Core.List.{[]}
use Rattle.spec.specs.Merge.{merge}
use Rattle.spec.specs.Children.{entries, entries_pass, children_to_string}
use Rattle.found.specs.Finds.{EachFragment, KnownOf}
use Rattle.visits.proofs.EntryLaws.{Entering}
use Rattle.visits.proofs.calls.+visit.Given as goal

abbrev pub decreases-to_attrs : goal.decreases-to_attrs
decreases-to_attrs l = 8 * length l.s.now

abbrev pub decreases-to_call : goal.decreases-to_call
decreases-to_call l = 8 * length l.b.now + 3

abbrev pub decreases-to_inner : goal.decreases-to_inner
decreases-to_inner l = 8 * length l.b.now + 1

abbrev pub decreases-to_gaps : goal.decreases-to_gaps
decreases-to_gaps l = 8 * length l.b.now + 4

abbrev pub decreases-to_entries : goal.decreases-to_entries
decreases-to_entries l = 8 * length l.s.now

abbrev pub decreases-to_found : goal.decreases-to_found
decreases-to_found l = 8 * length l.s.now + 2

abbrev pub decreases-to_jsx : goal.decreases-to_jsx
decreases-to_jsx l = 8 * length l.b.now + 5

abbrev pub decreases-to_parts : goal.decreases-to_parts
decreases-to_parts l = 8 * length l.s.now

abbrev pub decreases-to_props : goal.decreases-to_props
decreases-to_props l = 8 * length l.s.now

abbrev pub decreases-on_jsx : goal.decreases-on_jsx
decreases-on_jsx l = 8 * length l.b.now + 6

abbrev pub decreases-on_expr : goal.decreases-on_expr
decreases-on_expr l = 8 * length l.s.now

abbrev pub decreases-on_found : goal.decreases-on_found
decreases-on_found l = 8 * length l.s.now + 4

abbrev pub decreases-on_fragment : goal.decreases-on_fragment
decreases-on_fragment l = 8 * length l.s.now + 5

abbrev pub decreases-on_held : goal.decreases-on_held
decreases-on_held l = 8 * length l.c.now + 1

abbrev pub decreases-on_items : goal.decreases-on_items
decreases-on_items l = 8 * length l.s.now + 1

abbrev pub decreases-on_pieces : goal.decreases-on_pieces
decreases-on_pieces l = 8 * length l.s.now

abbrev pub decreases-on_template : goal.decreases-on_template
decreases-on_template l = 8 * length l.s.now + 1

abbrev pub invariant-on_items-loop-field : goal.invariant-on_items-loop-field
invariant-on_items-loop-field l = (l.left ≡ l.fields.0.now) × ((length l.fields.0.now ≤ length l.s) × (see (items_at l.options.skip.now l.options.props.now l.fields.0.now) (at l.templates l.page l.cur) ≡ see (items_at l.options.skip.now l.options.props.now l.s) (at l.initial.templates l.initial.page l.initial.cur)))

abbrev pub invariant-on_pieces-loop-field : goal.invariant-on_pieces-loop-field
invariant-on_pieces-loop-field l = (length l.field-iterator.0.now ≤ length l.s) × (see (pieces_at l.options.skip.now l.options.props.now l.field-iterator.0.now) (at l.templates l.page l.cur) ≡ see (pieces_at l.options.skip.now l.options.props.now l.s) (at l.initial.templates l.initial.page l.initial.cur))

abbrev pub invariant-to_attrs-loop-a : goal.invariant-to_attrs-loop-a
invariant-to_attrs-loop-a l = (length l.a-iterator.0.now ≤ length l.s) × (act (dynamic_exprs (attrs_at l.options.skip.now l.options.props.now l.a-iterator.0.now)) (at l.templates l.page l.cur) ≡ act (dynamic_exprs (attrs_at l.options.skip.now l.options.props.now l.s)) (at l.initial.templates l.initial.page l.initial.cur))

abbrev pub invariant-to_entries-loop-field : goal.invariant-to_entries-loop-field
invariant-to_entries-loop-field l = (length l.field-iterator.0.now ≤ length l.s) × EachFragment (KnownOf l.known l.options.skip.now (length l.s)) l.field-iterator.0.now × Entering l.options.skip.now l.options.props.now (act (entries_pass (entries (merge false false [] (children_at l.options.skip.now l.options.props.now (read l.s))))) (at l.initial.templates l.initial.page l.initial.cur)) l.templates l.page l.cur l.field-iterator.0.now l.run

abbrev pub invariant-to_parts-loop-field : goal.invariant-to_parts-loop-field
invariant-to_parts-loop-field l = (length l.field-iterator.0.now ≤ length l.s) × (act (dynamic_exprs (parts_at l.options.skip.now l.options.props.now false l.field-iterator.0.now)) (at l.templates l.page l.cur) ≡ act (dynamic_exprs (children_to_string false (children_at l.options.skip.now l.options.props.now (read l.s)))) (at l.initial.templates l.initial.page l.initial.cur))

abbrev pub invariant-to_props-loop-field : goal.invariant-to_props-loop-field
invariant-to_props-loop-field l = (length l.field-iterator.0.now ≤ length l.s)
    × (see (props_in l.options.skip.now l.options.props.now l.norm l.field-iterator.0.now) (at l.templates l.page l.cur) ≡ see (props_in l.options.skip.now l.options.props.now l.norm l.s) (at l.initial.templates l.initial.page l.initial.cur))
