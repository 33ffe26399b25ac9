use Prim.Native.Nat.{◌+◌, ◌*◌}
use lib.ListN.{length}
use Rattle.records.specs.Keep.{at}
use Rattle.records.proofs.WalkLaws.{Parts, Entries}
use Rattle.records.proofs.+record.Given as goal

abbrev pub decreases-record_element : goal.decreases-record_element
decreases-record_element l = 8 * length l.b.now + 2

abbrev pub decreases-record_entries : goal.decreases-record_entries
decreases-record_entries l = 8 * length l.s.now

abbrev pub decreases-record_found : goal.decreases-record_found
decreases-record_found l = 8 * length l.s.now + 1

abbrev pub decreases-record_parts : goal.decreases-record_parts
decreases-record_parts l = 8 * length l.s.now

abbrev pub decreases-record_serialize : goal.decreases-record_serialize
decreases-record_serialize l = 8 * length l.b.now + 3

abbrev pub invariant-record_entries-loop-field : goal.invariant-record_entries-loop-field
invariant-record_entries-loop-field l = Entries l.options.skip.now l.options.props.now l.s (at l.initial.out l.initial.cur) l.initial.scratch l.scratch l.field-iterator.0.now (at l.out l.cur)

abbrev pub invariant-record_parts-loop-field : goal.invariant-record_parts-loop-field
invariant-record_parts-loop-field l = Parts l.options.skip.now l.options.props.now l.s (at l.initial.out l.initial.cur) l.initial.scratch l.scratch l.field-iterator.0.now (at l.out l.cur)
