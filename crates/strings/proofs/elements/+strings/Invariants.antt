use Prim.Native.Nat.{◌+◌, ◌*◌}
use lib.ListN.{length}
use Rattle.strings.specs.Carve.{at}
use Rattle.strings.proofs.ElementLaws.{Left}
use Rattle.strings.proofs.elements.+strings.Given as goal

abbrev pub decreases-children_strings : goal.decreases-children_strings
decreases-children_strings l = 8 * length l.s.now

abbrev pub decreases-element_strings : goal.decreases-element_strings
decreases-element_strings l = 8 * length l.b.now + 2

abbrev pub decreases-tag_strings : goal.decreases-tag_strings
decreases-tag_strings l = 8 * length l.b.now + 1

abbrev pub invariant-children_strings-loop-field : goal.invariant-children_strings-loop-field
invariant-children_strings-loop-field l = Left l.options.skip.now l.options.props.now l.parent l.s (at l.initial.out l.initial.cur) l.fields.0.now (at l.out l.cur)
