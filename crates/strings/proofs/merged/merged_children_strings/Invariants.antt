use lib.ListN.{length}
use Rattle.strings.specs.Carve.{at}
use Rattle.strings.proofs.MergedLaws.{Merging}
use Rattle.strings.proofs.merged.merged_children_strings.Given as goal

abbrev pub invariant-loop-field : goal.invariant-loop-field
invariant-loop-field l = Merging l.options.skip.now l.options.props.now l.s (at l.initial.out l.initial.cur) (length l.initial.scratch) l.scratch (at l.out l.cur) l.field-iterator.0.now l.n
