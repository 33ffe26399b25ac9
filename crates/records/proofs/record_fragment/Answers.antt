-- The template takes its number first; its dynamic expressions are recorded before it.
use Rattle.records.specs.Keep.{at}
use Rattle.records.proofs.KeepLaws.{keep_low, keep_gen, inner_low, outer_low, outer_is}
use Rattle.records.proofs.record_fragment.Goals as goal

pub taken-requires : goal.taken-requires
taken-requires c = (keep_low _ (at c.args.out.now c.args.st) c.requires.low).low_next

pub record_parts-inner-requires : goal.record_parts-inner-requires
record_parts-inner-requires c = record { desk = c.requires.desk; short = c.requires.short; low = inner_low _ _ _ _ _ (keep_gen _ _) c.taken.ensures c.requires.low }

pub write_children-requires : goal.write_children-requires
write_children-requires c = outer_low _ _ _ _ _ (keep_gen _ _) c.taken.ensures c.record_parts-inner.ensures c.requires.low

pub returns : goal.returns
returns c = outer_is _ _ _ _ _ (keep_gen _ _) c.taken.ensures c.record_parts-inner.ensures c.write_children.ensures
