-- As in write_element; the children are merged twice, and a first run that is too long is flagged.
use Rattle.records.proofs.Templates.{begin_low, carve_low, end_behind, end_low, written}
use Rattle.records.proofs.write_merged.Goals as goal

pub opened-a-requires : goal.opened-a-requires
opened-a-requires c = begin_low _ _ _ _ _ c.requires.low

pub merged_children_strings-c-requires-clause-low : goal.merged_children_strings-c-requires-clause-low
merged_children_strings-c-requires-clause-low c = carve_low _ _ _ _ _ c.opened-a.ensures c.requires.low

pub closed-requires : goal.closed-requires
closed-requires c = (end_behind c.args.n _ _ _ c.args.st c.opened-a.ensures c.merged_children_strings-c.ensures, end_low _ _ _ _ _ c.opened-a.ensures c.merged_children_strings-c.ensures c.requires.low)

pub returns : goal.returns
returns c = written _ _ _ _ _ c.opened-a.ensures c.merged_children_strings-c.ensures c.closed.ensures
