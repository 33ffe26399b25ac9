-- The template is begun, its strings are carved, and it is ended.
use Rattle.records.proofs.Templates.{begin_low, carve_low, plain_behind, plain_low, plain_written}
use Rattle.records.proofs.write_children.Goals as goal

pub opened-a-requires : goal.opened-a-requires
opened-a-requires c = begin_low _ _ _ _ _ c.requires

pub children_strings-c-requires : goal.children_strings-c-requires
children_strings-c-requires c = carve_low _ _ _ _ _ c.opened-a.ensures c.requires

pub closed-requires : goal.closed-requires
closed-requires c = (plain_behind c.args.n _ _ c.args.st c.opened-a.ensures c.children_strings-c.ensures, plain_low _ _ _ _ c.opened-a.ensures c.children_strings-c.ensures c.requires)

pub returns : goal.returns
returns c = plain_written _ _ _ _ c.opened-a.ensures c.children_strings-c.ensures c.closed.ensures
