-- The template is begun, its strings are carved, and it is ended.
use Rattle.records.proofs.Templates.{begin_low, carve_low, plain_behind, plain_low, plain_written}
use Rattle.records.proofs.write_element.Goals as goal

pub opened-a-requires : goal.opened-a-requires
opened-a-requires c = begin_low _ _ _ _ _ c.requires.1

pub tag_strings-c-requires : goal.tag_strings-c-requires
tag_strings-c-requires c = (c.requires.0, carve_low _ _ _ _ _ c.opened-a.ensures c.requires.1, c.requires.2)

pub closed-requires : goal.closed-requires
closed-requires c = (plain_behind c.args.n _ _ c.args.st c.opened-a.ensures c.tag_strings-c.ensures, plain_low _ _ _ _ c.opened-a.ensures c.tag_strings-c.ensures c.requires.1)

pub returns : goal.returns
returns c = plain_written _ _ _ _ c.opened-a.ensures c.tag_strings-c.ensures c.closed.ensures
