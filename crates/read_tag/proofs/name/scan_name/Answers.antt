-- `read_tag::name::scan_name` meets its contract. Assumes nothing.
use Rattle.read_tag.proofs.NameLaws.{no_sign, ident_found, ident_long}
use Rattle.read_tag.proofs.name.scan_name.Goals as goal

pub returns-then-part-gt-MAX_NAME : goal.returns-then-part-gt-MAX_NAME
returns-then-part-gt-MAX_NAME c = let pre = c.requires in ident_long _ _ pre.0 pre.1 _ c.part_at-part.ensures (no_sign _ c.is_some.ensures c.if-is_some.false) c.if-part-gt-MAX_NAME.true

pub returns : goal.returns
returns c = let pre = c.requires in ident_found _ _ pre.0 pre.1 _ c.part_at-part.ensures (no_sign _ c.is_some.ensures c.if-is_some.false) c.if-part-gt-MAX_NAME.false
