use Rattle.strings.specs.Carve.{at}
use Rattle.strings.proofs.CarveLaws.{opening_low, opening_is}
use Rattle.strings.proofs.elements.open_tag.Goals as goal

pub put_open-p-requires : goal.put_open-p-requires
put_open-p-requires c = let a = c.args in opening_low a.n.now a.rest.now (at a.out.now a.st) c.requires.1

pub returns : goal.returns
returns c = opening_is _ _ _ c.put_open-p.ensures (c.tag_due.ensures c.args.n.now c.requires.0)
