-- The space and the name, one after the other.
use Rattle.field.proofs.PutLaws.{wrote_then}
use Rattle.strings.proofs.CarveLaws.{put_is}
use Rattle.strings.proofs.attributes.put_boolean_name.Goals as goal

pub returns : goal.returns
returns c = let a = c.args in put_is a.out.now a.st c.end.ensures c.ended.ensures (wrote_then c.put_byte-p.ensures c.put_name-q.ensures)
