-- Two writes, one behind the other. Assumes nothing.
use Rattle.field.proofs.PutLaws.{wrote_then}
use Rattle.strings.proofs.CarveLaws.{put_is}
use Rattle.strings.proofs.elements.put_open.Goals as goal

pub returns : goal.returns
returns c = let a = c.args in put_is a.out.now a.st c.end.ensures c.ended.ensures (wrote_then c.put_byte-p.ensures c.put_short_escaped-q.ensures)
