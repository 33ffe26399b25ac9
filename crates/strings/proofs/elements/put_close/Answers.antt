-- Four writes, one behind the other. Assumes nothing.
use Rattle.field.proofs.PutLaws.{wrote_then}
use Rattle.strings.proofs.CarveLaws.{put_is}
use Rattle.strings.proofs.elements.put_close.Goals as goal

pub returns : goal.returns
returns c = let a = c.args in put_is a.out.now a.st c.end.ensures c.ended.ensures (wrote_then (wrote_then (wrote_then c.put_byte-p.ensures c.put_byte-q.ensures) c.put_bytes-r.ensures) c.put_byte-e.ensures)
