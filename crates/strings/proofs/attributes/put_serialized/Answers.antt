-- The space, the name, `="`, the value and the quote, one after the other.
use Rattle.field.proofs.PutLaws.{wrote_then, wrote_is}
use Rattle.decisions.specs.Becomes.{text}
use Rattle.strings.specs.Carve.{name_at}
use Rattle.strings.proofs.CarveLaws.{put_is}
use Rattle.strings.proofs.AttrLaws.{serialized}
use Rattle.strings.proofs.attributes.put_serialized.Goals as goal

pub returns : goal.returns
returns c = let a = c.args in put_is a.out.now a.st c.end.ensures c.ended.ensures
    (wrote_is (serialized (name_at a.a.now) (text a.value))
    (wrote_then c.put_byte-p.ensures (wrote_then c.put_escaped_name-q.ensures (wrote_then c.put_bytes-r.ensures (wrote_then c.put_value-e.ensures c.put_byte-f.ensures)))))
