-- `put_renamed` meets its contract.
use Rattle.field.proofs.PutLaws.{wrote_then}
use Rattle.printing.proofs.lines.put_renamed.Goals as goal

pub returns : goal.returns
returns c = wrote_then c.put_bytes-a.ensures (wrote_then c.put_bytes-b.ensures c.put_bytes.ensures)
