-- `printing::quoted::put_quoted` meets its contract. Assumes nothing.
use Rattle.field.proofs.PutLaws.{wrote_then}
use Rattle.printing.proofs.quoted.put_quoted.Goals as goal

pub returns : goal.returns
returns c = wrote_then c.put_byte-a.ensures (wrote_then c.put_quoted_bytes-b.ensures c.put_byte.ensures)
