-- `put_minus` meets its contract.
use Rattle.field.proofs.PutLaws.{wrote_then}
use Rattle.printing.proofs.name.put_minus.Goals as goal

pub returns : goal.returns
returns c = wrote_then c.put_byte-a.ensures c.put_number.ensures
