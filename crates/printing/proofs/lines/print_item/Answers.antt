-- `print_item` meets its contract.
use Rattle.field.proofs.PutLaws.{wrote_then}
use Rattle.printing.proofs.lines.print_item.Goals as goal

pub returns : goal.returns
returns c = wrote_then c.print_all-a.ensures c.put_byte.ensures
