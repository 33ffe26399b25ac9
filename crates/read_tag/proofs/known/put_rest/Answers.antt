-- `read_tag::known::put_rest` meets its contract. Assumes nothing.
use Rattle.read_tag.proofs.ChoiceLaws.{rest_barred, rest_other}
use Rattle.read_tag.proofs.known.put_rest.Goals as goal

pub returns-then-is_barred : goal.returns-then-is_barred
returns-then-is_barred c = rest_barred _ _ _ _ c.is_barred.ensures c.if-is_barred.true

pub returns-else-is_barred : goal.returns-else-is_barred
returns-else-is_barred c = rest_other _ _ _ _ c.is_barred.ensures _ _ c.if-is_barred.false c.put_other.ensures
