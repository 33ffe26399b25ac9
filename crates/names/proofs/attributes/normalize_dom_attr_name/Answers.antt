-- A name that the table does not have.
use mathlib.Core.Path.{ap}
use native.Mathlib.Omega.{arith}
use lib.ListN.{length}
use Rattle.field.proofs.PutLaws.{wrote_is}
use Rattle.names.proofs.MarkLaws.{unmarked}
use Rattle.names.proofs.attributes.normalize_dom_attr_name.Goals as goal

pub put_spelled-requires : goal.put_spelled-requires
put_spelled-requires c = omega (arith, ap length (unmarked _ c.args.name.now c.in-None.is c.find_mark.ensures.0))

pub returns-else-is_plain-2 : goal.returns-else-is_plain-2
returns-else-is_plain-2 c = wrote_is (unmarked _ c.args.name.now c.in-None.is c.find_mark.ensures.0) c.put_spelled.ensures
