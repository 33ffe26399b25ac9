-- `print_refusal` meets its contract: the number, and a line end.
use native.Mathlib.Omega.{arith}
use mathlib.Core.Path.{ap}
use Rattle.field.specs.Bytes.{Bytes}
use Rattle.field.proofs.PutLaws.{wrote_is, wrote_then}
use Rattle.text.specs.Decimal.{decimal}
use Rattle.text.proofs.DecimalLaws.{length_decimal}
use Rattle.print_card.proofs.print_refusal.Goals as goal

pub put_decimal-end-requires : goal.put_decimal-end-requires
put_decimal-end-requires c = omega (arith, length_decimal c.from.result)

pub put_byte-requires : goal.put_byte-requires
put_byte-requires c = omega (arith, c.put_decimal-end.ensures.end_is, length_decimal c.from.result)

pub returns : goal.returns
returns c = wrote_then (wrote_is (ap {B = Bytes} decimal c.from.ensures) c.put_decimal-end.ensures) c.put_byte.ensures
