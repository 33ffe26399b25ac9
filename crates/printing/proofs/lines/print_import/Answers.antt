-- `print_import` meets its contract: a piece after the other.
use mathlib.Core.Path.{refl}
use native.Mathlib.Omega.{arith}
use Rattle.field.proofs.PutLaws.{wrote_is, wrote_then}
use Rattle.printing.proofs.LineLaws.{import_is, import_room}
use Rattle.printing.proofs.lines.print_import.Goals as goal

pub put_helpers-b-requires : goal.put_helpers-b-requires
put_helpers-b-requires c = omega (arith, c.put_bytes-a.ensures.end_is, import_room _ c.sum_in.ensures refl _ c.requires)

pub put_bytes-c-requires : goal.put_bytes-c-requires
put_bytes-c-requires c = omega (arith, c.put_bytes-a.ensures.end_is, c.put_helpers-b.ensures.end_is, import_room _ c.sum_in.ensures refl _ c.requires)

pub put_quoted-d-requires : goal.put_quoted-d-requires
put_quoted-d-requires c = omega (arith, c.put_bytes-a.ensures.end_is, c.put_helpers-b.ensures.end_is, c.put_bytes-c.ensures.end_is, import_room _ c.sum_in.ensures c.first_front.ensures _ c.requires)

pub put_bytes-requires : goal.put_bytes-requires
put_bytes-requires c = omega (arith, c.put_bytes-a.ensures.end_is, c.put_helpers-b.ensures.end_is, c.put_bytes-c.ensures.end_is, c.put_quoted-d.ensures.end_is, import_room _ c.sum_in.ensures c.first_front.ensures _ c.requires)

pub returns : goal.returns
returns c = wrote_is (import_is _ c.sum_in.ensures c.first_front.ensures) (wrote_then c.put_bytes-a.ensures (wrote_then c.put_helpers-b.ensures (wrote_then c.put_bytes-c.ensures (wrote_then c.put_quoted-d.ensures c.put_bytes.ensures))))
