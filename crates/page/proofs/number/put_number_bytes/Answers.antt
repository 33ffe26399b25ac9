-- `page::number::put_number_bytes` meets its contract. Assumes nothing.
use native.Mathlib.Omega.{arith}
use mathlib.Core.List.{[]}
use Rattle.field.proofs.NumberLaws.{length_big_endian}
use Rattle.field.proofs.PutLaws.{wrote_is, wrote_then}
use Rattle.page.proofs.NumberLaws.{whole_body, scaled_body}
use Rattle.page.proofs.number.put_number_bytes.Goals as goal

pub put_byte-requires : goal.put_byte-requires
put_byte-requires c = omega (arith, c.requires, c.put_eight-e.ensures.end_is, length_big_endian 8 c.number_in.result [])

pub returns-then-has_places : goal.returns-then-has_places
returns-then-has_places c = wrote_is (scaled_body _ _ c.if-has_places.ensures c.number_in.ensures c.places_in.ensures (omega arith)) (wrote_then c.put_eight-e.ensures c.put_byte.ensures)

pub returns-else-has_places : goal.returns-else-has_places
returns-else-has_places c = wrote_is (whole_body _ _ c.if-has_places.ensures c.number_in.ensures) c.put_eight-e.ensures
