-- `page::number::put_number` meets its contract. Assumes nothing.
use native.Mathlib.Omega.{arith}
use mathlib.Core.Path.{ap, ◌∙◌}
use lib.ListN.{length}
use Rattle.field.specs.Bytes.{Bytes}
use Rattle.field.proofs.PutLaws.{wrote_is}
use Rattle.page.proofs.NumberLaws.{min_15, whole_text, scaled_text}
use Rattle.page.proofs.number.put_number.Goals as goal

pub put_shortest-requires : goal.put_shortest-requires
put_shortest-requires c = let e = scaled_text c.args.tag c.args.s.now c.if-has_places.ensures c.number_in-n.ensures (c.from.ensures ∙ c.places_in.ensures) (min_15 _ c.min.ensures) in
    (omega (arith, c.min.ensures), omega (arith, c.requires, ap (λ (x : Bytes). length x) e))

pub returns-then-has_places : goal.returns-then-has_places
returns-then-has_places c = wrote_is (scaled_text _ _ c.if-has_places.ensures c.number_in-n.ensures (c.from.ensures ∙ c.places_in.ensures) (min_15 _ c.min.ensures)) c.put_shortest.ensures

pub put_decimal-requires : goal.put_decimal-requires
put_decimal-requires c = let e = whole_text c.args.tag c.args.s.now c.if-has_places.ensures c.number_in-n.ensures in
    omega (arith, c.requires, ap (λ (x : Bytes). length x) e)

pub returns-else-has_places : goal.returns-else-has_places
returns-else-has_places c = wrote_is (whole_text _ _ c.if-has_places.ensures c.number_in-n.ensures) c.put_decimal.ensures
