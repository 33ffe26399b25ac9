-- `put_pointed` meets its contract. The loop's invariant: of the text behind the first name that of the rest is left to write.
use mathlib.Core.Path.{sym, ap}
use Rattle.field.specs.Row.{read}
use Rattle.field.proofs.PutLaws.{wrote_none, wrote_is, wrote_then}
use Rattle.printing.specs.Card.{pointed_more}
use Rattle.printing.proofs.NameLaws.{pointed_on, pointed_more_on, pointed_end, pointed_more_end}
use Rattle.printing.proofs.RoomLaws.{room_is, room_next, left_begin, left_on, left_done}
use Rattle.printing.proofs.name.put_pointed.Goals as goal

pub returns-in_default : goal.returns-in_default
returns-in_default c = wrote_is (sym (pointed_end _ c.in_default.ensures.steps.ended)) (wrote_none _ _)

pub loop-name-init : goal.loop-name-init
loop-name-init c = rw c.into_iter-name-iterator.ensures.into_iter_gives (left_begin _ _ _ (room_next _ c.put_bytes-a.ensures (room_is _ (pointed_on c.in-Some.ensures.steps c.parts.ensures.front) c.requires)))

pub loop-name-preserved : goal.loop-name-preserved
loop-name-preserved c = left_on c.loop-name.invariant (pointed_more_on c.in-Some-name.ensures.steps c.parts-in-loop-name.ensures.front) (wrote_then c.put_byte-b.ensures c.put_bytes-a-in-loop-name.ensures)

pub returns : goal.returns
returns c =
    let w = left_done c.loop-name.invariant (pointed_more_end _ c.in-None.ensures.steps.ended) in
    let v = wrote_is (ap (λ names. pointed_more (read names.0.now)) c.into_iter-name-iterator.ensures.into_iter_gives) w in
    wrote_is (sym (pointed_on c.in-Some.ensures.steps c.parts.ensures.front)) (wrote_then c.put_bytes-a.ensures v)
