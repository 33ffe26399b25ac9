-- `templates::lower_record` meets its contract: the three writes make the record. Assumes nothing.
use mathlib.Core.Path.{refl}
use native.Mathlib.Omega.{arith}
use Rattle.outs.proofs.Parts.{four_first}
use Rattle.convert.proofs.TemplateLaws.{lower_room, lower_number_stops, lower_kinds_stop, lower_wrote, head_end, number_end}
use Rattle.convert.proofs.templates.lower_record.Goals as goal
use Rattle.convert.proofs.templates.lower_record.Goals.{then-number-gt-LARGEST-via-then-number-gt-LARGEST, then-number-gt-LARGEST-via-else-number-gt-LARGEST+then-not-are_kinds}

pub slice_bounds-kinds-end : goal.slice_bounds-kinds-end
slice_bounds-kinds-end c = omega (arith, c.counted_front-front.ensures, c.requires.0.1)

pub put_head-a-requires : goal.put_head-a-requires
put_head-a-requires c = omega (arith, lower_room c.args.w.now c.args.at c.requires.1 _ c.counted_front-front.ensures)

pub put_two-b-requires : goal.put_two-b-requires
put_two-b-requires c = omega (arith, lower_room c.args.w.now c.args.at c.requires.1 _ c.counted_front-front.ensures, head_end _ _ c.put_head-a.ensures)

pub put_bytes-e-requires : goal.put_bytes-e-requires
put_bytes-e-requires c = omega (arith, lower_room c.args.w.now c.args.at c.requires.1 _ c.counted_front-front.ensures, head_end _ _ c.put_head-a.ensures, number_end 2 _ c.put_two-b.ensures)

pub returns-then-number-gt-LARGEST : goal.returns-then-number-gt-LARGEST
returns-then-number-gt-LARGEST c =
    let f = c.counted_front-front.ensures in
    let n = four_first _ (omega (arith, c.requires.0.0)) c.from_be_bytes-number.ensures in
    elim c.then-number-gt-LARGEST.branch [
      | then-number-gt-LARGEST-via-then-number-gt-LARGEST w ↦ lower_number_stops c.args.w.now _ _ _ f n refl w.if-number-gt-LARGEST.true
      | then-number-gt-LARGEST-via-else-number-gt-LARGEST+then-not-are_kinds w ↦ lower_kinds_stop c.args.w.now _ _ _ f n w.are_kinds.ensures w.if-not-are_kinds.true
    ]

pub returns : goal.returns
returns c = lower_wrote c.args.w.now _ _ _ c.counted_front-front.ensures (four_first _ (omega (arith, c.requires.0.0)) c.from_be_bytes-number.ensures) c.are_kinds.ensures c.if-number-gt-LARGEST.false c.if-not-are_kinds.false c.put_head-a.ensures c.put_two-b.ensures c.put_bytes-e.ensures
