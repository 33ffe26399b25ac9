-- `templates::raise_record` meets its contract: the five writes make the record. Assumes nothing.
use mathlib.Core.Path.{◌∙◌}
use native.Mathlib.Omega.{arith}
use Rattle.outs.proofs.Parts.{two_first}
use Rattle.convert.proofs.TemplateLaws.{raise_room, raise_stops, raise_wrote, head_end, number_end, marks_end}
use Rattle.convert.proofs.templates.raise_record.Goals as goal

pub overflow_add-len : goal.overflow_add-len
overflow_add-len c = omega (arith, raise_room c.args.w.now c.args.at c.requires.1 c.count_gaps-gaps.ensures)

pub overflow_add-len-2 : goal.overflow_add-len-2
overflow_add-len-2 c = omega (arith, raise_room c.args.w.now c.args.at c.requires.1 c.count_gaps-gaps.ensures)

pub put_head-a-requires : goal.put_head-a-requires
put_head-a-requires c = omega (arith, raise_room c.args.w.now c.args.at c.requires.1 c.count_gaps-gaps.ensures)

pub put_four-b-requires : goal.put_four-b-requires
put_four-b-requires c = omega (arith, raise_room c.args.w.now c.args.at c.requires.1 c.count_gaps-gaps.ensures, head_end _ _ c.put_head-a.ensures)

pub put_two-c-requires : goal.put_two-c-requires
put_two-c-requires c = omega (arith, raise_room c.args.w.now c.args.at c.requires.1 c.count_gaps-gaps.ensures, head_end _ _ c.put_head-a.ensures, number_end 4 _ c.put_four-b.ensures)

pub put_kinds-requires : goal.put_kinds-requires
put_kinds-requires c = omega (arith, raise_room c.args.w.now c.args.at c.requires.1 c.count_gaps-gaps.ensures, head_end _ _ c.put_head-a.ensures, number_end 4 _ c.put_four-b.ensures, number_end 2 _ c.put_two-c.ensures)

pub put_bytes-e-requires : goal.put_bytes-e-requires
put_bytes-e-requires c = omega (arith, raise_room c.args.w.now c.args.at c.requires.1 c.count_gaps-gaps.ensures, head_end _ _ c.put_head-a.ensures, number_end 4 _ c.put_four-b.ensures, number_end 2 _ c.put_two-c.ensures, marks_end _ _ _ c.in_ok-d.ensures.0)

pub returns-in_err-d : goal.returns-in_err-d
returns-in_err-d c = rw c.from_residual.ensures (raise_stops c.args.w.now c.count_gaps-gaps.ensures c.in_err-d.ensures)

pub returns : goal.returns
returns c = raise_wrote c.args.w.now (two_first _ c.requires.0 (c.from-number.ensures ∙ c.from_be_bytes.ensures)) c.count_gaps-gaps.ensures c.put_head-a.ensures c.put_four-b.ensures c.put_two-c.ensures c.in_ok-d.ensures c.put_bytes-e.ensures
