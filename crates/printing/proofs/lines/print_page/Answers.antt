-- `print_page` meets its contract. The loop's invariant: the text of the items behind is left to write.
use native.Mathlib.Omega.{arith}
use Rattle.printing.proofs.LineLaws.{page_import, page_templates, page_empty, page_item, page_end}
use Rattle.printing.proofs.RoomLaws.{left_room, left_on, left_done}
use Rattle.printing.proofs.lines.print_page.Goals as goal

pub print_import-a-requires : goal.print_import-a-requires
print_import-a-requires c = left_room c.loop-item.invariant _ _ (page_import _ c.in-Some.ensures.steps c.in-130.is c.parts.ensures.inner)

pub print_templates-a-requires : goal.print_templates-a-requires
print_templates-a-requires c = left_room c.loop-item.invariant _ _ (page_templates _ c.in-Some.ensures.steps c.in-131.is)

pub print_item-a-requires : goal.print_item-a-requires
print_item-a-requires c = left_room c.loop-item.invariant _ _ (page_item _ c.in-Some.ensures.steps (omega arith) (omega arith) (omega arith) c.parts.ensures.inner)

pub loop-item-preserved-in-130 : goal.loop-item-preserved-in-130
loop-item-preserved-in-130 c = left_on c.loop-item.invariant (page_import _ c.in-Some.ensures.steps c.in-130.is c.parts.ensures.inner) c.print_import-a.ensures

pub loop-item-preserved-in-131 : goal.loop-item-preserved-in-131
loop-item-preserved-in-131 c = left_on c.loop-item.invariant (page_templates _ c.in-Some.ensures.steps c.in-131.is) c.print_templates-a.ensures

pub loop-item-preserved-in-19 : goal.loop-item-preserved-in-19
loop-item-preserved-in-19 c = left_on c.loop-item.invariant (page_empty _ c.in-Some.ensures.steps c.in-19.is) c.put_bytes-a.ensures

pub loop-item-preserved : goal.loop-item-preserved
loop-item-preserved c = left_on c.loop-item.invariant (page_item _ c.in-Some.ensures.steps (omega arith) (omega arith) (omega arith) c.parts.ensures.inner) c.print_item-a.ensures

pub returns : goal.returns
returns c = left_done c.loop-item.invariant (page_end _ _ c.in-None.ensures.steps.ended)
