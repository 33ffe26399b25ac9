-- `write_worked` meets its contract: what is written of the buffer is written of the worked page. Assumes nothing.
use Rattle.transform.proofs.GivenLaws.{ready_page, held_fits, held_part, ready_worked, written_worked}
use Rattle.transform.proofs.given.write_worked.Goals as goal

pub work_page-n-requires : goal.work_page-n-requires
work_page-n-requires c = (ready_page _ _ _ c.requires).1

pub slice_bounds-write_page-end : goal.slice_bounds-write_page-end
slice_bounds-write_page-end c = let r = ready_page _ _ _ c.requires in held_part _ _ _ r.0 r.1 c.room-worked.ensures.0 c.work_page-n.ensures

pub write_page-requires : goal.write_page-requires
write_page-requires c = let r = ready_page _ _ _ c.requires in ready_worked _ _ _ r.0 r.1 c.room-worked.ensures.0 c.work_page-n.ensures

pub returns : goal.returns
returns c = let r = ready_page _ _ _ c.requires in written_worked _ _ _ r.0 r.1 c.room-worked.ensures.0 c.work_page-n.ensures _ _ c.write_page.ensures

pub slice_bounds-worked-end : goal.slice_bounds-worked-end
slice_bounds-worked-end c = let r = ready_page _ _ _ c.requires in held_fits _ _ _ r.0 r.1 c.room-worked.ensures.0 c.work_page-n.ensures
