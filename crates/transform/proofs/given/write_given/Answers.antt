-- `write_given` meets its contract: the page as it came, or the worked one where a 05 stands. Assumes nothing.
use mathlib.Core.Bool.{true, false}
use mathlib.Core.Path.{refl}
use Rattle.transform.proofs.GivenLaws.{ready_page, written_plain, written_given}
use Rattle.transform.proofs.given.write_given.Goals as goal

pub returns-then-works_sums : goal.returns-then-works_sums
returns-then-works_sums c = written_given _ _ c.works_sums.ensures true c.if-works_sums.true _ _ c.write_worked.ensures

pub write_page-requires : goal.write_page-requires
write_page-requires c = (ready_page _ _ _ c.requires).0

pub returns-else-works_sums : goal.returns-else-works_sums
returns-else-works_sums c = written_given _ _ c.works_sums.ensures false c.if-works_sums.false _ _ (written_plain _ _ refl _ _ c.write_page.ensures)
