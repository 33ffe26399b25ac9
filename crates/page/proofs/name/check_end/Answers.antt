-- `page::name::check_end` meets its contract. Assumes nothing.
use mathlib.Core.Path.{◌∙◌}
use Rattle.page.proofs.RowEnds.{end_extra, end_ended}
use Rattle.page.proofs.name.check_end.Goals as goal

pub returns-in-Some : goal.returns-in-Some
returns-in-Some c = end_extra c.in-Some.ensures

pub returns-in-None : goal.returns-in-None
returns-in-None c = c.check_nothing_after.ensures ∙ end_ended c.in-None.ensures
