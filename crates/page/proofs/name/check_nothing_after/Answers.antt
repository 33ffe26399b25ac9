-- `page::name::check_nothing_after` meets its contract. Assumes nothing.
use mathlib.Core.Path.{◌∙◌}
use Rattle.page.proofs.RowEnds.{nothing_left}
use Rattle.page.proofs.name.check_nothing_after.Goals as goal

pub returns : goal.returns
returns c = c.refuse_unless.ensures ∙ rw c.is_empty.ensures (nothing_left _)
