-- `page::name::check_missing` meets its contract. Assumes nothing.
use mathlib.Core.Path.{refl}
use Rattle.page.proofs.Steps.{exit_at, last_at}
use Rattle.page.proofs.RowEnds.{missing_then}
use Rattle.page.proofs.name.check_missing.Goals as goal

pub returns-in_err-check_nothing_after : goal.returns-in_err-check_nothing_after
returns-in_err-check_nothing_after c = exit_at (missing_then _) c.check_nothing_after.ensures c.in_err-check_nothing_after.was c.from_residual.ensures

pub returns : goal.returns
returns c = last_at (missing_then _) c.check_nothing_after.ensures c.in_ok-check_nothing_after.was refl
