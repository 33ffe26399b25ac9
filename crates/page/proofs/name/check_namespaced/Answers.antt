-- `page::name::check_namespaced` meets its contract. Assumes nothing.
use mathlib.Core.Path.{refl}
use Rattle.page.proofs.Steps.{exit_at, last_at}
use Rattle.page.proofs.RowEnds.{space_then, local_then}
use Rattle.page.proofs.name.check_namespaced.Goals as goal

pub returns-in_err-check_first : goal.returns-in_err-check_first
returns-in_err-check_first c = exit_at (space_then _ _ refl) c.check_first.ensures.gives c.in_err-check_first.was c.from_residual.ensures

pub returns-in_err-check_first-2 : goal.returns-in_err-check_first-2
returns-in_err-check_first-2 c = last_at (space_then _ _ c.in_ok-check_first.ensures.leaves) c.check_first.ensures.gives c.in_ok-check_first.was (exit_at (local_then _ _ refl) c.check_first-2.ensures.gives c.in_err-check_first-2.was c.from_residual-in_err-check_first-2.ensures)

pub returns : goal.returns
returns c = last_at (space_then _ _ c.in_ok-check_first.ensures.leaves) c.check_first.ensures.gives c.in_ok-check_first.was (last_at (local_then _ _ c.in_ok-check_first-2.ensures.leaves) c.check_first-2.ensures.gives c.in_ok-check_first-2.was c.check_end.ensures)
