-- `leave::remove` meets its contract. Assumes nothing.
use mathlib.Core.Path.{sym, subst}
use native.Mathlib.Omega.{arith}
use Rattle.catalogue_calls.specs.Answer.{leaving, Catalogues}
use Rattle.catalogue_calls.specs.declared.catalogued.Catalogued.{Catalogued}
use Rattle.catalogue_calls.proofs.OutcomeLaws.{nothing_changed}
use Rattle.catalogue_calls.proofs.LeaveLaws.{in_order, some_page, remains}
use Rattle.catalogue_calls.proofs.leave.remove.Goals as goal

pub close_up-requires-clause-in_order : goal.close_up-requires-clause-in_order
close_up-requires-clause-in_order c = in_order c.in-Ok.ensures

pub overflow_sub-result : goal.overflow_sub-result
overflow_sub-result c = omega (arith, (in_order c.in-Ok.ensures).0)

pub overflow_sub-result-in-Ok-2 : goal.overflow_sub-result-in-Ok-2
overflow_sub-result-in-Ok-2 c = some_page c.in-Ok.ensures

pub returns-in-Ok : goal.returns-in-Ok
returns-in-Ok c = remains c.in-Ok.ensures c.close_up.ensures

pub returns-in-Err : goal.returns-in-Err
returns-in-Err c =
    subst (λ (r : Catalogued). Catalogues (leaving c.args.catalogue.now c.args.name) c.args.catalogue.now r.number r.used r.pages c.args.catalogue.now) (sym c.refused.ensures)
    (nothing_changed _ _ _ c.in-Err.ensures)
