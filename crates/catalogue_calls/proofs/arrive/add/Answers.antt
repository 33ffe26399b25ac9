-- `arrive::add` meets its contract. Assumes nothing.
use mathlib.Core.Path.{sym, subst}
use native.Mathlib.Omega.{arith}
use Rattle.field.proofs.NumberLaws.{all_from}
use Rattle.catalogue_calls.specs.Answer.{arriving, Catalogues}
use Rattle.catalogue_calls.specs.declared.catalogued.Catalogued.{Catalogued}
use Rattle.catalogue_calls.proofs.OutcomeLaws.{nothing_changed}
use Rattle.catalogue_calls.proofs.ArriveLaws.{taken_house, taken_fits, taken_templates, taken_page_out, few_pages, arrived}
use Rattle.catalogue_calls.proofs.arrive.add.Goals as goal

pub put_page-requires-clause-is_house : goal.put_page-requires-clause-is_house
put_page-requires-clause-is_house c = taken_house c.in-Ok.ensures

pub put_page-requires-clause-fits : goal.put_page-requires-clause-fits
put_page-requires-clause-fits c = taken_fits c.in-Ok.ensures

pub put_page-requires-clause-templates_fine : goal.put_page-requires-clause-templates_fine
put_page-requires-clause-templates_fine c = taken_templates c.in-Ok.ensures

pub put_page-requires-clause-page_fine : goal.put_page-requires-clause-page_fine
put_page-requires-clause-page_fine c = taken_page_out c.in-Ok.ensures

pub overflow_add-result : goal.overflow_add-result
overflow_add-result c = omega (arith, taken_fits c.in-Ok.ensures)

pub overflow_add-result-in-Ok : goal.overflow_add-result-in-Ok
overflow_add-result-in-Ok c = omega (arith, taken_fits c.in-Ok.ensures)

pub overflow_add-result-in-Ok-2 : goal.overflow_add-result-in-Ok-2
overflow_add-result-in-Ok-2 c = omega (arith, taken_fits c.in-Ok.ensures)

pub overflow_add-result-in-Ok-3 : goal.overflow_add-result-in-Ok-3
overflow_add-result-in-Ok-3 c = omega (arith, few_pages c.in-Ok.ensures)

pub returns-in-Ok : goal.returns-in-Ok
returns-in-Ok c =
    arrived c.in-Ok.ensures c.ranges.name.fits
    (all_from c.args.templates.now (λ i. (c.type_inv.templates i).fits), all_from c.args.page.now (λ i. (c.type_inv.page i).fits)) c.put_page.ensures

pub returns-in-Err : goal.returns-in-Err
returns-in-Err c =
    subst (λ (r : Catalogued). Catalogues (arriving c.args.catalogue.now c.args.name c.args.house c.args.shares.now c.args.templates.now c.args.page.now) c.args.catalogue.now r.number r.used r.pages c.args.catalogue.now) (sym c.refused.ensures)
    (nothing_changed _ _ _ c.in-Err.ensures)
