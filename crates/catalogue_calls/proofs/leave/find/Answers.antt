-- `leave::find` meets its contract: 4 before all else, then 22. Assumes nothing.
use mathlib.Core.Path.{sym, ap, ◌∙◌}
use Rattle.field.specs.Bytes.{AllBytes}
use Rattle.field.proofs.NumberLaws.{all_from}
use Rattle.refusal.specs.Refusal.{refusal_number}
use Rattle.catalogue.specs.Calls.{refused}
use Rattle.catalogue_calls.specs.Leaves.{Finds}
use Rattle.catalogue_calls.specs.Judges.{unkept_number}
use Rattle.catalogue_calls.proofs.OutcomeLaws.{unread, is_held, none_err, some_ok, passed_on}
use Rattle.catalogue_calls.proofs.LeaveLaws.{refused_absent, is_there}
use Rattle.catalogue_calls.proofs.leave.find.Goals as goal

pub returns-in_err-held : goal.returns-in_err-held
unfolding refusal_number
returns-in_err-held c =
    let o = none_err c.read.result _ c.in_err-held.field-0.0 (sym c.ok_or.ensures.value ∙ c.in_err-held.was) in
    passed_on (Finds c.args.catalogue.now c.args.name) _ _ c.from_residual.ensures
    (unread _ _ c.args.catalogue.now c.read.result c.read.ensures o.0 ∙ ap (λ u. refused (unkept_number u)) o.1)

pub returns-in_err-found : goal.returns-in_err-found
returns-in_err-found c =
    let a : AllBytes c.args.catalogue.now = all_from c.args.catalogue.now (λ i. (c.type_inv.catalogue i).fits) in
    let h = is_held c.args.catalogue.now c.read.result c.in_ok-held.held c.read.ensures (some_ok c.read.result _ c.in_ok-held.held (sym c.ok_or.ensures.value ∙ c.in_ok-held.was)) in
    let o = none_err c.look_up.result _ c.in_err-found.field-0.0 (sym c.ok_or-2.ensures.value ∙ c.in_err-found.was) in
    passed_on (Finds c.args.catalogue.now c.args.name) _ _ c.from_residual-in_err-found.ensures
    (refused_absent a h c.args.name c.look_up.result c.look_up.ensures o.0 ∙ ap (λ u. refused (unkept_number u)) o.1)

pub returns : goal.returns
returns c =
    let a : AllBytes c.args.catalogue.now = all_from c.args.catalogue.now (λ i. (c.type_inv.catalogue i).fits) in
    let h = is_held c.args.catalogue.now c.read.result c.in_ok-held.held c.read.ensures (some_ok c.read.result _ c.in_ok-held.held (sym c.ok_or.ensures.value ∙ c.in_ok-held.was)) in
    is_there a h c.args.name c.look_up.result c.in_ok-found.found c.look_up.ensures (some_ok c.look_up.result _ c.in_ok-found.found (sym c.ok_or-2.ensures.value ∙ c.in_ok-found.was))
