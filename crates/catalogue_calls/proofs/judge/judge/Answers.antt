-- `judge::judge` meets its contract: the judge's number at each exit. Assumes nothing.
use mathlib.Core.Path.{◌≡◌, refl, sym, ap, ◌∙◌}
use native.Mathlib.Omega.{arith}
use Rattle.field.specs.Bytes.{Bytes}
use Rattle.field.specs.Row.{read}
use Rattle.field.proofs.NumberLaws.{all_from}
use Rattle.refusal.specs.Refusal.{Fine}
use Rattle.outs.specs.PageOut.{check_page_out}
use Rattle.outs.specs.Templates.{check_templates}
use Rattle.outs.specs.declared.Kind.TheVariants.{New}
use Rattle.convert.specs.Flat.{fields_in}
use Rattle.convert.proofs.KindLaws.{fields_drained}
use Rattle.catalogue.specs.Page.{Body, IsBytes}
use Rattle.catalogue.specs.Judged.{forms}
use Rattle.catalogue_calls.proofs.JudgeLaws.{templates_refused, page_refused, taken, kinds_differ, numbers_differ, forms_counted, passed_on}
use Rattle.catalogue_calls.proofs.judge.judge.Goals as goal
use Rattle.catalogue_calls.proofs.judge.judge.Goals.{After-check_templates, After-count-count, else-all_agree-via-then-all_agree+else-is_numbered, else-all_agree-via-else-all_agree}

abbrev parts : After-check_templates → Body
parts c = record { templates = c.args.templates.now; page_out = c.args.page.now }

of_bytes : (c : After-check_templates) → IsBytes (parts c)
of_bytes c = (all_from _ (λ i. (c.type_inv.templates i).fits), all_from _ (λ i. (c.type_inv.page i).fits))

fine : (c : After-count-count) → check_templates New c.args.templates.now ≡ Fine
fine c = sym c.check_templates.ensures ∙ c.in_ok-check_templates.was

page_fine : (c : After-count-count) → check_page_out 4 c.args.page.now ≡ Fine
page_fine c = sym c.check_page_out.ensures ∙ c.in_ok-check_page_out.was

counted : (c : After-count-count) → (x : Body) → x.templates ≡ c.args.templates.now → c.count-count.result ≡ forms x
counted c x e =
    let r = c.count-count.ensures.ran in
    let f : fields_in (read x.templates) ≡ fields_in (read c.args.templates.now) = ap (λ (s : Bytes). fields_in (read s)) e in
    omega (arith, fields_drained (record { 0 = c.args.templates }) r.0 r.1, r.2, f, forms_counted x (ap (check_templates New) e ∙ fine c))

pub returns-in_err-check_templates : goal.returns-in_err-check_templates
returns-in_err-check_templates c =
    let b = (goal.at.returns-in_err-check_templates c).After-check_templates in
    passed_on _ _ _ _ c.from_residual.ensures (templates_refused c.args.before (parts b) (of_bytes b) (sym c.check_templates.ensures ∙ c.in_err-check_templates.was))

pub returns-in_err-check_page_out : goal.returns-in_err-check_page_out
returns-in_err-check_page_out c =
    let b = (goal.at.returns-in_err-check_page_out c).After-check_templates in
    passed_on _ _ _ _ c.from_residual-in_err-check_page_out.ensures
    (page_refused c.args.before (parts b) (of_bytes b) (sym c.check_templates.ensures ∙ c.in_ok-check_templates.was) (sym c.check_page_out.ensures ∙ c.in_err-check_page_out.was))

pub returns-then-is_numbered : goal.returns-then-is_numbered
returns-then-is_numbered c =
    let b = (goal.at.returns-then-is_numbered c).After-check_templates in
    let d = (goal.at.returns-then-is_numbered c).After-count-count in
    taken c.args.before (parts b) (of_bytes b) (fine d) (page_fine d) (counted d (parts b) refl) (sym c.all_agree.ensures ∙ c.if-all_agree.true) (sym c.is_numbered.ensures ∙ c.if-is_numbered.true)

pub returns-else-all_agree : goal.returns-else-all_agree
returns-else-all_agree c =
    let b = (goal.at.returns-else-all_agree c).After-check_templates in
    let d = (goal.at.returns-else-all_agree c).After-count-count in
    elim c.else-all_agree.branch [
      | else-all_agree-via-then-all_agree+else-is_numbered w ↦
          numbers_differ c.args.before (parts b) (of_bytes b) (fine d) (page_fine d) (counted d (parts b) refl) (sym c.all_agree.ensures ∙ w.if-all_agree.true) (sym w.is_numbered.ensures ∙ w.if-is_numbered.false)
      | else-all_agree-via-else-all_agree w ↦
          kinds_differ c.args.before (parts b) (of_bytes b) (fine d) (page_fine d) (counted d (parts b) refl) (sym c.all_agree.ensures ∙ w.if-all_agree.false)
    ]
