-- `answer::try_fill` meets its contract: at each exit the outcome is what is answered. Assumes nothing.
use mathlib.Core.Path.{◌≡◌, refl, sym, ap, ◌∙◌, subst}
use native.Mathlib.Omega.{arith}
use Rattle.std.specs.Prelude.{Some}
use Rattle.std.proofs.lemmas.Bool.{leb-true, leb-false}
use Rattle.field.specs.Row.{read}
use Rattle.std.specs.Result.{result_ok}
use Rattle.refusal.specs.Refusal.{Fine, refusal_number}
use Rattle.refusal.specs.declared.Refusal.TheVariants as R
use Rattle.refusal.proofs.Verdicts.{refused_by, fine_by}
use Rattle.outs.specs.Templates.{check_templates}
use Rattle.outs.specs.declared.Kind.TheVariants.{New}
use Rattle.fill.specs.Answer.{refused}
use Rattle.fill.specs.Order.{read_order}
use Rattle.fill.specs.Html.{html_of}
use Rattle.fill.specs.Located.{Fills}
use Rattle.fill.specs.Attempt.{unfilled_number}
use Rattle.fill.specs.declared.answer.Unfilled.{Unfilled}
use Rattle.fill.proofs.AnswerLaws.{templates_refused, order_refused, no_html, no_room, all_filled, unfitting, passed_on}
use Rattle.fill.proofs.answer.try_fill.Goals as goal
use Rattle.fill.proofs.answer.try_fill.Goals.{After-write, In_ok-html_bytes}

templates_fine : (c : After-write) → check_templates New c.args.templates.now ≡ Fine
templates_fine c = sym c.check_templates.ensures ∙ c.in_ok-check_templates.was

pub returns-in_err-check_templates : goal.returns-in_err-check_templates
returns-in_err-check_templates c = passed_on _ _ _ _ _ c.from_residual.ensures (templates_refused _ _ _ _ (sym c.check_templates.ensures ∙ c.in_err-check_templates.was)) refl

pub returns-in_err-written : goal.returns-in_err-written
returns-in_err-written c =
    let b = (goal.at.returns-in_err-written c).After-write in
    passed_on _ _ _ _ _ c.from_residual-in_err-written.ensures (order_refused _ _ _ (templates_fine b) _ c.in_err-written.ensures) c.write.auto.out

pub returns-in_err-html_bytes : goal.returns-in_err-html_bytes
returns-in_err-html_bytes c =
    let b = (goal.at.returns-in_err-html_bytes c).After-write in
    let w = c.in_ok-written.ensures in
    let n = unfitting _ _ (sym c.ok_or.ensures.value ∙ c.in_err-html_bytes.was) in
    passed_on _ _ _ _ _ c.from_residual-in_err-html_bytes.ensures (no_html _ _ _ (templates_fine b) w.0 _ _ (subst (Fills _ _ _ _) n.0 w.1) ∙ ap (λ (u : Unfilled). refused (unfilled_number u)) (sym n.1)) c.write.auto.out

said : (c : In_ok-html_bytes) → Fills (html_of (read c.args.templates.now) (read_order c.args.order.now)) c.args.html_out.now 0 c.write.new.out (Some c.in_ok-html_bytes.html_bytes)
said c = subst (Fills _ _ _ _) (c.ok_or.ensures.ok_part ∙ ap result_ok c.in_ok-html_bytes.was) c.in_ok-written.ensures.1

pub returns-in_err-refuse_unless : goal.returns-in_err-refuse_unless
returns-in_err-refuse_unless c =
    let b = (goal.at.returns-in_err-refuse_unless c).After-write in
    let u = refused_by c.refuse_unless.ensures c.in_err-refuse_unless.was in
    let l = leb-false _ _ u.0 in
    passed_on _ _ _ _ _ c.from_residual-in_err-refuse_unless.ensures (no_room _ _ _ (templates_fine b) c.in_ok-written.ensures.0 _ _ (said (goal.at.returns-in_err-refuse_unless c).In_ok-html_bytes) (omega (arith, l, c.write.auto.out)) ∙ ap (λ r. refused (refusal_number r)) u.1) c.write.auto.out

pub returns : goal.returns
returns c =
    let b = (goal.at.returns c).After-write in
    let l = leb-true _ _ (fine_by R.PageTooSmall c.refuse_unless.ensures c.in_ok-refuse_unless.was) in
    all_filled _ _ _ (templates_fine b) c.in_ok-written.ensures.0 _ _ (said (goal.at.returns c).In_ok-html_bytes) (omega (arith, l, c.write.auto.out))
