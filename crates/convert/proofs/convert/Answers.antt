-- `convert` meets its contract: at each exit the outcome is what is answered. Assumes nothing.
use mathlib.Core.Path.{◌≡◌, refl, sym, ap, ◌∙◌, subst}
use native.Mathlib.Omega.{arith}
use Rattle.field.specs.Bytes.{AllBytes}
use Rattle.field.proofs.NumberLaws.{all_from}
use Rattle.refusal.specs.Refusal.{Fine, refusal_number}
use Rattle.refusal.specs.declared.Refusal.TheVariants as R
use Rattle.std.proofs.lemmas.Bool.{leb-true, leb-false, not-true, not-false}
use Rattle.outs.specs.Held.{read_out}
use Rattle.outs.specs.PageOut.{check_page_out}
use Rattle.outs.specs.Templates.{check_templates}
use Rattle.outs.specs.Renumber.{Renumbers}
use Rattle.refusal.proofs.Verdicts.{refused_by, fine_by}
use Rattle.field.specs.Row.{read}
use Rattle.std.specs.Result.{result_ok}
use Rattle.convert.specs.Convert.{refused}
use Rattle.convert.specs.Flat.{other, width, unconverted_number, WroteAll, Rewrites}
use Rattle.convert.specs.declared.Unconverted.{Unconverted}
use Rattle.convert.proofs.TurnedLaws.{templates_refused, page_refused, unclear, too_wide, too_long, templates_full, page_full, both_written, renumbers_by, room_by, passed_on, refused_on}
use Rattle.convert.proofs.AnswerLaws.{not_said}
use Rattle.convert.proofs.convert.Goals as goal
use Rattle.convert.proofs.convert.Goals.{After-rewrite_templates, After-renumber-y, In_ok-x}

fine : (c : After-rewrite_templates) → check_templates c.args.from c.args.templates.now ≡ Fine
fine c = sym c.check_templates.ensures ∙ c.in_ok-check_templates.was

page_fine : (c : After-rewrite_templates) → check_page_out (width c.args.from) c.args.page.now ≡ Fine
page_fine c = ap (λ n. check_page_out n c.args.page.now) (sym c.width.ensures) ∙ sym c.check_page_out.ensures ∙ c.in_ok-check_page_out.was

templates_all : (c : After-rewrite_templates) → AllBytes c.args.templates.now
templates_all c = all_from _ (λ i. (c.type_inv.templates i).fits)

page_all : (c : After-rewrite_templates) → AllBytes c.args.page.now
page_all c = all_from _ (λ i. (c.type_inv.page i).fits)

both : (c : After-renumber-y) → Renumbers (width (other c.args.from)) (read_out (width c.args.from) c.args.page.now) c.args.page_out.now c.renumber-y.new.out c.renumber-y.result.bytes c.renumber-y.result.long c.renumber-y.result.wide
both c = renumbers_by c.args.page.now (c.width-3.ensures ∙ ap width c.other.ensures) c.width-2.ensures c.renumber-y.ensures

said : (c : In_ok-x) → WroteAll c.args.from (read c.args.templates.now) c.args.templates_out.now c.rewrite_templates.new.out c.in_ok-x.x
said c = subst (Rewrites _ _ _ _) (c.ok_or.ensures.ok_part ∙ ap result_ok c.in_ok-x.was) c.rewrite_templates.ensures

pub returns-in_err-check_templates : goal.returns-in_err-check_templates
returns-in_err-check_templates c = let a = c.args in passed_on _ _ _ _ _ _ _ c.from_residual.ensures (templates_refused a.from a.templates.now a.page.now _ _ (sym c.check_templates.ensures ∙ c.in_err-check_templates.was)) refl refl

pub returns-in_err-check_page_out : goal.returns-in_err-check_page_out
returns-in_err-check_page_out c =
    let a = c.args in
    passed_on _ _ _ _ _ _ _ c.from_residual-in_err-check_page_out.ensures (page_refused a.from a.templates.now a.page.now _ _ (sym c.check_templates.ensures ∙ c.in_ok-check_templates.was)
    (ap (λ n. check_page_out n a.page.now) (sym c.width.ensures) ∙ sym c.check_page_out.ensures ∙ c.in_err-check_page_out.was)) refl refl

pub returns-in_err-x : goal.returns-in_err-x
returns-in_err-x c =
    let a = c.args in
    let b = (goal.at.returns-in_err-x c).After-rewrite_templates in
    let n = not_said _ _ (sym c.ok_or.ensures.value ∙ c.in_err-x.was) in
    passed_on _ _ _ _ _ _ _ c.from_residual-in_err-x.ensures (unclear a.from a.templates.now a.page.now _ _ (fine b) (page_fine b) (templates_all b) (page_all b) (subst (Rewrites _ _ _ _) n.0 c.rewrite_templates.ensures) ∙ ap (λ (u : Unconverted). refused (unconverted_number u)) (sym n.1)) c.rewrite_templates.auto.out refl

pub renumber-y-requires : goal.renumber-y-requires
renumber-y-requires c =
    let b = (goal.at.renumber-y-requires c).After-rewrite_templates in
    room_by c.args.from c.args.page.now (c.width-3.ensures ∙ ap width c.other.ensures) c.width-2.ensures (page_all b) (page_fine b) (omega (arith, c.well_formed.1.0.1))

pub returns-then-y : goal.returns-then-y
returns-then-y c =
    let a = c.args in
    let b = (goal.at.returns-then-y c).After-rewrite_templates in
    let w = said (goal.at.returns-then-y c).In_ok-x in
    record {
      reason_is = too_wide a.from a.templates.now a.page.now _ _ (fine b) (page_fine b) (templates_all b) (page_all b) w.clear_is w (both (goal.at.returns-then-y c).After-renumber-y) refl refl c.if-y.true;
      templates_size = c.rewrite_templates.auto.out;
      page_size = c.renumber-y.auto.out;
    }

pub returns-in_err-refuse_unless : goal.returns-in_err-refuse_unless
unfolding refusal_number
returns-in_err-refuse_unless c =
    let a = c.args in
    let b = (goal.at.returns-in_err-refuse_unless c).After-rewrite_templates in
    let w = said (goal.at.returns-in_err-refuse_unless c).In_ok-x in
    let u = refused_by c.refuse_unless.ensures c.in_err-refuse_unless.was in
    passed_on _ _ _ _ _ _ _ c.from_residual-in_err-refuse_unless.ensures (refused_on R.OutputTooLong _ u.1 (too_long a.from a.templates.now a.page.now _ _ (fine b) (page_fine b) (templates_all b) (page_all b) w.clear_is w (both (goal.at.returns-in_err-refuse_unless c).After-renumber-y) refl refl c.if-y.false (not-false _ u.0))) c.rewrite_templates.auto.out c.renumber-y.auto.out

pub returns-in_err-refuse_unless-2 : goal.returns-in_err-refuse_unless-2
unfolding refusal_number
returns-in_err-refuse_unless-2 c =
    let a = c.args in
    let b = (goal.at.returns-in_err-refuse_unless-2 c).After-rewrite_templates in
    let w = said (goal.at.returns-in_err-refuse_unless-2 c).In_ok-x in
    let u = refused_by c.refuse_unless-2.ensures c.in_err-refuse_unless-2.was in
    passed_on _ _ _ _ _ _ _ c.from_residual-in_err-refuse_unless-2.ensures (refused_on R.TemplatesTooSmall _ u.1 (templates_full a.from a.templates.now a.page.now _ _ (fine b) (page_fine b) (templates_all b) (page_all b) w.clear_is w (both (goal.at.returns-in_err-refuse_unless-2 c).After-renumber-y) refl refl c.if-y.false (not-true _ (fine_by R.OutputTooLong c.refuse_unless.ensures c.in_ok-refuse_unless.was)) (leb-false _ _ u.0))) c.rewrite_templates.auto.out c.renumber-y.auto.out

pub returns-in_err-refuse_unless-3 : goal.returns-in_err-refuse_unless-3
unfolding refusal_number
returns-in_err-refuse_unless-3 c =
    let a = c.args in
    let b = (goal.at.returns-in_err-refuse_unless-3 c).After-rewrite_templates in
    let w = said (goal.at.returns-in_err-refuse_unless-3 c).In_ok-x in
    let u = refused_by c.refuse_unless-3.ensures c.in_err-refuse_unless-3.was in
    passed_on _ _ _ _ _ _ _ c.from_residual-in_err-refuse_unless-3.ensures (refused_on R.PageTooSmall _ u.1 (page_full a.from a.templates.now a.page.now _ _ (fine b) (page_fine b) (templates_all b) (page_all b) w.clear_is w (both (goal.at.returns-in_err-refuse_unless-3 c).After-renumber-y) refl refl c.if-y.false (not-true _ (fine_by R.OutputTooLong c.refuse_unless.ensures c.in_ok-refuse_unless.was)) (leb-true _ _ (fine_by R.TemplatesTooSmall c.refuse_unless-2.ensures c.in_ok-refuse_unless-2.was)) (leb-false _ _ u.0))) c.rewrite_templates.auto.out c.renumber-y.auto.out

pub returns : goal.returns
returns c =
    let a = c.args in
    let b = (goal.at.returns c).After-rewrite_templates in
    let w = said (goal.at.returns c).In_ok-x in
    both_written a.from a.templates.now a.page.now _ _ (fine b) (page_fine b) (templates_all b) (page_all b) w.clear_is w (both (goal.at.returns c).After-renumber-y) refl refl c.if-y.false (not-true _ (fine_by R.OutputTooLong c.refuse_unless.ensures c.in_ok-refuse_unless.was)) (leb-true _ _ (fine_by R.TemplatesTooSmall c.refuse_unless-2.ensures c.in_ok-refuse_unless-2.was)) (leb-true _ _ (fine_by R.PageTooSmall c.refuse_unless-3.ensures c.in_ok-refuse_unless-3.was))
