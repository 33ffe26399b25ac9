-- `tag_pass::answer::read_field` meets its contract. Assumes nothing.
use native.Mathlib.Omega.{arith}
use mathlib.Core.Path.{sym, ◌∙◌, ap}
use Rattle.std.proofs.lemmas.Bool.{leb-true, leb-false}
use Rattle.std.specs.Prelude.{Err}
use Rattle.std.proofs.lemmas.Result.{err_from_is_err_and}
use Rattle.refusal.specs.declared.Refusal.{Refusal}
use Rattle.tag_pass.specs.declared.answer.Unread.TheVariants as U
use Rattle.refusal.proofs.Verdicts.{refused_by, fine_by}
use Rattle.tag_pass.proofs.AnswerLaws.{handed, field_long, field_no_utf8, field_unread, field_read}
use Rattle.tag_pass.proofs.answer.read_field.Goals as goal

pub returns-in_err-refuse_unless : goal.returns-in_err-refuse_unless
returns-in_err-refuse_unless c = let u = refused_by c.refuse_unless.ensures c.in_err-refuse_unless.was in
    rw (handed c.from_residual.ensures.1 ∙ ap (λ (e : Refusal). Err (U.Refused e)) (sym u.1)) (field_long _ _ c.args.out.now (leb-false _ _ u.0))

pub returns-in_err-refuse_unless-2 : goal.returns-in_err-refuse_unless-2
returns-in_err-refuse_unless-2 c = let u = refused_by c.refuse_unless-2.ensures c.in_err-refuse_unless-2.was in
    rw (handed c.from_residual-in_err-refuse_unless-2.ensures.1 ∙ ap (λ (e : Refusal). Err (U.Refused e)) (sym u.1))
    (field_no_utf8 _ _ c.args.out.now (leb-true _ _ (fine_by _ c.refuse_unless.ensures c.in_ok-refuse_unless.was)) c.is_utf8.ensures u.0)

pub returns-in_err-st : goal.returns-in_err-st
returns-in_err-st c = let p = err_from_is_err_and c.from_residual-in_err-st.result c.from_residual-in_err-st.ensures.1 in
    rw p.1 (field_unread p.0 _ p.2 c.in_err-st.ensures.value c.in_err-st.ensures.ok_part (leb-true _ _ (fine_by _ c.refuse_unless.ensures c.in_ok-refuse_unless.was)) c.is_utf8.ensures (fine_by _ c.refuse_unless-2.ensures c.in_ok-refuse_unless-2.was) c.read.ensures)

pub returns : goal.returns
returns c = field_read c.in_ok-st.ensures.ok_part (leb-true _ _ (fine_by _ c.refuse_unless.ensures c.in_ok-refuse_unless.was)) c.is_utf8.ensures (fine_by _ c.refuse_unless-2.ensures c.in_ok-refuse_unless-2.was) c.read.ensures (omega arith) c.check.ensures
