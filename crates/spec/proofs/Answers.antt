-- What an accepted answer says of the checks, and what the checks say of an answer. Main statements: `accepted_says`, `accepted_fits`,
-- `fine_inputs`, `fine_outputs`. Assumes nothing.
use Prim.Native.Nat.{ℕ, ◌≤◌}
use mathlib.Core.Path.{◌≡◌, refl, subst}
use mathlib.Core.Bool.{Bool, true, false, ◌&&◌, ◌||◌, not}
use native.Mathlib.Omega.{arith}
use lib.Dec.{T, leb, leb→le, le→leb}
use lib.ListN.{length}
use Rattle.std.proofs.Math.Facts.{or_no}
use Rattle.field.specs.Bytes.{Bytes}
use Rattle.field.specs.Row.{Row, read, bytes, long_body}
use Rattle.page.specs.Page.{Options}
use Rattle.page.specs.Tree.{options_in}
use Rattle.page.specs.Check.{check_page, check_options}
use Rattle.refusal.specs.declared.Refusal.TheVariants as R
use Rattle.refusal.specs.Refusal.{Verdict, Fine, Refused}
use Rattle.refusal.proofs.Verdicts.{after_fine, unless_fine, fine_after, fine_unless}
use Rattle.page.proofs.Booleans.{and_both, both_and}
use Rattle.spec.specs.declared.Flags.{Flags}
use Rattle.spec.specs.Pass.{Done}
use Rattle.spec.specs.Transform.{transform, templates_row, page_out_row}
use Rattle.spec.specs.Late.{written}
use Rattle.spec.specs.Answer.{Written, Outcome, accepted, check_outputs, decided, transformed, check_inputs, page_given, outcome}

-- ---- the checks of the inputs

pub record Inputs (page options : Bytes) (scratch : ℕ) : Type 0 where
  pub scratch_enough : 65536 ≤ scratch
  pub page_short : length page ≤ 32768
  pub options_short : length options ≤ 4096
  pub options_fine : check_options (read options) ≡ Fine
  pub page_fine : check_page (read page) ≡ Fine

pub inputs_fine : (page options : Bytes) (scratch : ℕ) → check_inputs page options scratch ≡ Fine → Inputs page options scratch
unfolding check_inputs
inputs_fine page options scratch e =
    let a = after_fine _ _ e in
    let b = after_fine _ _ a.1 in
    let c = after_fine _ _ b.1 in
    let s = and_both (leb (length page) 32768) (leb (length options) 4096) (unless_fine (leb (length page) 32768 && leb (length options) 4096) R.InputTooLong b.0) in
    record {
      scratch_enough = leb→le 65536 scratch (unless_fine (leb 65536 scratch) R.ScratchTooSmall a.0);
      page_short = leb→le (length page) 32768 s.0;
      options_short = leb→le (length options) 4096 s.1;
      options_fine = c.0;
      page_fine = c.1;
    }

pub fine_inputs : (page options : Bytes) (scratch : ℕ) → Inputs page options scratch → check_inputs page options scratch ≡ Fine
unfolding check_inputs
fine_inputs page options scratch i =
    fine_after _ _ (fine_unless (leb 65536 scratch) R.ScratchTooSmall (le→leb 65536 scratch i.scratch_enough))
    (fine_after _ _
    (fine_unless (leb (length page) 32768 && leb (length options) 4096) R.InputTooLong
    (both_and (leb (length page) 32768) (leb (length options) 4096) (le→leb (length page) 32768 i.page_short) (le→leb (length options) 4096 i.options_short)))
    (fine_after _ _ i.options_fine i.page_fine))

-- ---- the checks of the outputs

pub record Outputs (templates_room page_room : ℕ) (f : Flags) (templates page : Row) : Type 0 where
  pub none_left : T (not f.left)
  pub none-repeated : T (not f.repeated)
  pub none_mixed : T (not f.mixed)
  pub short : T (not (f.long || (long_body templates || long_body page)))
  pub templates_fit : length (bytes templates) ≤ templates_room
  pub page_fits : length (bytes page) ≤ page_room

pub outputs_fine : (tr pr : ℕ) (f : Flags) (t p : Row) → check_outputs tr pr f t p ≡ Fine → Outputs tr pr f t p
unfolding check_outputs
outputs_fine tr pr f t p e =
    let a = after_fine _ _ e in
    let b = after_fine _ _ a.1 in
    let c = after_fine _ _ b.1 in
    let g = after_fine _ _ c.1 in
    let h = after_fine _ _ g.1 in
    record {
      none_left = unless_fine (not f.left) R.TagLeft a.0;
      none-repeated = unless_fine (not f.repeated) R.RepeatedAttribute b.0;
      none_mixed = unless_fine (not f.mixed) R.MixedCaseVoid c.0;
      short = unless_fine (not (f.long || (long_body t || long_body p))) R.OutputTooLong g.0;
      templates_fit = leb→le (length (bytes t)) tr (unless_fine (leb (length (bytes t)) tr) R.TemplatesTooSmall h.0);
      page_fits = leb→le (length (bytes p)) pr (unless_fine (leb (length (bytes p)) pr) R.PageTooSmall h.1);
    }

pub fine_outputs : (tr pr : ℕ) (f : Flags) (t p : Row) → Outputs tr pr f t p → check_outputs tr pr f t p ≡ Fine
unfolding check_outputs
fine_outputs tr pr f t p h =
    fine_after _ _ (fine_unless (not f.left) R.TagLeft h.none_left)
    (fine_after _ _ (fine_unless (not f.repeated) R.RepeatedAttribute h.none-repeated)
    (fine_after _ _ (fine_unless (not f.mixed) R.MixedCaseVoid h.none_mixed)
    (fine_after _ _ (fine_unless (not (f.long || (long_body t || long_body p))) R.OutputTooLong h.short)
    (fine_after _ _ (fine_unless (leb (length (bytes t)) tr) R.TemplatesTooSmall (le→leb (length (bytes t)) tr h.templates_fit))
    (fine_unless (leb (length (bytes p)) pr) R.PageTooSmall (le→leb (length (bytes p)) pr h.page_fits))))))

-- neither output has a long body
pub short_outputs : (f : Flags) (t p : Row) → T (not (f.long || (long_body t || long_body p))) → T (not (long_body t)) × T (not (long_body p))
short_outputs f t p h = or_no (long_body t) (long_body p) (or_no f.long (long_body t || long_body p) h).1

-- ---- an accepted answer

accepted_decided : (v : Verdict) (k : Unit {0} → Outcome) (w : Written) → decided v k ≡ accepted w → (v ≡ Fine) × (k tt ≡ accepted w)
unfolding decided
accepted_decided Fine k w e = (refl, e)
accepted_decided (Refused n) k w e = absurd (let z : ◌≡◌ {A = ℕ} 0 1 = cc in omega arith)

pub record Accepted (page options : Bytes) (scratch templates_room page_room : ℕ) (w : Written) : Type 0 where
  pub inputs : Inputs page options scratch
  pub outputs :
      let o = options_in (read options) in
      let d = transform o (page_given page options) in
      Outputs templates_room page_room d.flags (templates_row d.templates) (page_out_row o d)
  pub written_is : written (options_in (read options)) (transform (options_in (read options)) (page_given page options)) ≡ w

pub accepted_says : (page options : Bytes) (scratch tr pr : ℕ) (w : Written) → outcome page options scratch tr pr ≡ accepted w → Accepted page options scratch tr pr w
unfolding outcome transformed
accepted_says page options scratch tr pr w e =
    let o : Options = options_in (read options) in
    let d : Done Row = transform o (page_given page options) in
    let a = accepted_decided (check_inputs page options scratch) (λ _. transformed tr pr o d) w e in
    let b = accepted_decided (check_outputs tr pr d.flags (templates_row d.templates) (page_out_row o d)) (λ _. accepted (written o d)) w a.1 in
    record {
      inputs = inputs_fine page options scratch a.0;
      outputs = outputs_fine tr pr d.flags (templates_row d.templates) (page_out_row o d) b.0;
      written_is = same (written o d) w b.1;
    }
  where
    same : (v w : Written) → accepted v ≡ accepted w → v ≡ w
    same v w e = cc

-- what is written fits
pub accepted_fits : (page options : Bytes) (scratch tr pr : ℕ) (w : Written) → Accepted page options scratch tr pr w → (length w.templates_out ≤ tr) × (length w.page_out ≤ pr)
accepted_fits page options scratch tr pr w a = subst (λ (v : Written). (length v.templates_out ≤ tr) × (length v.page_out ≤ pr)) a.written_is (a.outputs.templates_fit, a.outputs.page_fits)
