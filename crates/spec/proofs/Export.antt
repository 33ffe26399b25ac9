-- What a caller of the export knows from its answer and its buffers alone. Main statements: `export_demand3`, `export_kept`,
-- `export_written`, `export_bytes`, `export_behind`, `export_refused`. Assumes nothing.
use Prim.Native.Nat.{ℕ, ◌+◌, ◌≤◌}
use native.Mathlib.Nat.{zero-add}
use mathlib.Core.Path.{◌≡◌, refl, sym, ap, ap₂, ◌∙◌, subst}
use native.Mathlib.Omega.{arith}
use lib.ListN.{length, take, drop}
use lib.Seq.{take_at, drop_at}
use Rattle.field.specs.Bytes.{Bytes, AllBytes}
use Rattle.field.specs.Put.{put}
use Rattle.field.proofs.NumberLaws.{all_take}
use Rattle.field.proofs.PutLaws.{put_fits}
use Rattle.refusal.proofs.Verdicts.{never_zero}
use Rattle.spec.specs.Answer.{Written, Outcome, refused, accepted, outcome, number, bytes_of_templates, bytes_of_page, templates, zeros, templates_left, page_left, Answered}
use Rattle.spec.specs.Demand.{Demand3Bytes}
use Rattle.spec.specs.Kept.{KeptBytes}
use Rattle.spec.proofs.Answers.{accepted_says, accepted_fits}
use Rattle.spec.proofs.Lent.{demand3}
use Rattle.spec.proofs.Kept.{kept_bytes}

-- number 0: something is written
pub zero_written : (x : Outcome) → number x ≡ 0 → (w : Written) × (x ≡ accepted w)
unfolding number
zero_written (refused n) e = absurd (never_zero n e)
zero_written (accepted w) e = (w, refl)

-- ---- what fits stands in front, and the rest stays

put_front : (o w : Bytes) → length w ≤ length o → take (length w) (put o 0 w) ≡ w
put_front o w h = ap (take (length w)) (put_fits o 0 w (omega arith)) ∙ take_at w (drop (0 + length w) o) (length w) refl

put_rest : (o w : Bytes) → length w ≤ length o → drop (length w) (put o 0 w) ≡ drop (length w) o
put_rest o w h =
    ap (drop (length w)) (put_fits o 0 w (omega arith)) ∙ drop_at w (drop (0 + length w) o) (length w) refl ∙ ap (λ (k : ℕ). drop k o) (zero-add (length w))

module _ (page options : Bytes) (scratch : ℕ) (templates_before page_before : Bytes) (n tb pb ts : ℕ) (templates_after page_after : Bytes)
    (a : Answered (outcome page options scratch (length templates_before) (length page_before)) templates_before page_before n tb pb ts templates_after page_after) where
  -- what is known where the number is 0
  record Placed : Type 0 where
    what : Written
    outcome_is : outcome page options scratch (length templates_before) (length page_before) ≡ accepted what
    answered : Answered (accepted what) templates_before page_before n tb pb ts templates_after page_after
    fits : (length what.templates_out ≤ length templates_before) × (length what.page_out ≤ length page_before)

  -- what is written stands in front of page out
  page_front : (k : Placed) → k.what.page_out ≡ take pb page_after
  unfolding bytes_of_page page_left
  page_front k = sym (put_front page_before k.what.page_out k.fits.1) ∙ ap₂ take (sym k.answered.page_bytes_is) (sym k.answered.page_out_is)

  placed : n ≡ 0 → Placed
  placed z =
      let k = zero_written (outcome page options scratch (length templates_before) (length page_before)) (sym a.number_is ∙ z) in
      record {
        what = k.0;
        outcome_is = k.1;
        answered = subst (λ (y : Outcome). Answered y templates_before page_before n tb pb ts templates_after page_after) k.1 a;
        fits = accepted_fits page options scratch (length templates_before) (length page_before) k.0 (accepted_says page options scratch (length templates_before) (length page_before) k.0 k.1);
      }

  -- demand 3 of the first bytes of both outs
  pub export_demand3 : AllBytes page → n ≡ 0 → Demand3Bytes (take tb templates_after) (take pb page_after) ts
  unfolding bytes_of_templates bytes_of_page templates templates_left page_left
  export_demand3 all z =
      let k = placed z in
      let w : Written = k.what in
      let b = k.answered in
      let et : w.templates_out ≡ take tb templates_after = sym (put_front templates_before w.templates_out k.fits.0) ∙ ap₂ take (sym b.templates_bytes_is) (sym b.templates_out_is) in
      subst (λ (m : ℕ). Demand3Bytes (take tb templates_after) (take pb page_after) m) (sym b.templates_is)
      (subst (λ (y : Bytes). Demand3Bytes (take tb templates_after) y w.templates) (page_front k)
      (subst (λ (y : Bytes). Demand3Bytes y w.page_out w.templates) et (demand3 page options scratch (length templates_before) (length page_before) w all k.outcome_is)))

  -- the page's own expressions are kept in the first bytes of page out
  pub export_kept : AllBytes page → n ≡ 0 → KeptBytes page options (take pb page_after)
  export_kept all z =
      let k = placed z in
      subst (KeptBytes page options) (page_front k) (kept_bytes page options scratch (length templates_before) (length page_before) k.what all k.outcome_is)

  -- what holds of both outputs of every accepted page holds of the first bytes of both outs
  pub export_written : (P : Bytes → Bytes → Type 0) → ((w : Written) → outcome page options scratch (length templates_before) (length page_before) ≡ accepted w → P w.templates_out w.page_out) → n ≡ 0 → P (take tb templates_after) (take pb page_after)
  unfolding bytes_of_templates templates_left
  export_written P h z =
      let k = placed z in
      let w : Written = k.what in
      let b = k.answered in
      let et : w.templates_out ≡ take tb templates_after = sym (put_front templates_before w.templates_out k.fits.0) ∙ ap₂ take (sym b.templates_bytes_is) (sym b.templates_out_is) in
      subst (λ (y : Bytes). P (take tb templates_after) y) (page_front k) (subst (λ (y : Bytes). P y w.page_out) et (h w k.outcome_is))

  -- what is written is bytes, where a buffer of bytes holds it
  pub export_bytes : (w : Written) → outcome page options scratch (length templates_before) (length page_before) ≡ accepted w → AllBytes templates_after → AllBytes page_after → AllBytes w.templates_out × AllBytes w.page_out
  unfolding bytes_of_templates bytes_of_page templates_left page_left
  export_bytes w e all_templates all_page =
      let b = subst (λ (y : Outcome). Answered y templates_before page_before n tb pb ts templates_after page_after) e a in
      let f = accepted_fits page options scratch (length templates_before) (length page_before) w (accepted_says page options scratch (length templates_before) (length page_before) w e) in (
        subst AllBytes (ap (take (length w.templates_out)) b.templates_out_is ∙ put_front templates_before w.templates_out f.0) (all_take (length w.templates_out) templates_after all_templates),
        subst AllBytes (ap (take (length w.page_out)) b.page_out_is ∙ put_front page_before w.page_out f.1) (all_take (length w.page_out) page_after all_page),
      )

  -- bytes behind the written ends stay
  pub export_behind : n ≡ 0 → (drop tb templates_after ≡ drop tb templates_before) × (drop pb page_after ≡ drop pb page_before)
  unfolding bytes_of_templates bytes_of_page templates_left page_left
  export_behind z =
      let k = placed z in
      let w : Written = k.what in
      let b = k.answered in (
        ap₂ drop b.templates_bytes_is b.templates_out_is ∙ put_rest templates_before w.templates_out k.fits.0 ∙ ap (λ (m : ℕ). drop m templates_before) (sym b.templates_bytes_is),
        ap₂ drop b.page_bytes_is b.page_out_is ∙ put_rest page_before w.page_out k.fits.1 ∙ ap (λ (m : ℕ). drop m page_before) (sym b.page_bytes_is),
      )

  -- refused: zeros, in the answer and in both outs
  pub export_refused : (n ≡ 0 → ⊥) → (tb ≡ 0) × (pb ≡ 0) × (ts ≡ 0) × (templates_after ≡ zeros templates_before) × (page_after ≡ zeros page_before)
  unfolding number bytes_of_templates bytes_of_page templates templates_left page_left
  export_refused z = on (outcome page options scratch (length templates_before) (length page_before)) a
    where
      on : (x : Outcome) → Answered x templates_before page_before n tb pb ts templates_after page_after → (tb ≡ 0) × (pb ≡ 0) × (ts ≡ 0) × (templates_after ≡ zeros templates_before) × (page_after ≡ zeros page_before)
      on (refused r) b = (b.templates_bytes_is, b.page_bytes_is, b.templates_is, b.templates_out_is, b.page_out_is)
      on (accepted w) b = absurd (z b.number_is)
