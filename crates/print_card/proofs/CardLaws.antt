-- What is printed of the export's answer: of a refusal the number; of an accepted page both outputs as they stand in the buffers, and that
-- text is short. Main statements: `refused_printed`, `outs_stand`; `answer_printed`, `card_is`, `prints_answer`. Assumes nothing.
use Prim.Native.Nat.{ℕ, ◌+◌, ◌^◌, ◌≤◌, ◌<◌}
use native.Mathlib.Omega.{arith}
use mathlib.Core.Path.{◌≡◌, refl, sym, ap, ap₂, ◌∙◌, subst}
use mathlib.Core.Bool.{Bool, true, false}
use mathlib.Core.List.{[], ◌∷◌, ◌++◌}
use lib.Dec.{eqb}
use lib.ListN.{length, take, drop, get_or}
use lib.Seq.{take_at, length-take-le}
use borrow.Author.Tests.{eqb-true, eqb-false}
use Rattle.field.specs.Bytes.{Bytes, AllBytes, pick}
use Rattle.field.specs.Row.{read}
use Rattle.field.specs.Put.{put, Wrote}
use Rattle.field.proofs.NumberLaws.{all_from, all_take}
use Rattle.field.proofs.PutLaws.{length_put, put_fits, wrote_is}
use Rattle.text.specs.Decimal.{decimal}
use Rattle.page.specs.Tree.{page_in, works_sums, options_in}
use Rattle.page.specs.Check.{check_page}
use Rattle.page.specs.Encode.{encode}
use Rattle.refusal.specs.Refusal.{Fine}
use Rattle.page.proofs.Exact.{read_exactly}
use Rattle.worked.proofs.Encoded.{accepted_worked}
use Rattle.worked.proofs.Exact.{worked_bound}
use Rattle.spec.specs.Answer.{Written, Outcome, refused, accepted, worked_if, page_given, outcome, number, bytes_of_templates, bytes_of_page, templates_left, page_left}
use Rattle.spec.proofs.Answers.{accepted_says, accepted_fits}
use Rattle.spec.proofs.Growth.{page_growth}
use Rattle.spec.proofs.Export.{zero_written}
use Rattle.transform.specs.declared.Answer.{Answer}
use Rattle.transform.specs.Run.{Answers}
use Rattle.transform.proofs.PageLaws.{source_short}
use Rattle.printing.specs.Card.{page_text, card_text, answer_text, card}
use Rattle.printing.proofs.TextLength.{page_text_low}

-- ---- fronts

-- of n bytes, where there are as many
pub front_length : (n : ℕ) (s : Bytes) → n ≤ length s → n ≡ length (take n s)
front_length n s h = sym (length-take-le n s h)

-- what fits stands in front
pub front_put : (o w : Bytes) → length w ≤ length o → take (length w) (put o 0 w) ≡ w
front_put o w h = ap (take (length w)) (put_fits o 0 w (omega arith)) ∙ take_at w (drop (0 + length w) o) (length w) refl

-- ---- both outputs of an accepted page are less than 32 MiB long: at most 512 bytes for each byte of the page that is given, and the import

given_short : (page options : Bytes) → AllBytes page → check_page (read page) ≡ Fine → length page ≤ 32768 → length (encode (page_given page options)) ≤ 51492
unfolding page_given worked_if
given_short page options all fine short = on (works_sums (read options))
  where
    on : (b : Bool) → length (encode (worked_if b (page_in (read page)))) ≤ 51492
    on true = subst (λ (x : Bytes). length x ≤ 51492) (accepted_worked page all fine) (worked_bound page short)
    on false = omega (arith, ap length ((read_exactly page (page_in (read page)) all).0 (fine, refl)).0)

accepted_short : (page options : Bytes) (scratch tr pr : ℕ) (w : Written) → AllBytes page → outcome page options scratch tr pr ≡ accepted w →
    length w.templates_out + length w.page_out ≤ 2 ^ 25
unfolding options_in
accepted_short page options scratch tr pr w all e =
    let a = accepted_says page options scratch tr pr w e in
    let i = a.inputs in
    subst (λ (v : Written). length v.templates_out + length v.page_out ≤ 2 ^ 25) a.written_is
    (omega (arith, page_growth (options_in (read options)) (page_given page options), given_short page options all i.page_fine i.page_short, source_short options i.options_short))

-- ---- a refusal: its number on a line

refused_text : (x : Outcome) {n : ℕ} → n ≡ number x → (n ≡ 0 → ⊥) → decimal n ++ (10 ∷ []) ≡ card_text x
unfolding number card_text
refused_text (refused r) e z = ap (λ (n : ℕ). decimal n ++ (10 ∷ [])) e
refused_text (accepted w) e z = absurd (z e)

-- ---- by the answer and the buffers behind the call

module _ (page options scratch t g : Bytes) {a : Answer} {s' t' g' : Bytes}
    (x : Answers (outcome page options (length scratch) (length t) (length g)) scratch t g a s' t' g') where
  abbrev what : Outcome
  what = outcome page options (length scratch) (length t) (length g)

  pub refused_printed : (a.number ≡ 0 → ⊥) → {o o₁ : Bytes} {n : ℕ} → Wrote o 0 (decimal a.number ++ (10 ∷ [])) o₁ n → Wrote o 0 (card_text what) o₁ n
  refused_printed z u = wrote_is (refused_text what x.number_is z) u

  -- accepted: what is written stands at the front of both outs
  outs_text : a.number ≡ 0 → page_text (read (take a.templates_bytes t')) (read (take a.page_bytes g')) ≡ card_text what
  unfolding bytes_of_templates bytes_of_page templates_left page_left card_text
  outs_text z =
      let k = zero_written what (sym x.number_is ∙ z) in
      let w : Written = k.0 in
      let b : Answers (accepted w) scratch t g a s' t' g' = subst (λ (y : Outcome). Answers y scratch t g a s' t' g') k.1 x in
      let f = accepted_fits page options (length scratch) (length t) (length g) w (accepted_says page options (length scratch) (length t) (length g) w k.1) in
      let et : take a.templates_bytes t' ≡ w.templates_out = ap₂ take b.templates_bytes_is b.templates_out_is ∙ front_put t w.templates_out f.0 in
      let eg : take a.page_bytes g' ≡ w.page_out = ap₂ take b.page_bytes_is b.page_out_is ∙ front_put g w.page_out f.1 in
      ap₂ (λ (u v : Bytes). page_text (read u) (read v)) et eg ∙ sym (ap card_text k.1)

  -- what is printed is the text of the export's own answer and of the bytes that it left
  pub answer_printed : answer_text a.number a.templates_bytes a.page_bytes t' g' ≡ card_text what
  unfolding answer_text
  answer_printed = on (eqb a.number 0) refl
    where
      on : (z : Bool) → eqb a.number 0 ≡ z → pick z (page_text (read (take a.templates_bytes t')) (read (take a.page_bytes g'))) (decimal a.number ++ (10 ∷ [])) ≡ card_text what
      on true e = outs_text (eqb-true a.number 0 e)
      on false e = refused_text what x.number_is (eqb-false a.number 0 e)

  -- so `print_card`, whose contract is the premise, writes the text of that answer
  pub prints_answer : {o o' : Bytes} {r : ℕ} → Wrote o 0 (card_text what) o' r → Wrote o 0 (answer_text a.number a.templates_bytes a.page_bytes t' g') o' r
  prints_answer u = wrote_is (sym answer_printed) u

  -- accepted: what is written lies within both outs, and its text is as short as `print_page` requires
  pub record Stand : Type 0 where
    pub templates_within : a.templates_bytes ≤ length t'
    pub page_within : a.page_bytes ≤ length g'
    pub text_is : page_text (read (take a.templates_bytes t')) (read (take a.page_bytes g')) ≡ card_text what
    pub text_low : 0 + length (page_text (read (take a.templates_bytes t')) (read (take a.page_bytes g'))) < 2 ^ 63

  pub outs_stand : ((i : ℕ) → get_or page i 0 < 256) → ((i : ℕ) → get_or t' i 0 < 256) → ((i : ℕ) → get_or g' i 0 < 256) → a.number ≡ 0 → Stand
  unfolding bytes_of_templates bytes_of_page templates_left page_left card_text
  outs_stand page_byte t_byte g_byte z =
      let k = zero_written what (sym x.number_is ∙ z) in
      let w : Written = k.0 in
      let b : Answers (accepted w) scratch t g a s' t' g' = subst (λ (y : Outcome). Answers y scratch t g a s' t' g') k.1 x in
      let f = accepted_fits page options (length scratch) (length t) (length g) w (accepted_says page options (length scratch) (length t) (length g) w k.1) in
      let s = accepted_short page options (length scratch) (length t) (length g) w (all_from page page_byte) k.1 in
      let et : take a.templates_bytes t' ≡ w.templates_out = ap₂ take b.templates_bytes_is b.templates_out_is ∙ front_put t w.templates_out f.0 in
      let eg : take a.page_bytes g' ≡ w.page_out = ap₂ take b.page_bytes_is b.page_out_is ∙ front_put g w.page_out f.1 in
      let lt : length t' ≡ length t = ap length b.templates_out_is ∙ length_put t 0 w.templates_out in
      let lg : length g' ≡ length g = ap length b.page_out_is ∙ length_put g 0 w.page_out in
      let at = all_take a.templates_bytes t' (all_from t' t_byte) in
      let ag = all_take a.page_bytes g' (all_from g' g_byte) in
      let low = page_text_low (take a.templates_bytes t') (take a.page_bytes g') at ag (omega (arith, ap length et, s)) (omega (arith, ap length eg, s)) in
      record {
        templates_within = omega (arith, b.templates_bytes_is, f.0);
        page_within = omega (arith, b.page_bytes_is, f.1);
        text_is = outs_text z;
        text_low = omega arith;
      }

-- 01's card of a page is the text of the export's answer to it, without options and in buffers as long as the program's
pub card_is : (page scratch t g : Bytes) {a : Answer} {s' t' g' : Bytes} → Answers (outcome page [] (length scratch) (length t) (length g)) scratch t g a s' t' g' →
    length scratch ≡ 65536 → length t ≡ 65536 → length g ≡ 65536 → answer_text a.number a.templates_bytes a.page_bytes t' g' ≡ card page
unfolding card
card_is page scratch t g x es et eg = answer_printed page [] scratch t g x ∙ rw (es, et, eg)
