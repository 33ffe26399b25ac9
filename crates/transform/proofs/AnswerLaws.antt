-- The whole answer: refused or accepted, by what the checks of inputs and outputs find. Main statements: `refused_inputs`, `refused_outputs`,
-- `accepted_outputs`, `later_one`. Assumes nothing.
use mathlib.Core.Path.{◌≡◌, refl, sym, ap, ap₂, ◌∙◌, subst}
use mathlib.Core.Bool.{Bool, true, false, not}
use Prim.Native.Nat.{ℕ, ◌+◌, ◌-◌, ◌≤◌}
use native.Mathlib.Omega.{arith}
use lib.Dec.{T, leb}
use lib.ListN.{length, replicate}
use borrow.Author.Tests.{not-true}
use Rattle.field.specs.Bytes.{Bytes}
use Rattle.field.specs.Row.{Row, read, bytes, long_body}
use Rattle.field.specs.Put.{put}
use Rattle.page.specs.Page.{Options}
use Rattle.page.specs.Tree.{options_in, source_in}
use Rattle.refusal.specs.Refusal.{Verdict, Fine, Refused, after, unless}
use Rattle.refusal.specs.declared.Refusal.{Refusal}
use Rattle.refusal.specs.declared.Refusal.TheVariants as R
use Rattle.spec.specs.Pass.{Done}
use Rattle.spec.specs.Transform.{transform, templates_row, page_out_row}
use Rattle.spec.specs.Answer.{Written, Outcome, refused, accepted, check_outputs, decided, transformed, check_inputs, page_given, outcome, number, bytes_of_templates, bytes_of_page, templates, zeros, templates_left, page_left, scratch_left}
use Rattle.spec.proofs.Answers.{inputs_fine, outputs_fine, short_outputs}
use Rattle.strings.specs.Recorded.{recorded}
use Rattle.strings.proofs.RecordedLaws.{recorded_fits}
use Rattle.walk.specs.declared.state.Walk.{Walk}
use Rattle.walk.specs.See.{World, at}
use Rattle.transform.specs.declared.Answer.{Answer}
use Rattle.strings.specs.declared.due.Due.{Due}
use Rattle.strings.specs.declared.due.Due.TheVariants as D
use Rattle.transform.specs.Run.{due_verdict, Answers, transformed_page, verdict_of}
use Rattle.transform.proofs.WrittenLaws.{verdict_is}
use Rattle.transform.proofs.PageLaws.{source_short}

-- ---- an answer to an outcome that is another's

module _ {x x' : Outcome} (e : x' ≡ x) {scratch templates_out page_out : Bytes} {a : Answer} {scratch' templates_out' page_out' : Bytes} where
  answers_is : Answers x scratch templates_out page_out a scratch' templates_out' page_out' → Answers x' scratch templates_out page_out a scratch' templates_out' page_out'
  answers_is w = subst (λ (y : Outcome). Answers y scratch templates_out page_out a scratch' templates_out' page_out') (sym e) w

-- ---- the inputs are refused

pub refused_inputs : (page options : Bytes) (n tr pr : ℕ) {v : Verdict} → v ≡ check_inputs page options n → {r : Refusal} → v ≡ Refused r →
    {scratch templates_out page_out : Bytes} {a : Answer} {scratch' templates_out' page_out' : Bytes} → Answers (refused r) scratch templates_out page_out a scratch' templates_out' page_out' →
    Answers (outcome page options n tr pr) scratch templates_out page_out a scratch' templates_out' page_out'
unfolding outcome decided
refused_inputs page options n tr pr {v} e {r} h w =
    let k : check_inputs page options n ≡ Refused r = sym e ∙ h in
    let d = transform (options_in (read options)) (page_given page options) in
    answers_is (ap (λ (u : Verdict). decided u λ _. transformed tr pr (options_in (read options)) d) k) w

-- ---- the outputs are refused by 9 to 13, which clear scratch

module _ (P : Refusal → Type 0) {r : Refusal} where
  after_one : (v : Verdict) (k : Unit {0} → Verdict) → ((q : Refusal) → v ≡ Refused q → P q) → (k tt ≡ Refused r → P r) → after v k ≡ Refused r → P r
  unfolding after
  after_one Fine k f g h = g h
  after_one (Refused n) k f g h = let e : n ≡ r = cc in subst P e (f n refl)

  unless_one : (b : Bool) (q : Refusal) → P q → unless b q ≡ Refused r → P r
  unless_one true q x h = absurd (let z : ◌≡◌ {A = ℕ} 0 1 = cc in omega arith)
  unless_one false q x h = let e : q ≡ r = cc in subst P e x

module _ (w : Walk) (tr pr : ℕ) (b : Bytes) where
  abbrev Cleared : Refusal → Type 0
  Cleared q = scratch_left (refused q) b ≡ zeros b

  -- one check that refuses by q
  checked : (c : Bool) (q : Refusal) → Cleared q → (n : Refusal) → unless c q ≡ Refused n → Cleared n
  checked c q x n h = unless_one Cleared c q x h

  due_cleared : (x : Due) (n : Refusal) → due_verdict x ≡ Refused n → Cleared n
  unfolding scratch_left
  due_cleared D.Nothing n h = absurd (let z : ◌≡◌ {A = ℕ} 0 1 = cc in omega arith)
  due_cleared D.Long n h = let e : R.OutputTooLong ≡ n = cc in subst Cleared e refl
  due_cleared D.Mixed n h = let e : R.MixedCaseVoid ≡ n = cc in subst Cleared e refl
  due_cleared D.Repeated n h = let e : R.RepeatedAttribute ≡ n = cc in subst Cleared e refl
  due_cleared D.Left n h = let e : R.TagLeft ≡ n = cc in subst Cleared e refl

  cleared : {r : Refusal} → verdict_of w tr pr ≡ Refused r → Cleared r
  unfolding scratch_left
  cleared {r} h =
      after_one Cleared _ _ (due_cleared w.seen.due)
      (after_one Cleared _ _ (checked (leb w.templates tr) R.TemplatesTooSmall refl) (unless_one Cleared (leb w.page pr) R.PageTooSmall refl))
      h

holds : (b : Bool) → T b → b ≡ true
holds true h = refl
holds false h = absurd h

-- zeros go by the length alone
zeros_same : (b b' : Bytes) → length b' ≡ length b → zeros b' ≡ zeros b
zeros_same b b' e = ap (λ (n : ℕ). replicate n 0) e

-- ---- the walk has written both outputs: w is the state behind it, v the verdict of that state

module _ (page options scratch t g : Bytes) (fine : check_inputs page options (length scratch) ≡ Fine) {t' g' : Bytes} {w : Walk}
    (is : at t' g' w ≡ transformed_page options (page_given page options) t g) where
  abbrev opts_of : Options
  opts_of = options_in (read options)

  abbrev result : Done Row
  result = transform opts_of (page_given page options)

  abbrev whole : Written
  whole = record { templates_out = bytes (templates_row result.templates); page_out = bytes (page_out_row opts_of result); templates = length result.templates }

  pub later_one : 1 ≤ w.later
  later_one = omega (arith, ap (λ (x : World). x.st.later) is)

  module _ (kt : length t' ≡ length t) (kg : length g' ≡ length g) {v : Verdict} (e : v ≡ verdict_of w (length t') (length g')) where
    state_verdict : v ≡ verdict_of w (length t) (length g)
    state_verdict = e ∙ ap₂ (verdict_of w) kt kg

    all_verdict : check_outputs (length t) (length g) result.flags (templates_row result.templates) (page_out_row opts_of result) ≡ v
    unfolding options_in
    all_verdict =
        let short : length (source_in (read options)) ≤ 65000 = omega (arith, source_short options (inputs_fine page options (length scratch) fine).options_short) in
        sym (verdict_is opts_of result t g (length t) (length g) short) ∙ ap (λ (x : World). verdict_of x.st (length t) (length g)) (sym is) ∙ sym state_verdict

    all_outcome : outcome page options (length scratch) (length t) (length g) ≡
        decided v λ _. accepted whole
    unfolding outcome decided transformed
    all_outcome =
        ap (λ (u : Verdict). decided u λ _. transformed (length t) (length g) opts_of result) fine
        ∙ ap (λ (u : Verdict). decided u λ _. accepted whole) all_verdict

    pub refused_outputs : {r : Refusal} → v ≡ Refused r → {scratch₁ : Bytes} → length scratch₁ ≡ length scratch → {a : Answer} {s'' t'' g'' : Bytes} → Answers (refused r) scratch₁ t' g' a s'' t'' g'' →
        Answers (outcome page options (length scratch) (length t) (length g)) scratch t g a s'' t'' g''
    unfolding decided templates_left page_left
    refused_outputs {r} h {scratch₁} ks {a} {s''} {t''} {g''} x =
        let q : verdict_of w (length t) (length g) ≡ Refused r = sym state_verdict ∙ h in
        let o : outcome page options (length scratch) (length t) (length g) ≡ refused r = all_outcome ∙ ap (λ (u : Verdict). decided u λ _. accepted whole) h in
        answers_is o
        (record {
          number_is = x.number_is;
          templates_bytes_is = x.templates_bytes_is;
          page_bytes_is = x.page_bytes_is;
          templates_is = x.templates_is;
          scratch_is = x.scratch_is ∙ cleared w (length t) (length g) scratch₁ q ∙ zeros_same scratch scratch₁ ks ∙ sym (cleared w (length t) (length g) scratch q);
          templates_out_is = x.templates_out_is ∙ zeros_same t t' kt;
          page_out_is = x.page_out_is ∙ zeros_same g g' kg;
        })

    -- where it is accepted nothing is too long and all of it fits: the templates stand as their records
    templates_stand : v ≡ Fine → recorded result.templates t 0 ≡ put t 0 (bytes (templates_row result.templates))
    templates_stand h =
        let ts = templates_row result.templates in
        let g' = page_out_row opts_of result in
        let x = outputs_fine (length t) (length g) result.flags ts g' (all_verdict ∙ h) in
        let n : long_body ts ≡ false = not-true (long_body ts) (holds (not (long_body ts)) (short_outputs result.flags ts g' x.short).0) in
        let f : 0 + length (bytes ts) ≤ length t = omega (arith, x.templates_fit) in
        recorded_fits result.templates t 0 f n

    pub accepted_outputs : v ≡ Fine → (scratch₁ : Bytes) → length scratch₁ ≡ length scratch → {s'' : Bytes} → s'' ≡ zeros scratch₁ →
        Answers (outcome page options (length scratch) (length t) (length g)) scratch t g (record { number = 0; templates_bytes = w.templates; page_bytes = w.page; templates = w.later - 1 }) s'' t' g'
    unfolding decided number bytes_of_templates bytes_of_page templates templates_left page_left scratch_left
    accepted_outputs h scratch₁ ks z =
        let o = all_outcome ∙ ap (λ (u : Verdict). decided u λ _. accepted whole) h in
        answers_is o
        (record {
          number_is = refl;
          templates_bytes_is = ap (λ (x : World). x.st.templates) is;
          page_bytes_is = ap (λ (x : World). x.st.page) is;
          templates_is = omega (arith, ap (λ (x : World). x.st.later) is);
          scratch_is = z ∙ zeros_same scratch scratch₁ ks;
          templates_out_is = ap (λ (x : World). x.templates) is ∙ templates_stand h;
          page_out_is = ap (λ (x : World). x.page) is;
        })
