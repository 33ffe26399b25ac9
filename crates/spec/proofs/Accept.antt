-- Acceptance: whatever options are taken, a page within the limits gets none of 1 to 9, without a 31 never 10, and is accepted where no
-- serialized element repeats an attribute or is void only in small letters, nothing is too long and the outs are long enough; 10 is given
-- exactly where a 30 or 31 would stand in the result, 16 and 19 exactly where none would and such an element stands in the page given; and
-- nothing but pages is accepted. No transform that turns pages away meets this.
-- Main statements: `answer_late`, `never_early`, `never_tag_left`, `tag_left_due`, `tag_left_stands`, `repeated_due`, `repeated_found`,
-- `mixed_due`, `mixed_found`, `acceptance`, `accepted_is_page`. Assumes nothing.
use Prim.Native.Nat.{ℕ, ◌≤◌}
use mathlib.Core.Path.{◌≡◌, refl, sym, ap, ◌∙◌, subst}
use mathlib.Core.Bool.{Bool, true, false, ◌||◌, not}
use native.Mathlib.Omega.{arith}
use lib.Dec.{T, leb, leb→le, nleb→lt}
use lib.ListN.{length}
use Rattle.std.proofs.lemmas.Bool.{or_from}
use Rattle.field.specs.Bytes.{Bytes, AllBytes}
use Rattle.field.specs.Row.{Row, read, bytes}
use Rattle.page.specs.Page.{Options, Page}
use Rattle.page.specs.Tree.{page_in, works_sums, options_in}
use Rattle.page.specs.Check.{check_options}
use Rattle.page.specs.Encode.{encode, encode_options}
use Rattle.page.specs.Limits.{WithinLimits, OptionsOk}
use Rattle.refusal.specs.Refusal.{Verdict, Fine, refusal_number, unless, after}
use Rattle.refusal.specs.declared.Refusal.{Refusal}
use Rattle.refusal.specs.declared.Refusal.TheVariants as R
use Rattle.page.specs.Given.{Given, given_row, GivenOk}
use Rattle.page.proofs.Exact.{page_read, options_read, within_exactly, options_exactly}
use Rattle.spec.specs.Pass.{Done}
use Rattle.spec.specs.Transform.{stands, page_out_row, transform}
use Rattle.spec.specs.Answer.{Written, Outcome, refused, accepted, check_outputs, decided, transformed, worked_if, page_given, outcome}
use Rattle.spec.specs.Acceptance.{has_fragment}
use Rattle.spec.specs.Kept.{Repeated, Mixed}
use Rattle.spec.specs.Late.{written, templates_need, page_need, over_long, Unmarked, Late, tag_left, repeated, mixed, too_long, templates_small, page_small, taken}
use Rattle.spec.proofs.Ledger.{never}
use Rattle.spec.proofs.Weight.{page_weight}
use Rattle.spec.proofs.Closure.{Visited}
use Rattle.spec.proofs.PageOut.{page_stands}
use Rattle.spec.proofs.PageGood.{page_good}
use Rattle.spec.proofs.TagLeft.{left_stands}
use Rattle.spec.proofs.Flagged.{repeated_exactly, mixed_exactly}
use Rattle.spec.proofs.Answers.{Inputs, fine_inputs, accepted_says}
use Rattle.spec.proofs.Given.{given_ok, given_fragment}

-- ---- what is transformed gets one of the late answers

-- a test's outcome, with what it says
data Tested (b : Bool) : Bool → Type 0 where
  holds : T b → Tested b true
  fails : T (not b) → Tested b false

tested : (b : Bool) → Tested b b
tested true = holds tt
tested false = fails tt

late_by : (tr pr : ℕ) (o : Options) (d : Done Row) (l r m g t p : Bool) → Tested d.flags.left l → Tested d.flags.repeated r → Tested d.flags.mixed m → Tested (over_long o d) g → Tested (leb (templates_need d) tr) t → Tested (leb (page_need o d) pr) p →
    Late tr pr o d
    (decided
    (after (unless (not l) R.TagLeft) λ _.
    after (unless (not r) R.RepeatedAttribute) λ _.
    after (unless (not m) R.MixedCaseVoid) λ _.
    after (unless (not g) R.OutputTooLong) λ _.
    after (unless t R.TemplatesTooSmall) λ _. unless p R.PageTooSmall)
    λ _. accepted (written o d))
unfolding decided after
late_by tr pr o d true r m g t p (holds hl) hr hm hg ht hp = tag_left hl
late_by tr pr o d false true m g t p (fails hl) (holds hr) hm hg ht hp = repeated hl hr
late_by tr pr o d false false true g t p (fails hl) (fails hr) (holds hm) hg ht hp = mixed hl hr hm
late_by tr pr o d false false false true t p (fails hl) (fails hr) (fails hm) (holds hg) ht hp = too_long (record { not_left = hl; not_repeated = hr; not_mixed = hm }) hg
late_by tr pr o d false false false false false p (fails hl) (fails hr) (fails hm) (fails hg) (fails ht) hp = templates_small (record { not_left = hl; not_repeated = hr; not_mixed = hm }) hg (nleb→lt (templates_need d) tr ht)
late_by tr pr o d false false false false true false (fails hl) (fails hr) (fails hm) (fails hg) (holds ht) (fails hp) = page_small (record { not_left = hl; not_repeated = hr; not_mixed = hm }) hg (leb→le (templates_need d) tr ht) (nleb→lt (page_need o d) pr hp)
late_by tr pr o d false false false false true true (fails hl) (fails hr) (fails hm) (fails hg) (holds ht) (holds hp) = taken (record { not_left = hl; not_repeated = hr; not_mixed = hm }) hg (leb→le (templates_need d) tr ht) (leb→le (page_need o d) pr hp)

pub transformed_late : (tr pr : ℕ) (o : Options) (d : Done Row) → Late tr pr o d (transformed tr pr o d)
unfolding transformed check_outputs
transformed_late tr pr o d =
    late_by tr pr o d d.flags.left d.flags.repeated d.flags.mixed (over_long o d) (leb (templates_need d) tr) (leb (page_need o d) pr)
    (tested d.flags.left) (tested d.flags.repeated) (tested d.flags.mixed) (tested (over_long o d)) (tested (leb (templates_need d) tr)) (tested (leb (page_need o d) pr))

-- ---- what a late answer says

refusal_is : (m n : Refusal) → refused m ≡ refused n → m ≡ n
refusal_is m n e = cc

-- a flag that cannot be up is down
not_up : (b : Bool) → (T b → ⊥) → T (not b)
not_up true h = h tt
not_up false h = tt

not_accepted : {C : Type 0} (n : Refusal) (w : Written) → accepted w ≡ refused n → C
not_accepted n w e = absurd (let z : ◌≡◌ {A = ℕ} 0 1 = cc in omega arith)

module _ {tr pr : ℕ} {o : Options} {d : Done Row} where
  late_over_9 : {x : Outcome} → Late tr pr o d x → (n : Refusal) → x ≡ refused n → 10 ≤ refusal_number n
  unfolding refusal_number
  late_over_9 (tag_left l) n e = subst (λ (m : Refusal). 10 ≤ refusal_number m) (refusal_is R.TagLeft n e) (omega arith)
  late_over_9 (repeated l r) n e = subst (λ (m : Refusal). 10 ≤ refusal_number m) (refusal_is R.RepeatedAttribute n e) (omega arith)
  late_over_9 (mixed l r m) n e = subst (λ (m : Refusal). 10 ≤ refusal_number m) (refusal_is R.MixedCaseVoid n e) (omega arith)
  late_over_9 (too_long l g) n e = subst (λ (m : Refusal). 10 ≤ refusal_number m) (refusal_is R.OutputTooLong n e) (omega arith)
  late_over_9 (templates_small l g t) n e = subst (λ (m : Refusal). 10 ≤ refusal_number m) (refusal_is R.TemplatesTooSmall n e) (omega arith)
  late_over_9 (page_small l g t p) n e = subst (λ (m : Refusal). 10 ≤ refusal_number m) (refusal_is R.PageTooSmall n e) (omega arith)
  late_over_9 (taken l g t p) n e = not_accepted n (written o d) e

  -- 10 is given only where a tag is left
  late_tag_left : {x : Outcome} → Late tr pr o d x → x ≡ refused R.TagLeft → T d.flags.left
  late_tag_left (tag_left l) e = l
  late_tag_left (repeated l r) e = absurd (let z : ◌≡◌ {A = ℕ} 0 1 = cc in omega arith)
  late_tag_left (mixed l r m) e = absurd (let z : ◌≡◌ {A = ℕ} 0 1 = cc in omega arith)
  late_tag_left (too_long l g) e = absurd (let z : ◌≡◌ {A = ℕ} 0 1 = cc in omega arith)
  late_tag_left (templates_small l g t) e = absurd (let z : ◌≡◌ {A = ℕ} 0 1 = cc in omega arith)
  late_tag_left (page_small l g t p) e = absurd (let z : ◌≡◌ {A = ℕ} 0 1 = cc in omega arith)
  late_tag_left (taken l g t p) e = not_accepted R.TagLeft (written o d) e

  -- and it is given there
  late_left : {x : Outcome} → Late tr pr o d x → T d.flags.left → x ≡ refused R.TagLeft
  late_left (tag_left l) h = refl
  late_left (repeated l r) h = absurd (never d.flags.left l h)
  late_left (mixed l r m) h = absurd (never d.flags.left l h)
  late_left (too_long u g) h = absurd (never d.flags.left u.not_left h)
  late_left (templates_small u g t) h = absurd (never d.flags.left u.not_left h)
  late_left (page_small u g t p) h = absurd (never d.flags.left u.not_left h)
  late_left (taken u g t p) h = absurd (never d.flags.left u.not_left h)

  -- 16 is given exactly where no tag is left and a name is repeated
  late_repeated : {x : Outcome} → Late tr pr o d x → T (not d.flags.left) → T d.flags.repeated → x ≡ refused R.RepeatedAttribute
  late_repeated (tag_left l) hl hr = absurd (never d.flags.left hl l)
  late_repeated (repeated l r) hl hr = refl
  late_repeated (mixed l r m) hl hr = absurd (never d.flags.repeated r hr)
  late_repeated (too_long u g) hl hr = absurd (never d.flags.repeated u.not_repeated hr)
  late_repeated (templates_small u g t) hl hr = absurd (never d.flags.repeated u.not_repeated hr)
  late_repeated (page_small u g t p) hl hr = absurd (never d.flags.repeated u.not_repeated hr)
  late_repeated (taken u g t p) hl hr = absurd (never d.flags.repeated u.not_repeated hr)

  repeated_late : {x : Outcome} → Late tr pr o d x → x ≡ refused R.RepeatedAttribute → T (not d.flags.left) × T d.flags.repeated
  repeated_late (tag_left l) e = absurd (let z : ◌≡◌ {A = ℕ} 0 1 = cc in omega arith)
  repeated_late (repeated l r) e = (l, r)
  repeated_late (mixed l r m) e = absurd (let z : ◌≡◌ {A = ℕ} 0 1 = cc in omega arith)
  repeated_late (too_long u g) e = absurd (let z : ◌≡◌ {A = ℕ} 0 1 = cc in omega arith)
  repeated_late (templates_small u g t) e = absurd (let z : ◌≡◌ {A = ℕ} 0 1 = cc in omega arith)
  repeated_late (page_small u g t p) e = absurd (let z : ◌≡◌ {A = ℕ} 0 1 = cc in omega arith)
  repeated_late (taken u g t p) e = not_accepted R.RepeatedAttribute (written o d) e

  -- 19 exactly where neither is so and a name is void only in small letters
  late_mixed : {x : Outcome} → Late tr pr o d x → T (not d.flags.left) → T (not d.flags.repeated) → T d.flags.mixed → x ≡ refused R.MixedCaseVoid
  late_mixed (tag_left l) hl hr hm = absurd (never d.flags.left hl l)
  late_mixed (repeated l r) hl hr hm = absurd (never d.flags.repeated hr r)
  late_mixed (mixed l r m) hl hr hm = refl
  late_mixed (too_long u g) hl hr hm = absurd (never d.flags.mixed u.not_mixed hm)
  late_mixed (templates_small u g t) hl hr hm = absurd (never d.flags.mixed u.not_mixed hm)
  late_mixed (page_small u g t p) hl hr hm = absurd (never d.flags.mixed u.not_mixed hm)
  late_mixed (taken u g t p) hl hr hm = absurd (never d.flags.mixed u.not_mixed hm)

  mixed_late : {x : Outcome} → Late tr pr o d x → x ≡ refused R.MixedCaseVoid → T (not d.flags.left) × T (not d.flags.repeated) × T d.flags.mixed
  mixed_late (tag_left l) e = absurd (let z : ◌≡◌ {A = ℕ} 0 1 = cc in omega arith)
  mixed_late (repeated l r) e = absurd (let z : ◌≡◌ {A = ℕ} 0 1 = cc in omega arith)
  mixed_late (mixed l r m) e = (l, r, m)
  mixed_late (too_long u g) e = absurd (let z : ◌≡◌ {A = ℕ} 0 1 = cc in omega arith)
  mixed_late (templates_small u g t) e = absurd (let z : ◌≡◌ {A = ℕ} 0 1 = cc in omega arith)
  mixed_late (page_small u g t p) e = absurd (let z : ◌≡◌ {A = ℕ} 0 1 = cc in omega arith)
  mixed_late (taken u g t p) e = not_accepted R.MixedCaseVoid (written o d) e

  -- and nothing is left to refuse where none of 10 to 13, 16 and 19 has its cause
  late_taken : {x : Outcome} → Late tr pr o d x → Unmarked d.flags → T (not (over_long o d)) → templates_need d ≤ tr → page_need o d ≤ pr → x ≡ accepted (written o d)
  late_taken (tag_left l) hl hg ht hp = absurd (never d.flags.left hl.not_left l)
  late_taken (repeated l r) hl hg ht hp = absurd (never d.flags.repeated hl.not_repeated r)
  late_taken (mixed l r m) hl hg ht hp = absurd (never d.flags.mixed hl.not_mixed m)
  late_taken (too_long l g) hl hg ht hp = absurd (never (over_long o d) hg g)
  late_taken (templates_small l g t) hl hg ht hp = absurd (omega arith)
  late_taken (page_small l g t p) hl hg ht hp = absurd (omega arith)
  late_taken (taken l g t p) hl hg ht hp = refl

-- ---- a page within the limits, with any options that are taken, the empty ones among them

-- what of p is transformed (02, A12)
abbrev pub given : (options : Bytes) → Page → Page
given options p = worked_if (works_sums (read options)) p

module _ (p : Page) (h : WithinLimits p) (options : Bytes) (short : length options ≤ 4096) (fine : check_options (read options) ≡ Fine) (scratch : ℕ) (enough : 65536 ≤ scratch) (tr pr : ℕ) where
  abbrev listed : Options
  listed = options_in (read options)

  pub answer_late : Late tr pr (options_in (read options)) (transform (options_in (read options)) (given options p)) (outcome (encode p) options scratch tr pr)
  unfolding outcome page_given decided WithinLimits
  answer_late =
      let q = page_read p h in
      let i : Inputs (encode p) options scratch = record { scratch_enough = enough; page_short = leb→le (length (encode p)) 32768 h.1; options_short = short; options_fine = fine; page_fine = q.0 } in
      let e : outcome (encode p) options scratch tr pr ≡ transformed tr pr listed (transform listed (given options (page_in (read (encode p))))) = ap (λ (v : Verdict). decided v λ _. transformed tr pr listed (transform listed (given options (page_in (read (encode p)))))) (fine_inputs (encode p) options scratch i) in
      subst (λ (x : Outcome). Late tr pr listed (transform listed (given options p)) x) (sym (e ∙ ap (λ (y : Page). transformed tr pr listed (transform listed (given options y))) q.1)) (transformed_late tr pr listed (transform listed (given options p)))

  -- none of 1 to 8, and never 9
  pub never_early : (n : Refusal) → outcome (encode p) options scratch tr pr ≡ refused n → 10 ≤ refusal_number n
  never_early n e = late_over_9 answer_late n e

  no_tag : has_fragment p ≡ false → T (transform (options_in (read options)) (given options p)).flags.left → ⊥
  unfolding WithinLimits
  no_tag e = (page_good ⊥ listed (given options p) (given_ok (works_sums (read options)) p h.0) (λ t. subst T (given_fragment (works_sums (read options)) p ∙ e) t)).kept.fragments

  -- without a 31 never 10
  pub never_tag_left : has_fragment p ≡ false → outcome (encode p) options scratch tr pr ≡ refused R.TagLeft → ⊥
  never_tag_left n e = no_tag n (late_tag_left answer_late e)

  -- 10 is given exactly where a 30 or a 31 would stand in page out
  pub tag_left_due : T (stands 0x30 (page_out_row (options_in (read options)) (transform (options_in (read options)) (given options p))) || stands 0x31 (page_out_row (options_in (read options)) (transform (options_in (read options)) (given options p)))) →
      outcome (encode p) options scratch tr pr ≡ refused R.TagLeft
  unfolding WithinLimits
  tag_left_due s = late_left answer_late (on (transform listed (given options p)).flags.left good.no_element good.no_fragment)
    where
      good : Visited (Unit {0}) (page_weight (given options p)) (transform (options_in (read options)) (given options p))
      good = page_good (Unit {0}) listed (given options p) (given_ok (works_sums (read options)) p h.0) (λ t. tt)

      on : (b : Bool) → (T (not b) → stands 0x30 (transform (options_in (read options)) (given options p)).value ≡ false) → (T (not b) → stands 0x31 (transform (options_in (read options)) (given options p)).value ≡ false) → T b
      on true x y = tt
      on false x y =
          let e = page_stands 0x30 refl refl refl listed (transform listed (given options p)) ∙ x tt in
          let f = page_stands 0x31 refl refl refl listed (transform listed (given options p)) ∙ y tt in
          subst T (or_from (stands 0x30 (page_out_row listed (transform listed (given options p)))) (stands 0x31 (page_out_row listed (transform listed (given options p)))) e f) s

  pub tag_left_stands : outcome (encode p) options scratch tr pr ≡ refused R.TagLeft → T (stands 0x30 (page_out_row (options_in (read options)) (transform (options_in (read options)) (given options p))))
  tag_left_stands e = left_stands listed (given options p) (late_tag_left answer_late e)

  -- where no 30 would stand there, no tag is left; and the other way round
  none_left : T (not (stands 0x30 (page_out_row (options_in (read options)) (transform (options_in (read options)) (given options p))))) → T (not (transform (options_in (read options)) (given options p)).flags.left)
  none_left s = not_up (transform listed (given options p)).flags.left λ t. never (stands 0x30 (page_out_row listed (transform listed (given options p)))) s (left_stands listed (given options p) t)

  none_stands : T (not (transform (options_in (read options)) (given options p)).flags.left) → T (not (stands 0x30 (page_out_row (options_in (read options)) (transform (options_in (read options)) (given options p)))))
  unfolding WithinLimits
  none_stands l = subst (λ (b : Bool). T (not b)) (sym (page_stands 0x30 refl refl refl listed (transform listed (given options p)) ∙ (page_good (Unit {0}) listed (given options p) (given_ok (works_sums (read options)) p h.0) (λ t. tt)).no_element l)) tt

  -- 16 is given exactly where no tag is left and a serialized element repeats an attribute, 19 exactly where neither is so and one is void
  -- only in small letters
  pub repeated_due : T (not (stands 0x30 (page_out_row (options_in (read options)) (transform (options_in (read options)) (given options p))))) → Repeated (options_in (read options)) (given options p) → outcome (encode p) options scratch tr pr ≡ refused R.RepeatedAttribute
  repeated_due s r = let l = none_left s in late_repeated answer_late l ((repeated_exactly listed (given options p) l).1 r)

  pub repeated_found : outcome (encode p) options scratch tr pr ≡ refused R.RepeatedAttribute →
      T (not (stands 0x30 (page_out_row (options_in (read options)) (transform (options_in (read options)) (given options p))))) × Repeated (options_in (read options)) (given options p)
  repeated_found e = let k = repeated_late answer_late e in (none_stands k.0, (repeated_exactly listed (given options p) k.0).0 k.1)

  pub mixed_due : T (not (stands 0x30 (page_out_row (options_in (read options)) (transform (options_in (read options)) (given options p))))) → (Repeated (options_in (read options)) (given options p) → ⊥) → Mixed (options_in (read options)) (given options p) →
      outcome (encode p) options scratch tr pr ≡ refused R.MixedCaseVoid
  mixed_due s r m = let l = none_left s in late_mixed answer_late l (not_up (transform listed (given options p)).flags.repeated λ t. r ((repeated_exactly listed (given options p) l).0 t)) ((mixed_exactly listed (given options p) l).1 m)

  pub mixed_found : outcome (encode p) options scratch tr pr ≡ refused R.MixedCaseVoid →
      T (not (stands 0x30 (page_out_row (options_in (read options)) (transform (options_in (read options)) (given options p))))) × (Repeated (options_in (read options)) (given options p) → ⊥) × Mixed (options_in (read options)) (given options p)
  mixed_found e = let k = mixed_late answer_late e in (none_stands k.0, (λ r. never (transform listed (given options p)).flags.repeated k.1 ((repeated_exactly listed (given options p) k.0).1 r)), (mixed_exactly listed (given options p) k.0).0 k.2)

  -- no tag left, no name repeated or void only in small letters, nothing over 65,535, the outs long enough: accepted
  pub acceptance : has_fragment p ≡ false → (Repeated (options_in (read options)) (given options p) → ⊥) → (Mixed (options_in (read options)) (given options p) → ⊥) → T (not (over_long (options_in (read options)) (transform (options_in (read options)) (given options p)))) → templates_need (transform (options_in (read options)) (given options p)) ≤ tr → page_need (options_in (read options)) (transform (options_in (read options)) (given options p)) ≤ pr →
      outcome (encode p) options scratch tr pr ≡ accepted (written (options_in (read options)) (transform (options_in (read options)) (given options p)))
  acceptance b r m g t q =
      let l = not_up (transform listed (given options p)).flags.left (no_tag b) in
      late_taken answer_late (record { not_left = l; not_repeated = not_up (transform listed (given options p)).flags.repeated (λ k. r ((repeated_exactly listed (given options p) l).0 k)); not_mixed = not_up (transform listed (given options p)).flags.mixed (λ k. m ((mixed_exactly listed (given options p) l).0 k)) }) g t q

-- options of the tree, in their own bytes, are such options and are read back
pub options_taken : (o : Options) → OptionsOk o → (length (encode_options o) ≤ 4096) × (check_options (read (encode_options o)) ≡ Fine) × (options_in (read (encode_options o)) ≡ o) × (works_sums (read (encode_options o)) ≡ false)
unfolding OptionsOk
options_taken o k = let q = options_read o k in (leb→le (length (encode_options o)) 4096 k.4, q.0, q.1, q.2)

-- ---- and nothing else is accepted

-- a page's own bytes, and what is written is that page's
pub accepted_is_page : (page options : Bytes) (scratch tr pr : ℕ) (w : Written) → AllBytes page → outcome page options scratch tr pr ≡ accepted w →
    (p : Page) × (page ≡ encode p) × WithinLimits p × (written (options_in (read options)) (transform (options_in (read options)) (given options p)) ≡ w)
unfolding page_given
accepted_is_page page options scratch tr pr w a e =
    let s = accepted_says page options scratch tr pr w e in
    let q = (within_exactly page (page_in (read page)) a s.inputs.page_short).0 (s.inputs.page_fine, refl) in
    (page_in (read page), q.0, q.1, s.written_is)

-- options as they may be given: each of 02, 03, 04 and 05 or not
pub accepted_are_options : (page options : Bytes) (scratch tr pr : ℕ) (w : Written) → AllBytes options → outcome page options scratch tr pr ≡ accepted w →
    (g : Given) × (options ≡ bytes (given_row g)) × GivenOk g × (length options ≤ 4096)
accepted_are_options page options scratch tr pr w a e =
    let s = accepted_says page options scratch tr pr w e in
    let q = (options_exactly options a).0 s.inputs.options_fine in
    (q.0, q.1, q.2, s.inputs.options_short)
