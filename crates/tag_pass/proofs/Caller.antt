-- What a caller of the reader knows from its answer and its buffer alone (document 02, A3). Main statements: `answers_exactly`,
-- `answers_0_exactly`, `one_tree`, `answers_14_exactly`, `answers_15_exactly`, `answers_bytes`, `answers_zeros`, `page_within`, `answer_stands`.
-- Assumes nothing.
use Prim.Native.Nat.{ℕ, ◌+◌, ◌≤◌}
use native.Mathlib.Nat.{zero-add}
use native.Mathlib.Omega.{arith}
use mathlib.Core.Path.{◌≡◌, refl, sym, ap, ap₂, ◌∙◌, subst}
use mathlib.Core.Bool.{Bool, true, false, not}
use mathlib.Core.List.{[]}
use mathlib.Core.Logic.{◌↔◌}
use lib.Dec.{T, leb, eqb, leb→le, le→leb}
use lib.ListN.{length, take, drop, replicate}
use lib.Seq.{take_at, drop_at}
use Rattle.field.specs.Bytes.{Bytes, AllBytes}
use Rattle.field.specs.Row.{end, field, field_bytes, long_body, read}
use Rattle.field.specs.Put.{put}
use Rattle.field.proofs.PutLaws.{put_fits}
use Rattle.read_tag.proofs.ProgressLaws as L
use Rattle.utf8.specs.Utf8.{utf8}
use Rattle.page.specs.Page as P
use Rattle.page.specs.Tree.{page_in}
use Rattle.page.specs.Check.{check_page}
use Rattle.page.specs.Encode.{encode, tag_row, pieces_row, module_items_row, page_row}
use Rattle.page.specs.Limits.{TagOk, ModuleItemsOk, WithinLimits}
use Rattle.refusal.specs.Refusal.{Fine}
use Rattle.page.proofs.Exact.{page_read}
use Rattle.grammar.specs.Signs.{choose}
use Rattle.grammar.specs.Syntax.{Tag, matched}
use Rattle.grammar.specs.Grammar.{ReadsAs, Reads}
use Rattle.grammar.proofs.Exact.{unique}
use Rattle.tag_tree.specs.PageTag.{page_tag}
use Rattle.tag_tree.specs.TagAnswer as TA
use Rattle.tag_tree.specs.TagAnswer.{TagRefusal, tag_refusal_number, TagOutcome, tag_refused, tag_accepted, numbers_in_range, shallow, tag_field, tag_encode, IsAnswered, is_long, is_no_utf8, has_no_reading, has_other_names, has_number_over, is_deep, has_long_body, has_no_room, is_read, tag_outcome, tag_number, tag_left}
use Rattle.tag_tree.proofs.TagExact.{answered_exactly, accepted_ok, tag_page}
use Rattle.tag_pass.specs.Answers.{TagAnswers}
use Rattle.tag_pass.specs.declared.answer.TagAnswer.{TagAnswer}

-- ---- numbers tell refusals apart

-- a refusal by its number
refusal_of : ℕ → TagRefusal
refusal_of k =
    choose (eqb k 2) TA.input_too_long
    (choose (eqb k 6) TA.not_utf8
    (choose (eqb k 14) TA.no_reading
    (choose (eqb k 15) TA.names_differ (choose (eqb k 7) TA.number_too_large (choose (eqb k 8) TA.too_deep (choose (eqb k 11) TA.output_too_long TA.tag_too_small))))))

by_number : (q : TagRefusal) → refusal_of (tag_refusal_number q) ≡ q
unfolding refusal_of tag_refusal_number choose
by_number TA.input_too_long = refl
by_number TA.not_utf8 = refl
by_number TA.no_reading = refl
by_number TA.names_differ = refl
by_number TA.number_too_large = refl
by_number TA.too_deep = refl
by_number TA.output_too_long = refl
by_number TA.tag_too_small = refl

never_zero : (q : TagRefusal) → tag_refusal_number q ≡ 0 → ⊥
unfolding tag_refusal_number
never_zero TA.input_too_long e = omega arith
never_zero TA.not_utf8 e = omega arith
never_zero TA.no_reading e = omega arith
never_zero TA.names_differ e = omega arith
never_zero TA.number_too_large e = omega arith
never_zero TA.too_deep e = omega arith
never_zero TA.output_too_long e = omega arith
never_zero TA.tag_too_small e = omega arith

refused_by : (o : TagOutcome) (q : TagRefusal) → tag_number o ≡ tag_refusal_number q → o ≡ tag_refused q
unfolding tag_number
refused_by (tag_refused n) q e = ap tag_refused (sym (by_number n) ∙ ap refusal_of e ∙ by_number q)
refused_by (tag_accepted t) q e = absurd (never_zero q (sym e))

accepted_by : (o : TagOutcome) → tag_number o ≡ 0 → (t : P.Tag) × (o ≡ tag_accepted t)
unfolding tag_number
accepted_by (tag_refused n) e = absurd (never_zero n e)
accepted_by (tag_accepted t) e = (t, refl)

refused_as : (o : TagOutcome) → (tag_number o ≡ 0 → ⊥) → (q : TagRefusal) × (o ≡ tag_refused q)
unfolding tag_number
refused_as (tag_refused n) z = (n, refl)
refused_as (tag_accepted t) z = absurd (z refl)

-- ---- what is accepted: a tag of the language, within every limit

pub record Within (text : Bytes) (room : ℕ) (t : Tag) : Type 0 where
  pub short : T (leb (length text) 32768)
  pub letters : T (utf8 text)
  pub reads : Reads text t
  pub in_range : T (numbers_in_range t)
  pub not_deep : T (shallow 3 (tag_field (page_tag t)))
  pub bodies_fit : T (not (long_body (tag_field (page_tag t))))
  pub fits : T (leb (length (tag_encode (page_tag t))) room)

record WithinAs (text : Bytes) (room : ℕ) (x : P.Tag) : Type 0 where
  tag_read : Tag
  is : x ≡ page_tag tag_read
  within : Within text room tag_read

-- ---- 14 and 15 in words

-- no reading, even with closing names not compared
pub record Unread (text : Bytes) : Type 0 where
  pub short : T (leb (length text) 32768)
  pub letters : T (utf8 text)
  pub none : (t : Tag) → ReadsAs text t → ⊥

-- a reading, but only with closing names not compared
pub record Misnamed (text : Bytes) : Type 0 where
  pub short : T (leb (length text) 32768)
  pub letters : T (utf8 text)
  pub tag_read : Tag
  pub reads_as : ReadsAs text tag_read
  pub none : (t : Tag) → Reads text t → ⊥

no_other : (b : Bool) {A : Type 0} → T b → T (not b) → A
no_other true t n = absurd n
no_other false t n = absurd t

misnamed : (text : Bytes) (t : Tag) → T (leb (length text) 32768) → T (utf8 text) → ReadsAs text t → T (not (matched t)) → Misnamed text
misnamed text t l u r n =
    record { short = l; letters = u; tag_read = t; reads_as = r; none = λ v s. no_other (matched v) s.1 (subst (λ (z : Tag). T (not (matched z))) (unique text t v r s.0) n) }

not_matched : (text : Bytes) (t : Tag) → ReadsAs text t → ((t : Tag) → Reads text t → ⊥) → T (not (matched t))
not_matched text t r none = on (matched t) refl
  where
    on : (b : Bool) → matched t ≡ b → T (not b)
    on true e = none t (r, subst T (sym e) tt)
    on false e = tt

-- ---- an answer in the grammar's words, by its case

Means : Bytes → ℕ → TagOutcome → Type 0
Means text room (tag_refused TA.no_reading) = Unread text
Means text room (tag_refused TA.names_differ) = Misnamed text
Means text room (tag_refused TA.input_too_long) = Unit {0}
Means text room (tag_refused TA.not_utf8) = Unit {0}
Means text room (tag_refused TA.number_too_large) = Unit {0}
Means text room (tag_refused TA.too_deep) = Unit {0}
Means text room (tag_refused TA.output_too_long) = Unit {0}
Means text room (tag_refused TA.tag_too_small) = Unit {0}
Means text room (tag_accepted x) = WithinAs text room x

meant : (text : Bytes) (room : ℕ) (o : TagOutcome) → IsAnswered text room o → Means text room o
unfolding Means
meant text room o (is_long n) = tt
meant text room o (is_no_utf8 l n) = tt
meant text room o (has_no_reading l u n) = record { short = l; letters = u; none = n }
meant text room o (has_other_names {t} l u r n) = misnamed text t l u r n
meant text room o (has_number_over l u r n) = tt
meant text room o (is_deep l u r a n) = tt
meant text room o (has_long_body l u r a b n) = tt
meant text room o (has_no_room l u r a b c n) = tt
meant text room o (is_read {t} l u r a b c d) =
    record { tag_read = t; is = refl; within = record { short = l; letters = u; reads = r; in_range = a; not_deep = b; bodies_fit = c; fits = d } }

within_accepted : (text : Bytes) (room : ℕ) (t : Tag) → Within text room t → tag_outcome text room ≡ tag_accepted (page_tag t)
within_accepted text room t w =
    (answered_exactly text room (tag_accepted (page_tag t))).1 (is_read w.short w.letters w.reads w.in_range w.not_deep w.bodies_fit w.fits)

-- ---- the page of one statement that holds the field

abbrev pub page_of_field : Bytes → Bytes
page_of_field w = field_bytes 0x01 (field_bytes 0x12 w)

page_is : (t : P.Tag) → encode (tag_page t) ≡ page_of_field (tag_encode t)
unfolding encode page_row module_items_row pieces_row tag_encode tag_field
page_is t = L.field_alone 0x01 (field 0x12 [] (tag_row t end) end) ∙ ap (field_bytes 0x01) (L.field_alone 0x12 (tag_row t end))

-- ---- from the answer and the buffer, by the contract of `jsx_precompile_read_tag`

put_front : (o w : Bytes) → length w ≤ length o → take (length w) (put o 0 w) ≡ w
put_front o w h = ap (take (length w)) (put_fits o 0 w (omega arith)) ∙ take_at w (drop (0 + length w) o) (length w) refl

put_rest : (o w : Bytes) → length w ≤ length o → drop (length w) (put o 0 w) ≡ drop (length w) o
put_rest o w h =
    ap (drop (length w)) (put_fits o 0 w (omega arith)) ∙ drop_at w (drop (0 + length w) o) (length w) refl ∙ ap (λ (k : ℕ). drop k o) (zero-add (length w))

module _ (text out : Bytes) (a : TagAnswer) (out' : Bytes) (x : TagAnswers text out a out') where
  -- each number other than 0 exactly where its refusal is due, and so never two
  pub answers_exactly : (q : TagRefusal) → (a.number ≡ tag_refusal_number q) ↔ IsAnswered text (length out) (tag_refused q)
  unfolding tag_number
  answers_exactly q = (
    λ e. (answered_exactly text (length out) (tag_refused q)).0 (refused_by (tag_outcome text (length out)) q (sym x.number_is ∙ e)),
    λ i. x.number_is ∙ ap tag_number ((answered_exactly text (length out) (tag_refused q)).1 i),
  )

  -- 14: no reading, even with closing names not compared
  pub answers_14_exactly : (a.number ≡ 14) ↔ Unread text
  unfolding tag_refusal_number Means
  answers_14_exactly = (
    λ e. meant text (length out) (tag_refused TA.no_reading) ((answers_exactly TA.no_reading).0 e),
    λ u. (answers_exactly TA.no_reading).1 (has_no_reading u.short u.letters u.none),
  )

  -- 15: a reading, but only so
  pub answers_15_exactly : (a.number ≡ 15) ↔ Misnamed text
  unfolding tag_refusal_number Means
  answers_15_exactly = (
    λ e. meant text (length out) (tag_refused TA.names_differ) ((answers_exactly TA.names_differ).0 e),
    λ u. (answers_exactly TA.names_differ).1 (has_other_names u.short u.letters u.reads_as (not_matched text u.tag_read u.reads_as u.none)),
  )

  accepted_as : a.number ≡ 0 → (t : P.Tag) × (tag_outcome text (length out) ≡ tag_accepted t)
  accepted_as z = accepted_by (tag_outcome text (length out)) (sym x.number_is ∙ z)

  within_of : a.number ≡ 0 → (t : Tag) × Within text (length out) t
  unfolding Means
  within_of z =
      let k = accepted_as z in
      let w : WithinAs text (length out) k.0 = meant text (length out) (tag_accepted k.0) ((answered_exactly text (length out) (tag_accepted k.0)).0 k.1) in
      (w.tag_read, w.within)

  -- 0: exactly the texts of the language, within the limits
  pub answers_0_exactly : (a.number ≡ 0) ↔ ((t : Tag) × Within text (length out) t)
  unfolding tag_number
  answers_0_exactly = (within_of, λ w. x.number_is ∙ ap tag_number (within_accepted text (length out) w.0 w.1))

  -- in one way only
  pub one_tree : (t u : Tag) → Within text (length out) t → Within text (length out) u → t ≡ u
  one_tree t u v w = unique text t u v.reads.0 w.reads.0

  -- what is written, in front of a buffer whose other bytes stay, is the encoding of that tree
  pub answers_bytes : (t : Tag) → Within text (length out) t →
      (a.tag_bytes ≡ length (tag_encode (page_tag t))) × (take a.tag_bytes out' ≡ tag_encode (page_tag t)) × (drop a.tag_bytes out' ≡ drop a.tag_bytes out)
  unfolding TA.bytes_of_tag tag_left
  answers_bytes t w =
      let e = within_accepted text (length out) t w in
      let b : Bytes = tag_encode (page_tag t) in
      let n : a.tag_bytes ≡ length b = x.bytes_is ∙ ap TA.bytes_of_tag e in
      let o : out' ≡ put out 0 b = x.out_is ∙ ap (λ (z : TagOutcome). tag_left z out) e in
      let f : length b ≤ length out = leb→le (length b) (length out) w.fits in (
        n,
        ap₂ take n o ∙ put_front out b f,
        ap₂ drop n o ∙ put_rest out b f ∙ ap (λ (k : ℕ). drop k out) (sym n),
      )

  -- any other number: zeros
  pub answers_zeros : (a.number ≡ 0 → ⊥) → (a.tag_bytes ≡ 0) × (out' ≡ replicate (length out) 0)
  unfolding TA.bytes_of_tag tag_left
  answers_zeros z =
      let k = refused_as (tag_outcome text (length out)) (λ e. z (x.number_is ∙ e)) in
      (x.bytes_is ∙ ap TA.bytes_of_tag k.1, x.out_is ∙ ap (λ (y : TagOutcome). tag_left y out) k.1)

  -- the page of one statement that is the field as it stands in the buffer is that of the tree
  pub page_written : (t : Tag) → Within text (length out) t → encode (tag_page (page_tag t)) ≡ page_of_field (take a.tag_bytes out')
  page_written t w = page_is (page_tag t) ∙ ap page_of_field (sym (answers_bytes t w).1)

  -- it is within the limits of pages, where it has at most 32,768 bytes
  pub page_within : (t : Tag) → Within text (length out) t → length (page_of_field (take a.tag_bytes out')) ≤ 32768 → WithinLimits (tag_page (page_tag t))
  unfolding WithinLimits ModuleItemsOk TagOk
  page_within t w l =
      let s : length (encode (tag_page (page_tag t))) ≤ 32768 = omega (arith, ap length (page_written t w)) in
      (((accepted_ok text (length out) (page_tag t) (within_accepted text (length out) t w), tt), tt), le→leb (length (encode (tag_page (page_tag t)))) 32768 s)

  -- so it has none of 3 to 8, and is read back as that tree
  pub answer_stands : (t : Tag) → Within text (length out) t → length (page_of_field (take a.tag_bytes out')) ≤ 32768 →
      (check_page (read (page_of_field (take a.tag_bytes out'))) ≡ Fine) × (page_in (read (page_of_field (take a.tag_bytes out'))) ≡ tag_page (page_tag t)) × AllBytes (page_of_field (take a.tag_bytes out'))
  answer_stands t w l =
      subst (λ (p : Bytes). (check_page (read p) ≡ Fine) × (page_in (read p) ≡ tag_page (page_tag t)) × AllBytes p) (page_written t w) (page_read (tag_page (page_tag t)) (page_within t w l))
