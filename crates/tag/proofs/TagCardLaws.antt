-- What is printed of the reader's answer: of a refusal the number; a tag that is read stands in the out, and its page around it.
-- Main statements: `tag_refused_printed`, `tag_stands`, `tag_card_is`. Assumes nothing.
use Prim.Native.Nat.{ℕ, suc, ◌+◌, ◌-◌, ◌≤◌, ◌<◌}
use native.Mathlib.Omega.{arith}
use mathlib.Core.Path.{◌≡◌, refl, sym, ap, ap₂, ◌∙◌}
use mathlib.Core.List.{[], ◌∷◌, ◌++◌, append-nil}
use lib.Dec.{eqb, leb→le}
use mathlib.Core.Bool.{true, false}
use lib.ListN.{length, take, drop, get_or}
use lib.Seq.{drop-cons, drop-length}
use Rattle.std.proofs.Math.Bool.{and-true}
use denote.Ref.{Bor}
use Rattle.std.specs.Prelude.{nat_eq, Option, None, Some}
use Rattle.std.specs.Option.{MatchOption, unwrap_or}
use lib.Pointwise.{pointwise}
use Rattle.field.specs.Bytes.{Bytes}
use Rattle.field.specs.Row.{field_bytes, bytes}
use Rattle.field.specs.Put.{Wrote, head}
use Rattle.field.proofs.PutLaws.{length_put, wrote_is, wrote_length, wrote_field, length_field_bytes}
use Rattle.text.specs.Decimal.{decimal}
use Rattle.page.specs.Page as P
use Rattle.page.specs.Encode.{encode, page_row, module_items_row, tag_row}
use Rattle.tag_tree.specs.PageTag.{page_tag}
use Rattle.tag_tree.specs.TagAnswer.{TagRefusal, input_too_long, not_utf8, no_reading, names_differ, number_too_large, too_deep, output_too_long, tag_too_small, tag_refusal_number, TagOutcome, tag_refused, tag_accepted, tag_field, tag_encode, IsAnswered, is_long, is_no_utf8, has_no_reading, has_other_names, has_number_over, is_deep, has_long_body, has_no_room, is_read, tag_outcome, tag_number, bytes_of_tag, tag_left}
use Rattle.tag_tree.proofs.TagExact.{answered_exactly}
use Rattle.tag_pass.specs.Answers.{TagAnswers}
use Rattle.tag_pass.specs.declared.answer.TagAnswer.{TagAnswer}
use Rattle.spec.specs.Answer.{outcome}
use Rattle.printing.specs.Card.{card_text}
use Rattle.print_card.proofs.CardLaws.{front_put}
use Rattle.tag.specs.TagCard.{without_end, page_of, tag_text, tag_card}

-- ---- the line end

-- the last byte, as a row of its own
last : (s : Bytes) → 0 < length s → drop (length s - 1) s ≡ get_or s (length s - 1) 0 ∷ []
last s h =
    let k : suc (length s - 1) ≡ length s = omega arith in
    drop-cons s (length s - 1) 0 (omega arith) ∙ ap (λ (n : ℕ). get_or s (length s - 1) 0 ∷ drop n s) k ∙ ap (λ (t : Bytes). get_or s (length s - 1) 0 ∷ t) (drop-length s)

ends_by : (s : Bytes) → pointwise nat_eq (drop (length s - 1) s) (10 ∷ []) ≡ eqb (get_or s (length s - 1) 0) 10
ends_by [] = refl
ends_by (c ∷ s) = rw (last (c ∷ s) (omega arith)) (and-true (eqb (get_or (c ∷ s) (length (c ∷ s) - 1) 0) 10))

end_dropped : (s : Bytes) → pointwise nat_eq (drop (length s - 1) s) (10 ∷ []) ≡ true → take (length s - 1) s ≡ without_end s
unfolding without_end
end_dropped s e = rw (sym (ends_by s) ∙ e)

other_kept : (s : Bytes) → pointwise nat_eq (drop (length s - 1) s) (10 ∷ []) ≡ false → s ≡ without_end s
unfolding without_end
other_kept s e = rw (sym (ends_by s) ∙ e)

-- what stands before a line end, or all
pub end_taken : (s : Bor Bytes) (o : Option (Bor Bytes)) → MatchOption o (pointwise nat_eq (drop (length s.now - 1) s.now) (10 ∷ []) ≡ false) (λ x. (pointwise nat_eq (drop (length s.now - 1) s.now) (10 ∷ []) ≡ true) × (x.now ≡ take (length s.now - 1) s.now) × (length x.now + 1 ≡ length s.now)) →
    (unwrap_or o s).now ≡ without_end s.now
end_taken s None m = other_kept s.now m
end_taken s (Some x) m = m.1 ∙ end_dropped s.now m.0

-- ---- the page of a tag is its field in two heads

bytes_of_page : (t : P.Tag) → field_bytes 0x01 (field_bytes 0x12 (tag_encode t)) ≡ encode (page_of t)
unfolding encode page_row module_items_row tag_row bytes tag_encode tag_field
bytes_of_page t = ap (field_bytes 0x01) (sym (append-nil (field_bytes 0x12 (tag_encode t)))) ∙ sym (append-nil (field_bytes 0x01 (field_bytes 0x12 (tag_encode t) ++ [])))

-- a field in two heads
pub page_written : {o o₁ o₂ o₃ w : Bytes} {n a b r : ℕ} → n ≡ length w → Wrote o 0 (head 0x01 (3 + n)) o₁ a → Wrote o₁ a (head 0x12 n) o₂ b → Wrote o₂ b w o₃ r → Wrote o 0 (field_bytes 0x01 (field_bytes 0x12 w)) o₃ r
page_written {w = w} e u v x =
    wrote_field 0x01 (wrote_is (ap (head 0x01) (ap (λ (k : ℕ). 3 + k) e ∙ sym (length_field_bytes 0x12 w))) u) (wrote_field 0x12 (wrote_is (ap (head 0x12) e) v) x)

-- where it fits, it stands in front
pub page_stands : (w : Bytes) {o o' : Bytes} {r : ℕ} → Wrote o 0 (field_bytes 0x01 (field_bytes 0x12 w)) o' r → 6 + length w ≤ length o → (r ≤ length o') × (take r o' ≡ field_bytes 0x01 (field_bytes 0x12 w))
page_stands w {o} {o'} {r} u h =
    let f = field_bytes 0x01 (field_bytes 0x12 w) in
    let e : r ≡ length f = omega (arith, u.end_is) in
    let l : length f ≡ 6 + length w = omega (arith, length_field_bytes 0x01 (field_bytes 0x12 w), length_field_bytes 0x12 w) in
    (omega (arith, e, l, h, wrote_length u), ap₂ take e u.out_is ∙ front_put o f (omega (arith, l, h)))

-- ---- what is read fits the room

Fits : ℕ → TagOutcome → Type 0
Fits room (tag_refused n) = Unit {0}
Fits room (tag_accepted t) = length (tag_encode t) ≤ room

fits : (s : Bytes) (room : ℕ) (o : TagOutcome) → IsAnswered s room o → Fits room o
unfolding Fits
fits s room o (is_long n) = tt
fits s room o (is_no_utf8 l n) = tt
fits s room o (has_no_reading l u n) = tt
fits s room o (has_other_names l u r n) = tt
fits s room o (has_number_over l u r n) = tt
fits s room o (is_deep l u r a n) = tt
fits s room o (has_long_body l u r a b n) = tt
fits s room o (has_no_room l u r a b c n) = tt
fits s room o (is_read {t} l u r a b c d) = leb→le (length (tag_encode (page_tag t))) room d

accepted_fits : (s : Bytes) (room : ℕ) (t : P.Tag) → tag_outcome s room ≡ tag_accepted t → length (tag_encode t) ≤ room
unfolding Fits
accepted_fits s room t e = fits s room (tag_accepted t) ((answered_exactly s room (tag_accepted t)).0 e)

-- ---- number 0: a tag is read

never_zero : (n : TagRefusal) → tag_refusal_number n ≡ 0 → ⊥
unfolding tag_refusal_number
never_zero input_too_long e = omega (arith, e)
never_zero not_utf8 e = omega (arith, e)
never_zero no_reading e = omega (arith, e)
never_zero names_differ e = omega (arith, e)
never_zero number_too_large e = omega (arith, e)
never_zero too_deep e = omega (arith, e)
never_zero output_too_long e = omega (arith, e)
never_zero tag_too_small e = omega (arith, e)

zero_accepted : (x : TagOutcome) → tag_number x ≡ 0 → (t : P.Tag) × (x ≡ tag_accepted t)
unfolding tag_number
zero_accepted (tag_refused n) e = absurd (never_zero n e)
zero_accepted (tag_accepted t) e = (t, refl)

-- ---- by the reader's answer and its out behind the call

module _ (scratch tr pr : ℕ) where
  refused_text : (x : TagOutcome) {n : ℕ} → n ≡ tag_number x → (n ≡ 0 → ⊥) → decimal n ++ (10 ∷ []) ≡ tag_text scratch tr pr x
  unfolding tag_number tag_text
  refused_text (tag_refused r) e z = ap (λ (n : ℕ). decimal n ++ (10 ∷ [])) e
  refused_text (tag_accepted t) e z = absurd (z e)

  pub tag_refused_printed : (s out : Bytes) {a : TagAnswer} {out' : Bytes} → TagAnswers s out a out' → (a.number ≡ 0 → ⊥) → {o o₁ : Bytes} {n : ℕ} → Wrote o 0 (decimal a.number ++ (10 ∷ [])) o₁ n →
      Wrote o 0 (tag_text scratch tr pr (tag_outcome s (length out))) o₁ n
  tag_refused_printed s out x z u = wrote_is (refused_text (tag_outcome s (length out)) x.number_is z) u

  -- read: the field stands at the front of the out, and the card of the page around it is what is printed
  pub record TagStands (s out : Bytes) (a : TagAnswer) (out' : Bytes) : Type 0 where
    pub same_room : length out' ≡ length out
    pub field_within : a.tag_bytes ≤ length out'
    pub field_length : length (take a.tag_bytes out') ≤ length out
    pub text_is : card_text (outcome (field_bytes 0x01 (field_bytes 0x12 (take a.tag_bytes out'))) [] scratch tr pr) ≡ tag_text scratch tr pr (tag_outcome s (length out))

  pub tag_stands : (s out : Bytes) {a : TagAnswer} {out' : Bytes} → TagAnswers s out a out' → a.number ≡ 0 → TagStands s out a out'
  unfolding bytes_of_tag tag_left tag_text
  tag_stands s out {a} {out'} x z =
      let k = zero_accepted (tag_outcome s (length out)) (sym x.number_is ∙ z) in
      let t : P.Tag = k.0 in
      let f = accepted_fits s (length out) t k.1 in
      let eb : a.tag_bytes ≡ length (tag_encode t) = x.bytes_is ∙ ap bytes_of_tag k.1 in
      let eo = x.out_is ∙ ap (λ (o : TagOutcome). tag_left o out) k.1 in
      let lo : length out' ≡ length out = ap length eo ∙ length_put out 0 (tag_encode t) in
      let et : take a.tag_bytes out' ≡ tag_encode t = ap₂ take eb eo ∙ front_put out (tag_encode t) f in
      record {
        same_room = lo;
        field_within = omega (arith, eb, lo, f);
        field_length = omega (arith, ap length et, f);
        text_is = ap (λ (w : Bytes). card_text (outcome (field_bytes 0x01 (field_bytes 0x12 w)) [] scratch tr pr)) et ∙ ap (λ (w : Bytes). card_text (outcome w [] scratch tr pr)) (bytes_of_page t) ∙ sym (ap (tag_text scratch tr pr) k.1);
      }

-- with buffers as long as the program's, what `print_tag` writes is the card of the text
pub tag_card_is : (s tag scratch t g : Bytes) → length tag ≡ 65538 → length scratch ≡ 65536 → length t ≡ 65536 → length g ≡ 65536 →
    tag_text (length scratch) (length t) (length g) (tag_outcome (without_end s) (length tag)) ≡ tag_card s
unfolding tag_card
tag_card_is s tag scratch t g e es et eg = rw (e, es, et, eg)
