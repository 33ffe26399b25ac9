-- What the pass found is what is answered. Main statements: `long_whole`, `field_long`, `field_no_utf8`, `field_unread`, `field_read`,
-- `answer_put`, `answer_refused`. Assumes nothing.
use Prim.Native.Nat.{ℕ, ◌+◌, ◌≤◌, ◌<◌}
use mathlib.Core.Path.{◌≡◌, refl, sym, ◌∙◌, ap, ap₂, subst}
use mathlib.Core.Bool.{Bool, true, false, ◌||◌, not, false≢true}
use mathlib.Core.List.{[], ◌++◌}
use native.Mathlib.Omega.{arith}
use borrow.Author.Tests.{lt-ltb, le-ltb, le-leb, lt-leb, ltb-true, ltb-false}
use lib.Dec.{leb, ltb}
use lib.ListN.{length, replicate, length-append}
use Rattle.field.specs.Bytes.{Bytes}
use Rattle.field.specs.Row.{Row, end, loose, field, field_bytes, bytes, long_body}
use Rattle.field.specs.Put.{put}
use Rattle.field.proofs.PutLaws.{length_field_bytes}
use Rattle.utf8.specs.Utf8.{utf8}
use Rattle.page.specs.Page as P
use Rattle.refusal.specs.Refusal.{refusal_number}
use Rattle.refusal.specs.declared.Refusal.{Refusal}
use Rattle.refusal.specs.declared.Refusal.TheVariants as F
use Rattle.page.specs.Encode.{name_row, tag_row, attributes_row, children_row}
use Rattle.grammar.specs.Signs.{choose}
use Rattle.grammar.specs.Syntax.{Tag, matched}
use Rattle.grammar.specs.Reader.{start, outcome, read, taken, refused_15, judged, answer}
use Rattle.tag_tree.specs.PageTag.{page_tag}
use Rattle.tag_tree.specs.TagAnswer as TA
use Rattle.tag_tree.specs.TagAnswer.{TagOutcome, tag_refused, tag_accepted, numbers_in_range, shallow, tag_field, tag_encode, given, within, answered, tag_outcome, tag_number, tag_refusal_number, tag_left}
use Rattle.read_tag.specs.Progress as R
use Rattle.std.specs.Prelude.{Option, Some, None, Result, Ok, Err, IsErrAnd}
use Rattle.std.specs.Option.{ok_or}
use Rattle.tag_pass.specs.declared.answer.Unread.{Unread}
use Rattle.tag_pass.specs.declared.answer.Unread.TheVariants as U
use Rattle.tag_pass.specs.Worlds.{ended_world, nothing_made, Made}
use Rattle.tag_pass.specs.States.{Passed, passed_none, passed_tag}
use Rattle.tag_pass.specs.Answers.{TagAnswers, unread_number, refused_if, checked, FieldPut, FieldRead}
use Rattle.tag_pass.specs.declared.state.Reading.{Reading}
use Rattle.tag_pass.specs.declared.answer.TagAnswer.{TagAnswer}

-- ---- 11: the tag's own body is the longest

or_cases : (a b : Bool) (P : Type 0) → (a ≡ true → P) → (b ≡ true → P) → a || b ≡ true → P
or_cases true b P f g e = f refl
or_cases false b P f g e = g e

-- a body in a row that is too long makes the row too long
long_row : (r : Row) → long_body r ≡ true → 65538 < length (bytes r)
unfolding long_body bytes
long_row end e = absurd (false≢true e)
long_row (loose b) e = absurd (false≢true e)
long_row (field t f i r) e =
    let a = length-append (field_bytes t (f ++ bytes i)) (bytes r) in
    let b = length_field_bytes t (f ++ bytes i) in
    let c = length-append f (bytes i) in
    or_cases (ltb 65535 (length (f ++ bytes i))) (long_body i || long_body r) (65538 < length (field_bytes t (f ++ bytes i) ++ bytes r))
    (λ y. omega (arith, a, b, ltb-true 65535 (length (f ++ bytes i)) y))
    (or_cases (long_body i) (long_body r) (65538 < length (field_bytes t (f ++ bytes i) ++ bytes r)) (λ y. omega (arith, a, b, c, long_row i y)) (λ y. omega (arith, a, b, long_row r y)))
    e

or_false : (a : Bool) → a || false ≡ a
or_false true = refl
or_false false = refl

long_field : (t : ℕ) (x : Row) → long_body (field t [] x end) ≡ ltb 65538 (length (bytes (field t [] x end)))
unfolding long_body bytes
long_field t x = on (long_body x) refl
  where
    a : length (field_bytes t (bytes x) ++ []) ≡ 3 + length (bytes x)
    a = omega (arith, length-append (field_bytes t (bytes x)) [], length_field_bytes t (bytes x))

    tested : (n m : ℕ) → n ≡ 3 + m → ltb 65535 m ≡ ltb 65538 n
    tested n m e = test (ltb 65535 m) refl
      where
        test : (b : Bool) → ltb 65535 m ≡ b → ltb 65535 m ≡ ltb 65538 n
        test true q = q ∙ sym (lt-ltb 65538 n (omega (arith, ltb-true 65535 m q)))
        test false q = q ∙ sym (le-ltb 65538 n (omega (arith, ltb-false 65535 m q)))

    on : (b : Bool) → long_body x ≡ b → ltb 65535 (length (bytes x)) || (long_body x || false) ≡ ltb 65538 (length (field_bytes t (bytes x) ++ []))
    on true q =
        ap (λ (z : Bool). z || (long_body x || false)) (lt-ltb 65535 (length (bytes x)) (omega (arith, long_row x q))) ∙ sym (lt-ltb 65538 (length (field_bytes t (bytes x) ++ [])) (omega (arith, a, long_row x q)))
    on false q =
        ap (λ (z : Bool). ltb 65535 (length (bytes x)) || (z || false)) q ∙ or_false (ltb 65535 (length (bytes x))) ∙ tested (length (field_bytes t (bytes x) ++ [])) (length (bytes x)) a

pub long_whole : (t : P.Tag) → long_body (tag_field t) ≡ ltb 65538 (length (tag_encode t))
unfolding tag_field tag_encode tag_row
long_whole (P.element n ps ks) = long_field 0x30 (name_row n (attributes_row ps (children_row ks)))
long_whole (P.fragment ks) = long_field 0x31 (children_row ks)

-- ---- the order of refusals, by tests alone

-- names agree, numbers in range, not too deep, no body too long, room enough
outcome_by : (m n s f r : Bool) → P.Tag → TagOutcome
outcome_by m n s f r x =
    choose m
    (given n TA.number_too_large λ _.
    given s TA.too_deep λ _.
    given f TA.output_too_long λ _.
    given r TA.tag_too_small λ _.
    tag_accepted x)
    (tag_refused TA.names_differ)

-- a body too long, no room
by_tests : (m n s l q : Bool) (x : P.Tag) (at : ℕ) (text o out : Bytes) → tag_outcome text (length o) ≡ outcome_by m n s (not l) (not q) x → at ≡ length (tag_encode x) → (n ≡ true → out ≡ put o 0 (tag_encode x)) → FieldRead text o (refused_if (not m) U.NamesDiffer (refused_if (not n) (U.Refused F.NumberTooLarge) (refused_if (not s) (U.Refused F.TooDeep) (refused_if l (U.Refused F.OutputTooLong) (refused_if q (U.Refused F.PageTooSmall) (Ok at)))))) out
unfolding outcome_by choose given refused_if tag_refusal_number unread_number refusal_number
by_tests false n s l q x at text o out e a p = record { refusal = TA.names_differ; refused = e; number = refl }
by_tests true false s l q x at text o out e a p = record { refusal = TA.number_too_large; refused = e; number = refl }
by_tests true true false l q x at text o out e a p = record { refusal = TA.too_deep; refused = e; number = refl }
by_tests true true true true q x at text o out e a p = record { refusal = TA.output_too_long; refused = e; number = refl }
by_tests true true true false true x at text o out e a p = record { refusal = TA.tag_too_small; refused = e; number = refl }
by_tests true true true false false x at text o out e a p = record { tag = x; accepted = e; count = a; out_is = p refl }

-- ---- the answer by the grammar's reader

room_test : (n room : ℕ) → leb n room ≡ not (ltb room n)
room_test n room = on (ltb room n) refl
  where
    on : (b : Bool) → ltb room n ≡ b → leb n room ≡ not (ltb room n)
    on true q = lt-leb n room (ltb-true room n q) ∙ ap not (sym q)
    on false q = le-leb n room (ltb-false room n q) ∙ ap not (sym q)

answered_so : (room : ℕ) (t : Tag) (b : Bool) → answered room (choose b (taken t) refused_15) ≡ choose b (within room t) (tag_refused TA.names_differ)
unfolding answered choose
answered_so room t true = refl
answered_so room t false = refl

read_outcome : (s : Bytes) (room : ℕ) (t : Tag) → leb (length s) 32768 ≡ true → utf8 s ≡ true → outcome start s ≡ read t → tag_outcome s room ≡ outcome_by (matched t) (numbers_in_range t) (shallow 3 (tag_field (page_tag t))) (not (long_body (tag_field (page_tag t)))) (leb (length (tag_encode (page_tag t))) room) (page_tag t)
unfolding tag_outcome given answer judged within outcome_by
read_outcome s room t a b e =
    ap (λ (z : Bool). given z TA.input_too_long (λ _. given (utf8 s) TA.not_utf8 (λ _. answered room (judged (outcome start s))))) a ∙
    (ap (λ (z : Bool). given z TA.not_utf8 (λ _. answered room (judged (outcome start s)))) b ∙
    (ap (λ z. answered room (judged z)) e ∙ answered_so room t (matched t)))

-- ---- by what the pass found

pass_outcome : {o out : Bytes} (s : Bytes) (st : Reading) (t : Tag) (room : ℕ) → leb (length s) 32768 ≡ true → utf8 s ≡ true → outcome start s ≡ read t → Made o (ended_world nothing_made 3 t) out st.at st.names st.numbers st.shallow → tag_outcome s room ≡ outcome_by st.names st.numbers st.shallow (not (ltb 65538 st.at)) (not (ltb room st.at)) (page_tag t)
unfolding ended_world matched numbers_in_range tag_field R.bytes_of_tag tag_encode
pass_outcome s st t room a b e m =
    let at : st.at ≡ length (tag_encode (page_tag t)) = m.at_is in
    let f : not (long_body (tag_field (page_tag t))) ≡ not (ltb 65538 st.at) = ap not (long_whole (page_tag t) ∙ ap (ltb 65538) (sym at)) in
    let r : leb (length (tag_encode (page_tag t))) room ≡ not (ltb room st.at) = ap (λ (z : ℕ). leb z room) (sym at) ∙ room_test st.at room in
    read_outcome s room t a b e ∙
    (ap (λ (z : Bool). outcome_by z (numbers_in_range t) (shallow 3 (tag_field (page_tag t))) (not (long_body (tag_field (page_tag t)))) (leb (length (tag_encode (page_tag t))) room) (page_tag t)) (sym m.names_is) ∙
    (ap (λ (z : Bool). outcome_by st.names z (shallow 3 (tag_field (page_tag t))) (not (long_body (tag_field (page_tag t)))) (leb (length (tag_encode (page_tag t))) room) (page_tag t)) (sym m.numbers_is) ∙
    (ap (λ (z : Bool). outcome_by st.names st.numbers z (not (long_body (tag_field (page_tag t)))) (leb (length (tag_encode (page_tag t))) room) (page_tag t)) (sym m.shallow_is) ∙
    ap₂ (λ (y z : Bool). outcome_by st.names st.numbers st.shallow y z (page_tag t)) f r)))

at_encode : {at : ℕ} (t : Tag) → at ≡ length (ended_world nothing_made 3 t).bytes → at ≡ length (tag_encode (page_tag t))
unfolding ended_world R.bytes_of_tag tag_encode tag_field
at_encode t e = e

read_bytes : {o out : Bytes} {at : ℕ} {a b d : Bool} (t : Tag) → Made o (ended_world nothing_made 3 t) out at a b d → b ≡ true → out ≡ put o 0 (tag_encode (page_tag t))
unfolding ended_world R.bytes_of_tag tag_encode tag_field
read_bytes t m e = m.out_is (sym m.numbers_is ∙ e)

-- ---- the field, or why there is none

pub field_long : (s o out : Bytes) → 32768 < length s → FieldRead s o (Err (U.Refused F.InputTooLong)) out
unfolding tag_outcome given tag_refusal_number unread_number refusal_number
field_long s o out l =
    record {
      refusal = TA.input_too_long;
      refused = ap (λ (z : Bool). given z TA.input_too_long (λ _. given (utf8 s) TA.not_utf8 (λ _. answered (length o) (answer s)))) (lt-leb (length s) 32768 l);
      number = refl;
    }

pub field_no_utf8 : {u : Bool} (s o out : Bytes) → length s ≤ 32768 → u ≡ utf8 s → u ≡ false → FieldRead s o (Err (U.Refused F.NotUtf8)) out
unfolding tag_outcome given tag_refusal_number unread_number refusal_number
field_no_utf8 {u} s o out l is no_utf8 =
    record {
      refusal = TA.not_utf8;
      refused = ap (λ (z : Bool). given z TA.input_too_long (λ _. given (utf8 s) TA.not_utf8 (λ _. answered (length o) (answer s)))) (le-leb (length s) 32768 l) ∙ ap (λ (z : Bool). given z TA.not_utf8 (λ _. answered (length o) (answer s))) (sym is ∙ no_utf8);
      number = refl;
    }

field_none : {s o out : Bytes} {u : Bool} → length s ≤ 32768 → u ≡ utf8 s → u ≡ true → Passed s o None out → FieldRead s o (Err U.NoReading) out
unfolding tag_outcome given answer judged answered tag_refusal_number unread_number
field_none {s} {o} {u = u} l is ok (passed_none e) =
    record {
      refusal = TA.no_reading;
      refused =
          ap (λ (z : Bool). given z TA.input_too_long (λ _. given (utf8 s) TA.not_utf8 (λ _. answered (length o) (judged (outcome start s))))) (le-leb (length s) 32768 l) ∙
          (ap (λ (z : Bool). given z TA.not_utf8 (λ _. answered (length o) (judged (outcome start s)))) (sym is ∙ ok) ∙ ap (λ z. answered (length o) (judged z)) e);
      number = refl;
    }

-- the error that `ok_or` was given
given_to : {A E : Type 0} {o : Option A} {n e : E} → o ≡ None → Err e ≡ ok_or o n → e ≡ n
given_to {A} {E} {o} {n} {e} b a =
    let h : Err e ≡ Err n = a ∙ ap (λ (x : Option A). ok_or x n) b in
    cc

pub handed : {r : Result ℕ Unread} {e : Refusal} → IsErrAnd r (λ v. v ≡ U.Refused e) → r ≡ Err (U.Refused e)
handed {r = Ok x} h = absurd h
handed {r = Err v} h = ap Err h

pub field_unread : {s o out : Bytes} {u : Bool} {q : Option Reading} (e d : Unread) → e ≡ d → Err d ≡ ok_or q U.NoReading → q ≡ None → length s ≤ 32768 → u ≡ utf8 s → u ≡ true → Passed s o q out → FieldRead s o (Err e) out
field_unread {s} {o} {out} {u} {q} e d same given_as unread l is ok p =
    subst (λ (z : Unread). FieldRead s o (Err z) out) (sym (same ∙ given_to unread given_as)) (field_none l is ok (subst (λ (x : Option Reading). Passed s o x out) unread p))

pub field_read : {s o out : Bytes} {u : Bool} {st : Reading} {p : Option Reading} {q : Result ℕ Unread} {room : ℕ} → p ≡ Some st → length s ≤ 32768 → u ≡ utf8 s → u ≡ true → Passed s o p out → room ≡ length o → q ≡ checked st room → FieldRead s o q out
unfolding checked
field_read {s} {o} {out} {u} {st} {p} {q} {room} some l is ok passed same qs = on (subst (λ (x : Option Reading). Passed s o x out) some passed)
  where
    on : Passed s o (Some st) out → FieldRead s o q out
    on (passed_tag {t} m e made) =
        subst (λ (z : Result ℕ Unread). FieldRead s o z out) (sym (qs ∙ ap (checked st) same))
        (by_tests st.names st.numbers st.shallow (ltb 65538 st.at) (ltb (length o) st.at) (page_tag t) st.at s o out (pass_outcome s st t (length o) (le-leb (length s) 32768 l) (sym is ∙ ok) e made) (at_encode t made.at_is) (read_bytes t made))

-- ---- whole answers

pub answer_put : {s o out : Bytes} {r : TagAnswer} → FieldPut s o r.tag_bytes out → r.number ≡ 0 → TagAnswers s o r out
unfolding tag_number TA.bytes_of_tag tag_left
answer_put {o = o} p n =
    record { number_is = n ∙ sym (ap tag_number p.accepted); bytes_is = p.count ∙ sym (ap TA.bytes_of_tag p.accepted); out_is = p.out_is ∙ sym (ap (λ (z : TagOutcome). tag_left z o) p.accepted) }

pub answer_refused : {s o out : Bytes} {r : TagAnswer} (out₁ : Bytes) (e : Unread) → FieldRead s o (Err e) out₁ → r.number ≡ unread_number e → r.tag_bytes ≡ 0 → length out₁ ≡ length o → out ≡ replicate (length out₁) 0 → TagAnswers s o r out
unfolding tag_number TA.bytes_of_tag tag_left
answer_refused {o = o} out₁ q e n b same c =
    record {
      number_is = n ∙ sym e.number ∙ sym (ap tag_number e.refused);
      bytes_is = b ∙ sym (ap TA.bytes_of_tag e.refused);
      out_is = c ∙ ap (λ (k : ℕ). replicate k 0) same ∙ sym (ap (λ (z : TagOutcome). tag_left z o) e.refused);
    }
