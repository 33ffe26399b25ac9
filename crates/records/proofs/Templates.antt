-- How a template comes about: its strings are carved, make room for their kinds, and what comes before these is written last.
-- Main statements: `strings_carved`, `kinded_is`, `template_written`, `end_is`. Assumes nothing.
use mathlib.Core.Path.{◌≡◌, refl, sym, ap, ap₂, ◌∙◌, subst}
use Prim.Native.Nat.{ℕ, zero, suc, ◌+◌, ◌-◌, ◌≤◌, ◌<◌, ◌^◌}
use native.Mathlib.Omega.{arith}
use mathlib.Core.List.{List, [], ◌∷◌, ◌++◌, append-nil}
use mathlib.Core.Bool.{Bool, true, false, ◌&&◌, ◌||◌, or-false, false≢true}
use borrow.Author.Tests.{leb-true, le-leb, lt-leb}
use lib.Dec.{leb, ltb}
use lib.ListN.{length, take, drop, length-append}
use lib.Seq.{take_all, drop_at, length-take-le}
use Rattle.field.specs.Bytes.{Bytes, pick}
use Rattle.field.specs.Number.{big_endian}
use Rattle.field.specs.Row.{end, bytes, long_body, field_bytes}
use Rattle.field.specs.Put.{put, head}
use Rattle.field.proofs.PutLaws.{put_put, put_nil, put_back, put_then, put_fits, length_put, length_field_bytes}
use Rattle.spec.specs.Pass.{join, Template, Part, chars, gap, mark, marks}
use Rattle.spec.specs.Words.{places, places_after}
use Rattle.spec.specs.Output.{kind_bytes, record_front, record_row, strings_after, strings_row, template_row}
use Rattle.strings.specs.declared.due.Due.{Due}
use Rattle.strings.specs.Due.{graver, long_due, grave}
use Rattle.strings.specs.Carve as C
use Rattle.strings.specs.Recorded.{gaps_of, body_size, unkinded, standing, recorded_one}
use Rattle.strings.specs.declared.writer.Open.{Open}
use Rattle.strings.proofs.DueLaws.{due_plain, due_body, due_front, due_more}
use Rattle.strings.proofs.CarveLaws.{flagged_none, close_flagged}
use Rattle.strings.proofs.RecordedLaws.{body, length_body, row_bytes, row_size}
use Rattle.records.specs.Kinds.{sign_after, kinds_at}
use Rattle.records.specs.Keep.{Kept, at, write, begun, begin, size_at, moved_up, kinded, kinded_if, end_at, template_of, Low}
use Rattle.records.specs.declared.Records.{Records}
use Rattle.records.proofs.KindLaws.{kinds_standing, length_places, length_kind_bytes}
use Rattle.records.proofs.MoveLaws.{drop_put, put_over}

-- ---- strings

-- what closing does to an open string that holds `last`
close_one : (o : Bytes) (p : ℕ) (last : Bytes) (g : ℕ) (d : Due) →
    C.close (C.at (put o (p + 3) last) (record { head = p; len = length last; gaps = g; due = d })) ≡ C.at (put o p (field_bytes 0x81 last)) (record { head = p + 3 + length last; len = 0; gaps = g + 1; due = graver d (long_due (ltb 65535 (length last))) })
unfolding field_bytes big_endian
close_one o p last g d =
    ap (λ (x : Bytes). C.at x (record { head = p + 3 + length last; len = 0; gaps = g + 1; due = graver d (long_due (ltb 65535 (length last))) })) (put_back o p (head 0x81 (length last)) last)

-- the open string holds `last`; when all parts are carved and it is closed, the strings stand in the buffer
strings_from : (ps : List Part) (o : Bytes) (p : ℕ) (last : Bytes) (g : ℕ) (d : Due) →
    C.close (C.carve ps (C.at (put o (p + 3) last) (record { head = p; len = length last; gaps = g; due = d })))
    ≡ C.at (put o p (bytes (strings_row (strings_after last ps)))) (record { head = p + length (bytes (strings_row (strings_after last ps))); len = 0; gaps = g + length (strings_after last ps); due = graver d (graver (grave (marks ps)) (long_due (long_body (strings_row (strings_after last ps))))) })
unfolding C.carve strings_after strings_row bytes long_body marks
strings_from [] o p last g d =
    let e : field_bytes 0x81 last ≡ field_bytes 0x81 (last ++ []) ++ [] = sym (append-nil (field_bytes 0x81 (last ++ [])) ∙ ap (field_bytes 0x81) (append-nil last)) in
    let h : p + 3 + length last ≡ p + length (field_bytes 0x81 (last ++ []) ++ []) = omega (arith, length_field_bytes 0x81 last, ap length e) in
    let b : ltb 65535 (length last) ≡ (ltb 65535 (length (last ++ [])) || (false || false)) = sym (or-false (ltb 65535 (length (last ++ []))) ∙ ap (λ (x : Bytes). ltb 65535 (length x)) (append-nil last)) in
    let q = ap (λ (x : Bool). graver d (long_due x)) b ∙ sym (due_plain d (long_due (ltb 65535 (length (last ++ [])) || (false || false)))) in
    close_one o p last g d ∙ λ i. C.at (put o p (e i)) (record { head = h i; len = 0; gaps = g + 1; due = q i })
strings_from (chars c ∷ ps) o p last g d =
    let e : put (put o (p + 3) last) (p + 3 + length last) c ≡ put o (p + 3) (last ++ c) = put_put o (p + 3) last c in
    let n : length last + length c ≡ length (last ++ c) = sym (length-append last c) in
    (λ i. C.close (C.carve ps (C.at (e i) (record { head = p; len = n i; gaps = g; due = d })))) ∙ strings_from ps o p (last ++ c) g d
strings_from (gap x ∷ ps) o p last g d =
    let f = field_bytes 0x81 (last ++ []) in
    let ss = strings_after [] ps in
    let r = strings_row ss in
    let fe : field_bytes 0x81 last ≡ f = ap (field_bytes 0x81) (sym (append-nil last)) in
    let k : p + 3 + length last ≡ p + length f = omega (arith, length_field_bytes 0x81 last, ap length fe) in
    let o₁ = put o p f in
    let d₁ = graver d (long_due (ltb 65535 (length last))) in
    let a : C.close (C.at (put o (p + 3) last) (record { head = p; len = length last; gaps = g; due = d })) ≡ C.at (put o₁ (p + length f + 3) []) (record { head = p + length f; len = 0; gaps = g + 1; due = d₁ }) = close_one o p last g d ∙ (λ i. C.at (put o p (fe i)) (record { head = k i; len = 0; gaps = g + 1; due = d₁ })) ∙ ap (λ (x : Bytes). C.at x (record { head = p + length f; len = 0; gaps = g + 1; due = d₁ })) (sym (put_nil o₁ (p + length f + 3))) in
    let ob : put o₁ (p + length f) (bytes r) ≡ put o p (f ++ bytes r) = put_put o p f (bytes r) in
    let h : p + length f + length (bytes r) ≡ p + length (f ++ bytes r) = omega (arith, length-append f (bytes r)) in
    let c : g + 1 + length ss ≡ g + suc (length ss) = omega arith in
    let m = grave (marks ps) in
    let b : graver d₁ (graver m (long_due (long_body r))) ≡ graver d (graver m (long_due (ltb 65535 (length (last ++ [])) || (false || long_body r)))) = due_body d m (ltb 65535 (length last)) (long_body r) ∙ ap (λ (x : Bytes). graver d (graver m (long_due (ltb 65535 (length x) || long_body r)))) (sym (append-nil last)) in
    ap (λ (w : C.Carved). C.close (C.carve ps w)) a ∙ strings_from ps o₁ (p + length f) [] (g + 1) d₁ ∙ λ i. C.at (ob i) (record { head = h i; len = 0; gaps = c i; due = b i })
strings_from (mark f ∷ ps) o p last g d =
    let l = long_due (long_body (strings_row (strings_after last ps))) in
    let b : graver (graver d (grave f)) (graver (grave (marks ps)) l) ≡ graver d (graver (grave (join f (marks ps))) l) = due_front d f (marks ps) l in
    strings_from ps o p last g (graver d (grave f))
    ∙ λ i. C.at (put o p (bytes (strings_row (strings_after last ps)))) (record { head = p + length (bytes (strings_row (strings_after last ps))); len = 0; gaps = g + length (strings_after last ps); due = b i })

-- from an empty open string on
pub strings_carved : (ps : List Part) (o : Bytes) (p : ℕ) (d : Due) →
    C.close (C.carve ps (C.at o (record { head = p; len = 0; gaps = 0; due = d })))
    ≡ C.at (put o p (bytes (strings_row (strings_after [] ps)))) (record { head = p + length (bytes (strings_row (strings_after [] ps))); len = 0; gaps = length (strings_after [] ps); due = graver d (graver (grave (marks ps)) (long_due (long_body (strings_row (strings_after [] ps))))) })
strings_carved ps o p d =
    let ss = strings_after [] ps in
    let c : 0 + length ss ≡ length ss = omega arith in
    ap (λ (x : Bytes). C.close (C.carve ps (C.at x (record { head = p; len = 0; gaps = 0; due = d })))) (sym (put_nil o (p + 3)))
    ∙ strings_from ps o p [] 0 d
    ∙ λ i. C.at (put o p (bytes (strings_row ss))) (record { head = p + length (bytes (strings_row ss)); len = 0; gaps = c i; due = graver d (graver (grave (marks ps)) (long_due (long_body (strings_row ss)))) })

-- a gap between any two of them
one_more : (ps : List Part) (j last : Bytes) → suc (length (places_after j (strings_after last ps))) ≡ length (strings_after last ps)
unfolding strings_after
one_more [] j last = length_places j last []
one_more (chars c ∷ ps) j last = one_more ps j (last ++ c)
one_more (gap x ∷ ps) j last = length_places j last (strings_after [] ps)
one_more (mark f ∷ ps) j last = one_more ps j last

-- ---- one record, from its strings

module _ (t : Template) (o : Bytes) (p : ℕ) where
  -- its strings, and where they end as they are carved
  strings : Bytes
  strings = bytes (strings_row t.strings)

  carved_end : ℕ
  carved_end = p + 9 + length strings

  carved : Bytes
  carved = put o (p + 9) strings

  -- what comes before the kinds
  front : Bytes
  front = head 0x84 (body_size t) ++ big_endian 4 t.number (big_endian 2 (gaps_of t) [])

  size_is : size_at p carved_end (gaps_of t) ≡ body_size t
  unfolding carved_end strings
  size_is = omega arith

  unkinded_is : put carved p front ≡ put o p (unkinded t)
  unfolding carved front strings big_endian
  unkinded_is = put_back o p (head 0x84 (body_size t) ++ big_endian 4 t.number (big_endian 2 (gaps_of t) [])) (bytes (strings_row t.strings))

  kinds : Bytes
  kinds = kind_bytes (places t.strings)

  front_row : front ++ (kinds ++ strings) ≡ bytes (template_row t end)
  unfolding front kinds strings big_endian field_bytes body record_front
  front_row = ap (λ (x : ℕ). 0x84 ∷ (big_endian 2 x [] ++ body t)) (sym (length_body t)) ∙ sym (row_bytes t)

  module _ (short : body_size t ≤ 65535) (fits : p + (3 + body_size t) ≤ length o) where
    moved_is : moved_up p carved_end (gaps_of t) carved ≡ put carved (p + 9 + gaps_of t) strings
    unfolding carved carved_end strings
    moved_is =
        let s = bytes (strings_row t.strings) in
        let l : p + 9 + length s - (p + 9) ≡ length s = omega arith in
        let all : length s ≤ length o - (p + 9) = omega arith in
        ap (put (put o (p + 9) s) (p + 9 + gaps_of t)) (ap (λ (k : ℕ). take k (drop (p + 9) (put o (p + 9) s))) l ∙ drop_put o (p + 9) s ∙ take_all (length o - (p + 9)) s all)

    strings_there : drop (p + 9 + gaps_of t) (put carved (p + 9 + gaps_of t) strings) ≡ strings ++ drop (p + 9 + gaps_of t + length strings) carved
    unfolding carved strings
    strings_there =
        let s = bytes (strings_row t.strings) in
        let x = put o (p + 9) s in
        let q = p + 9 + gaps_of t in
        let n : length x ≡ length o = length_put o (p + 9) s in
        ap (drop q) (put_fits x q s (omega (arith, n))) ∙ drop_at (take q x) (s ++ drop (q + length s) x) q (length-take-le q x (omega (arith, n)))

    kinds_are : kinds_at (gaps_of t) 0 (drop (p + 9 + gaps_of t) (moved_up p carved_end (gaps_of t) carved)) ≡ kinds
    unfolding kinds strings sign_after
    kinds_are =
        let q = p + 9 + gaps_of t in
        ap (λ (x : Bytes). kinds_at (gaps_of t) 0 (drop q x)) moved_is
        ∙ ap (kinds_at (gaps_of t) 0) strings_there
        ∙ kinds_standing t.strings [] (drop (q + length strings) carved) (omega arith)

    kinded_is : kinded p carved_end (gaps_of t) carved ≡ put o (p + 9) (kinds ++ strings)
    unfolding carved kinds
    kinded_is =
        let n : p + 9 + gaps_of t ≡ p + 9 + length kinds = omega (arith, length_kind_bytes (places t.strings)) in
        ap₂ (λ (x y : Bytes). put x (p + 9) y) moved_is kinds_are
        ∙ ap (λ (m : ℕ). put (put carved m strings) (p + 9) kinds) n
        ∙ put_back carved (p + 9) kinds strings
        ∙ put_over o (p + 9) strings (kinds ++ strings) (omega (arith, length-append kinds strings))

    row_is : put (kinded p carved_end (gaps_of t) carved) p front ≡ put o p (bytes (template_row t end))
    unfolding front big_endian
    row_is =
        ap (λ (x : Bytes). put x p front) kinded_is
        ∙ put_back o p (head 0x84 (body_size t) ++ big_endian 4 t.number (big_endian 2 (gaps_of t) [])) (kinds ++ strings)
        ∙ ap (put o p) front_row

  stands_is : (leb (size_at p carved_end (gaps_of t)) 65535 && leb (carved_end + gaps_of t) (length carved)) ≡ standing t o p
  unfolding carved carved_end strings
  stands_is =
      let s = bytes (strings_row t.strings) in
      let a : p + 9 + length s + gaps_of t ≡ p + (3 + body_size t) = omega arith in
      ap₂ (λ (x y : Bool). x && y) (ap (λ (k : ℕ). leb k 65535) size_is) (ap₂ leb a (length_put o (p + 9) s))

  -- whether it stands or not
  record_is : put (kinded_if p carved_end (gaps_of t) carved) p front ≡ recorded_one t o p
  unfolding recorded_one
  record_is = ap (λ (b : Bool). put (pick b (kinded p carved_end (gaps_of t) carved) carved) p front) stands_is ∙ on (standing t o p) refl
    where
      both : (a b : Bool) → (a && b) ≡ true → (a ≡ true) × (b ≡ true)
      both true true e = (refl, refl)
      both true false e = absurd (false≢true e)
      both false b e = absurd (false≢true e)

      on : (b : Bool) → standing t o p ≡ b → put (pick b (kinded p carved_end (gaps_of t) carved) carved) p front ≡ put o p (pick b (bytes (template_row t end)) (unkinded t))
      on true e =
          let h = both (leb (body_size t) 65535) (leb (p + (3 + body_size t)) (length o)) e in
          row_is (leb-true (body_size t) 65535 h.0) (leb-true (p + (3 + body_size t)) (length o) h.1)
      on false e = unkinded_is

-- ---- one template

-- its strings are closed first, then a run is flagged, and its own body is closed last
or_last : (s r t : Bool) → ((s || r) || t) ≡ (r || (t || (s || false)))
or_last true true t = refl
or_last true false true = refl
or_last true false false = refl
or_last false true t = refl
or_last false false true = refl
or_last false false false = refl

module _ (n : ℕ) (run : Bool) (ps : List Part) (o : Bytes) (st : Records) where
  abbrev t : Template
  t = template_of n ps

  long_strings : Bool
  long_strings = long_body (strings_row (strings_after [] ps))

  due_before : Due
  due_before = graver (graver st.due (graver (grave (marks ps)) (long_due long_strings))) (long_due run)

  closed_is : C.close (C.flagged (long_due run) (C.carve ps (begin (at o st)))) ≡ C.at (carved t o st.place) (record { head = carved_end t o st.place; len = 0; gaps = length (strings_after [] ps); due = due_before })
  unfolding carved carved_end strings long_strings due_before
  closed_is = close_flagged (long_due run) (C.carve ps (begin (at o st))) ∙ ap (C.flagged (long_due run)) (strings_carved ps o (st.place + 9) st.due)

  due_is : graver due_before (long_due (ltb 65535 (body_size t))) ≡ graver st.due (graver (grave (marks ps)) (long_due (run || long_body (template_row t end))))
  unfolding long_body template_row record_row long_strings due_before body
  due_is =
      let b = ltb 65535 (length (body t)) in
      let m = grave (marks ps) in
      ap (λ (x : ℕ). graver due_before (long_due (ltb 65535 x))) (sym (length_body t))
      ∙ sym (due_more st.due m (long_strings || run) b ∙ ap (λ (x : Due). graver x (long_due b)) (due_more st.due m long_strings run))
      ∙ ap (λ (x : Bool). graver st.due (graver m (long_due x))) (or_last long_strings run b)

  place_is : carved_end t o st.place + gaps_of t ≡ st.place + length (bytes (template_row t end))
  unfolding carved_end strings
  place_is = omega (arith, row_size t)

  ended : end_at n st (gaps_of t) (C.at (carved t o st.place) (record { head = carved_end t o st.place; len = 0; gaps = length (strings_after [] ps); due = due_before })) ≡ write n run ps (at o st)
  unfolding write front
  ended =
      let x = kinded_if st.place (carved_end t o st.place) (gaps_of t) (carved t o st.place) in
      let s = size_is t o st.place in
      let e = ap (λ (k : ℕ). put x st.place (head 0x84 k ++ big_endian 4 n (big_endian 2 (gaps_of t) []))) s ∙ record_is t o st.place in
      let b = ap (λ (k : ℕ). graver due_before (long_due (ltb 65535 k))) s ∙ due_is in
      λ i. at (e i) (record { next = st.next; place = place_is i; due = b i })

  -- a template that was begun, carved and ended is written
  pub template_written : end_at n st (gaps_of t) (C.close (C.flagged (long_due run) (C.carve ps (begin (at o st))))) ≡ write n run ps (at o st)
  template_written = ap (end_at n st (gaps_of t)) closed_is ∙ ended

  -- where its last string ends, and how many gaps it has
  last_end : C.end (C.carve ps (begin (at o st))).st ≡ carved_end t o st.place
  last_end = ap (λ (x : C.Carved). x.st.head) closed_is

  gaps_are : (C.carve ps (begin (at o st))).st.gaps ≡ gaps_of t
  gaps_are = omega (arith, ap (λ (x : C.Carved). x.st.gaps) closed_is, one_more ps [] [])

  place_low : Low (write n run ps (at o st)) → st.place + length (bytes (template_row t end)) + 3 < 2 ^ 63
  unfolding write
  place_low l = l.low_place

  pub begin_low : Low (write n run ps (at o st)) → st.place + 9 < 2 ^ 63
  begin_low l = omega (arith, place_low l, row_size t)

  last_low : Low (write n run ps (at o st)) → C.Low (C.carve ps (begin (at o st)))
  last_low l = omega (arith, place_low l, place_is, last_end, gaps_are)

  last_behind : st.place + 9 ≤ C.end (C.carve ps (begin (at o st))).st
  unfolding carved_end
  last_behind = omega (arith, last_end)

  -- the same in a function's own words: s₀ is what it began, w what was carved
  module _ {s₀ : Open} (q : s₀ ≡ begun st) where
    pub carve_low : Low (write n run ps (at o st)) → C.Low (C.carve ps (C.at o s₀))
    carve_low l = subst (λ (x : Open). C.Low (C.carve ps (C.at o x))) (sym q) (last_low l)

    module _ {w : C.Carved} (u : w ≡ C.flagged (long_due run) (C.carve ps (C.at o s₀))) where
      carved_is : w ≡ C.flagged (long_due run) (C.carve ps (begin (at o st)))
      carved_is = u ∙ ap (λ (x : Open). C.flagged (long_due run) (C.carve ps (C.at o x))) q

      pub end_behind : st.place + 9 ≤ C.end w.st
      end_behind = subst (λ (x : C.Carved). st.place + 9 ≤ C.end x.st) (sym carved_is) last_behind

      pub end_low : Low (write n run ps (at o st)) → C.Low w
      end_low l = subst C.Low (sym carved_is) (last_low l)

      pub written : {w' : Kept} → w' ≡ end_at n st w.st.gaps (C.close w) → w' ≡ write n run ps (at o st)
      written e = e ∙ ap (λ (x : C.Carved). end_at n st x.st.gaps (C.close x)) carved_is ∙ ap (λ (g : ℕ). end_at n st g (C.close (C.flagged (long_due run) (C.carve ps (begin (at o st)))))) gaps_are ∙ template_written

-- where nothing was merged, nothing is flagged
unflagged : {v w : C.Carved} → v ≡ w → v ≡ C.flagged (long_due false) w
unflagged {v} {w} e = e ∙ sym (flagged_none w)

module _ (n : ℕ) (ps : List Part) (o : Bytes) (st : Records) {s₀ : Open} (q : s₀ ≡ begun st) {w : C.Carved} (u : w ≡ C.carve ps (C.at o s₀)) where
  pub plain_behind : st.place + 9 ≤ C.end w.st
  plain_behind = end_behind n false ps o st q (unflagged u)

  pub plain_low : Low (write n false ps (at o st)) → C.Low w
  plain_low = end_low n false ps o st q (unflagged u)

  pub plain_written : {w' : Kept} → w' ≡ end_at n st w.st.gaps (C.close w) → w' ≡ write n false ps (at o st)
  plain_written = written n false ps o st q (unflagged u)

-- ---- the kinds, as the code tests for them

module _ (place last g : ℕ) (o : Bytes) (low : place + 9 ≤ last) where
  -- a string that is not moved
  put_same : (x : Bytes) (m k : ℕ) → put x m (take k (drop m x)) ≡ x
  unfolding put
  put_same [] m k = refl
  put_same (b ∷ x) (suc m) k = ap {B = Bytes} (λ r. b ∷ r) (put_same x m k)
  put_same (b ∷ x) zero zero = refl
  put_same (b ∷ x) zero (suc k) = ap {B = Bytes} (λ r. b ∷ r) (put_same x zero k)

  pub no_gaps : g ≡ 0 → o ≡ kinded_if place last g o
  unfolding kinds_at
  no_gaps e =
      let a : place + 9 + g ≡ place + 9 = omega arith in
      let m : moved_up place last g o ≡ o = ap (λ (k : ℕ). put o k (take (last - (place + 9)) (drop (place + 9) o))) a ∙ put_same o (place + 9) (last - (place + 9)) in
      let k : kinded place last g o ≡ o = ap₂ (λ (x : Bytes) (j : ℕ). put x (place + 9) (kinds_at j 0 (drop (place + 9 + g) (moved_up place last g o)))) m e ∙ put_nil o (place + 9) in
      sym (ap (λ (x : Bytes). pick (leb (size_at place last g) 65535 && leb (last + g) (length o)) x o) k ∙ on (leb (size_at place last g) 65535 && leb (last + g) (length o)))
    where
      on : (b : Bool) → pick b o o ≡ o
      on true = refl
      on false = refl

  pub too_long : 65535 < size_at place last g → o ≡ kinded_if place last g o
  too_long h = sym (ap (λ (b : Bool). pick (b && leb (last + g) (length o)) (kinded place last g o) o) (lt-leb (size_at place last g) 65535 h))

  pub no_room : length o < last + g → o ≡ kinded_if place last g o
  no_room h = sym (ap (λ (b : Bool). pick (leb (size_at place last g) 65535 && b) (kinded place last g o) o) (lt-leb (last + g) (length o) h) ∙ on (leb (size_at place last g) 65535))
    where
      on : (b : Bool) → pick (b && false) (kinded place last g o) o ≡ o
      on true = refl
      on false = refl

  pub kinds_put : size_at place last g ≤ 65535 → last + g ≤ length o → {o₁ o₂ : Bytes} → o₁ ≡ moved_up place last g o → o₂ ≡ put o₁ (place + 9) (kinds_at g 0 (drop (place + 9 + g) o₁)) → o₂ ≡ kinded_if place last g o
  kinds_put h k {o₁} {o₂} e f =
      f ∙ ap (λ (x : Bytes). put x (place + 9) (kinds_at g 0 (drop (place + 9 + g) x))) e
      ∙ sym (ap₂ (λ (a b : Bool). pick (a && b) (kinded place last g o) o) (le-leb (size_at place last g) 65535 h) (le-leb (last + g) (length o) k))

-- ---- what comes before the kinds, when the strings are closed

module _ (n : ℕ) (st : Records) (o : Bytes) (s : Open) {o₁ o₂ o₃ o₄ o₅ : Bytes}
    (e₁ : o₁ ≡ put o s.head (head 0x81 s.len))
    (e₂ : o₂ ≡ kinded_if st.place (C.end s) s.gaps o₁)
    (e₃ : o₃ ≡ put o₂ st.place (head 0x84 (size_at st.place (C.end s) s.gaps)))
    (e₄ : o₄ ≡ put o₃ (st.place + 3) (big_endian 4 n []))
    (e₅ : o₅ ≡ put o₄ (st.place + 7) (big_endian 2 s.gaps [])) where
  front_put : o₅ ≡ put o₂ st.place (head 0x84 (size_at st.place (C.end s) s.gaps) ++ big_endian 4 n (big_endian 2 s.gaps []))
  unfolding big_endian
  front_put =
      let h = head 0x84 (size_at st.place (C.end s) s.gaps) in
      put_then o₂ st.place 7 (st.place + 7) (h ++ big_endian 4 n []) (big_endian 2 s.gaps [])
      (put_then o₂ st.place 3 (st.place + 3) h (big_endian 4 n []) e₃ refl refl e₄)
      refl refl e₅

  pub end_is : {d₁ d₂ : Due} → d₁ ≡ graver s.due (long_due (ltb 65535 s.len)) → d₂ ≡ graver d₁ (long_due (ltb 65535 (size_at st.place (C.end s) s.gaps))) →
      at o₅ (record { next = st.next; place = C.end s + s.gaps; due = d₂ }) ≡ end_at n st s.gaps (C.close (C.at o s))
  end_is {d₁} {d₂} q₁ q₂ =
      let z = size_at st.place (C.end s) s.gaps in
      let e = front_put ∙ ap (λ (x : Bytes). put x st.place (head 0x84 z ++ big_endian 4 n (big_endian 2 s.gaps []))) (e₂ ∙ ap (kinded_if st.place (C.end s) s.gaps) e₁) in
      let q = q₂ ∙ ap (λ (x : Due). graver x (long_due (ltb 65535 z))) q₁ in
      λ i. at (e i) (record { next = st.next; place = C.end s + s.gaps; due = q i })
