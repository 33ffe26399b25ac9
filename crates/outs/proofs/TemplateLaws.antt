-- What the tests of the code say of records and their strings. Main statements: `any_rowwise`, `string_next`, `string_other`, `string_missing`,
-- `strings_end`, `kinds_is`, `old_short`, `old_none`, `old_strings`, `new_short`, `new_long`, `new_kinds`, `new_strings`, `record_rowwise`.
-- Assumes nothing.
use mathlib.Core.Path.{◌≡◌, refl, sym, ap, ap₂, ◌∙◌, subst}
use mathlib.Core.Bool.{Bool, true, false, ◌&&◌}
use Prim.Native.Nat.{ℕ, zero, suc, ◌+◌, ◌-◌, ◌*◌, ◌≤◌, ◌<◌}
use native.Mathlib.Omega.{arith}
use native.Mathlib.Numerals.{add-one}
use mathlib.Core.List.{[], ◌∷◌}
use lib.Dec.{eqb, leb}
use lib.ListN.{length, take, drop, get_or, length-take, length-drop}
use lib.Seq.{drop-cons, drop-drop, take_all, take-take, length-take-le}
use borrow.Author.Tests.{eq-eqb, ne_eqb, le-leb, lt-leb, eqb-true, eqb-false}
use Rattle.field.specs.Bytes.{Bytes}
use Rattle.field.specs.Number.{number_from, number_of}
use Rattle.field.specs.Row.{Row, end, loose, field, Inside, only_bytes, fields_after, counted, counted_front, inside, Next, nothing, no_field, next, next_of, opened, built, read}
use Rattle.field.specs.Fields.{IsFront, IsEnd}
use Rattle.std.specs.Bool.{MatchBool}
use Rattle.std.specs.List.{AllWithin, HoldsAt, IsSplitAt}
use Rattle.field.proofs.RowLaws.{read_step, next_nothing}
use Rattle.page.specs.Check.{check_text, check_end, check_nothing_after}
use Rattle.page.specs.CheckField.{check_missing}
use Rattle.refusal.specs.Refusal.{Verdict, Fine, Refused, after, unless}
use Rattle.refusal.specs.declared.Refusal.TheVariants as R
use Rattle.page.proofs.Steps.{Then, front, inner, row_at, ended, tested}
use Rattle.loops.proofs.Parts.{drop_take}
use Rattle.loops.proofs.Headers.{read_empty}
use Rattle.outs.specs.Templates.{record_tag, count_of, all_kinds, front_of_record, check_strings, check_any_strings, check_some_strings, check_strings_of, check_records}
use Rattle.outs.specs.Passed.{Rowwise, front_then, record_body}
use Rattle.outs.specs.declared.Kind.{Kind}
use Rattle.outs.specs.declared.Kind.TheVariants.{Old, New}

-- ---- rows field by field

none_in_front : (b : Bytes) → length b ≡ 0 → read b ≡ end
unfolding read
none_in_front b h = read_empty inside b h

module _ {tag : ℕ} {right : Bytes → Verdict} {rows : Row → Verdict} (q : Rowwise tag right rows) {s : Bytes} {t : ℕ} {w r : Bytes} (f : IsFront s t w r) where
  -- k is the tag as the code has it
  pub row_next : {k : ℕ} → k ≡ tag → Then (rows (read s)) (unless (eqb t k) R.Misplaced) (after (right w) λ _. rows (read r))
  row_next e = record { then_is = q.field_by_field f ∙ rw e refl }

-- ---- strings

pub any_rowwise : Rowwise 0x81 check_text check_any_strings
unfolding check_any_strings check_nothing_after after inside
any_rowwise =
    record {
      field_by_field = λ {s} {t} f. tested t 0x81 (λ k. ap check_any_strings (row_at f) ∙ rw k refl) (λ n. ap check_any_strings (row_at f) ∙ rw (ne_eqb t 0x81 n) refl);
      then_nothing = ended check_nothing_after check_any_strings refl (λ b. refl);
    }

module _ (k : ℕ) {y : Verdict} where
  module _ {s : Bytes} {t : ℕ} {w r : Bytes} (f : IsFront s t w r) where
    pub string_next : 0 < k → y ≡ check_strings k (read s) → t ≡ 0x81 → Then y (check_text w) (check_strings (k - 1) (read r))
    unfolding check_strings after inside
    string_next l e z = on k l e
      where
        on : (j : ℕ) → 0 < j → y ≡ check_strings j (read s) → Then y (check_text w) (check_strings (j - 1) (read r))
        on zero l e = absurd (omega arith)
        on (suc j) l e =
            let m : j ≡ suc j - 1 = omega arith in
            record { then_is = e ∙ ap (check_strings (suc j)) (row_at f) ∙ rw z refl ∙ ap (λ (i : ℕ). after (check_text w) λ _. check_strings i (read r)) m }

    pub string_other : 0 < k → y ≡ check_strings k (read s) → (t ≡ 0x81 → ⊥) → Refused R.Misplaced ≡ y
    unfolding check_strings after
    string_other l e n = on k l e
      where
        on : (j : ℕ) → 0 < j → y ≡ check_strings j (read s) → Refused R.Misplaced ≡ y
        on zero l e = absurd (omega arith)
        on (suc j) l e = sym (e ∙ ap (check_strings (suc j)) (row_at f) ∙ rw (ne_eqb t 0x81 n))

  pub string_missing : {s r : Bytes} → IsEnd s r → 0 < k → y ≡ check_strings k (read s) → check_missing (read r) ≡ y
  unfolding check_strings check_missing
  string_missing {s} {r} f l e = on k l e
    where
      on : (j : ℕ) → 0 < j → y ≡ check_strings j (read s) → check_missing (read r) ≡ y
      on zero l e = absurd (omega arith)
      on (suc j) l e = ended check_missing (check_strings (suc j)) refl (λ b. refl) f ∙ sym e

no_more : (x : Row) → check_end x ≡ check_strings zero x
unfolding check_strings check_end
no_more end = refl
no_more (loose b) = refl
no_more (field t f i r) = refl

pub strings_end : {y r : Verdict} (k : ℕ) (b : Bytes) → k ≡ 0 → y ≡ check_strings k (read b) → r ≡ check_end (read b) → r ≡ y
strings_end k b z p q = q ∙ no_more (read b) ∙ sym (p ∙ ap (λ (x : ℕ). check_strings x (read b)) z)

pub one_less : (n i : ℕ) (b : Bytes) → check_strings (n - i - 1) (read b) ≡ check_strings (n - (i + 1)) (read b)
one_less n i b = let e : n - i - 1 ≡ n - (i + 1) = omega arith in ap (λ (k : ℕ). check_strings k (read b)) e

-- ---- kinds

abbrev pub is_kind : ℕ → Bool
is_kind k = leb 1 k && leb k 2

each_kind : (s : Bytes) → ((i : ℕ) → i < length s → is_kind (get_or s i 0) ≡ true) → true ≡ all_kinds s
unfolding all_kinds
each_kind [] f = refl
each_kind (k ∷ s) f = rw (f 0 (omega arith)) (each_kind s (λ i l. f (suc i) (omega arith)))

no_kind : (s : Bytes) (i : ℕ) → i < length s → is_kind (get_or s i 0) ≡ false → false ≡ all_kinds s
unfolding all_kinds
no_kind [] i l e = absurd (omega arith)
no_kind (k ∷ s) zero l e = rw e
no_kind (k ∷ s) (suc i) l e = on (is_kind k) (no_kind s i (omega arith) e)
  where
    on : (x : Bool) → false ≡ all_kinds s → false ≡ (x && all_kinds s)
    on true z = z
    on false z = refl

pub kinds_is : (s : Bytes) (b : Bool) → MatchBool b (AllWithin (λ k. is_kind k ≡ true) s 0 (length s)) ((i : ℕ) × (i < length s) × HoldsAt (λ k. is_kind k ≡ false) s i) → b ≡ all_kinds s
kinds_is s true t = each_kind s (λ i l. t i 0 (omega arith) l)
kinds_is s false t = no_kind s t.0 t.1 (t.2 0)

-- ---- the body of an 80

some_by : (b : Bytes) (n : Next) → next_of b ≡ n → (length b ≡ 0 → ⊥) → check_some_strings (built read b n) ≡ check_any_strings (built read b n)
unfolding check_some_strings check_any_strings built opened
some_by b nothing e z = absurd (z (ap length (next_nothing b e)))
some_by b no_field e z = refl
some_by b (next t w r) e z = on (inside t)
  where
    on : (c : Inside) → check_some_strings (opened c read t w r) ≡ check_any_strings (opened c read t w r)
    on only_bytes = refl
    on (fields_after n) = refl
    on (counted n) = refl

some_any : (b : Bytes) → (length b ≡ 0 → ⊥) → check_some_strings (read b) ≡ check_any_strings (read b)
some_any b z = ap check_some_strings (read_step b) ∙ some_by b (next_of b) refl z ∙ sym (ap check_any_strings (read_step b))

pub old_short : (w : Bytes) → length w < 3 → Refused R.Misplaced ≡ record_body Old w
unfolding after front_of_record check_strings_of check_some_strings
old_short [] h = refl
old_short (x ∷ []) h = refl
old_short (x ∷ y ∷ []) h = sym (ap check_some_strings (none_in_front [] refl))
old_short (x ∷ y ∷ z ∷ w) h = absurd (omega arith)

module _ (w : Bytes) (l : 2 ≤ length w) where
  strings_are : take (length w - 2) (drop 2 w) ≡ drop 2 w
  strings_are = take_all (length w - 2) (drop 2 w) (omega (arith, length-drop 2 w))

  strings_length : length (take (length w - 2) (drop 2 w)) ≡ length w - 2
  strings_length = ap length strings_are ∙ length-drop 2 w

  pub old_none : eqb (length (take (length w - 2) (drop 2 w))) 0 ≡ true → Refused R.Misplaced ≡ record_body Old w
  old_none e = old_short w (omega (arith, eqb-true (length (take (length w - 2) (drop 2 w))) 0 e, strings_length))

  pub old_strings : eqb (length (take (length w - 2) (drop 2 w))) 0 ≡ false → {r : Verdict} → r ≡ check_any_strings (read (take (length w - 2) (drop 2 w))) → r ≡ record_body Old w
  unfolding after front_of_record check_strings_of
  old_strings e {r} q =
      let f : eqb (length (take 2 w)) 2 ≡ true = eq-eqb (length (take 2 w)) 2 (length-take-le 2 w l) in
      let some : length (take (length w - 2) (drop 2 w)) ≡ 0 → ⊥ = eqb-false (length (take (length w - 2) (drop 2 w))) 0 e in
      q ∙ ap (λ (x : Bytes). check_any_strings (read x)) strings_are ∙ sym (some_any (drop 2 w) (λ z. some (ap length strings_are ∙ z))) ∙ rw f

-- ---- the body of an 84

pub new_short : (w : Bytes) → length w < 6 → Refused R.Misplaced ≡ record_body New w
unfolding after front_of_record
new_short w h =
    let f : Bytes = take (counted_front 4 w) w in
    let k : leb 6 (length f) ≡ false = lt-leb 6 (length f) (omega (arith, length-take (counted_front 4 w) w)) in
    rw k

module _ (w : Bytes) (l : 6 ≤ length w) where
  count_is : number_of (take 2 (drop 4 w)) ≡ get_or w 4 0 * 256 + get_or w 5 0
  unfolding number_from
  count_is = rw (drop-cons w 4 0 (omega arith), drop-cons w 5 0 (omega arith)) (omega arith)

  module _ (n : ℕ) (q : n ≡ get_or w 4 0 * 256 + get_or w 5 0) where
    body_is : record_body New w ≡ front_then New (take (6 + n) w) (read (drop (6 + n) w))
    body_is =
        let k : counted_front 4 w ≡ 6 + n = omega (arith, count_is) in
        ap (λ (x : ℕ). front_then New (take x w) (read (drop x w))) k

    taken_count : count_of (take (6 + n) w) ≡ n
    taken_count =
        let a : drop 4 (take (6 + n) w) ≡ take (6 + n - 4) (drop 4 w) = drop_take 4 (6 + n) w in
        let b : take 2 (take (6 + n - 4) (drop 4 w)) ≡ take 2 (drop 4 w) = take-take 2 (6 + n - 4) (drop 4 w) (omega arith) in
        ap number_of (ap (take 2) a ∙ b) ∙ count_is ∙ sym q

    abbrev rest : Bytes
    rest = take (length w - 6) (drop 6 w)

    rest_is : rest ≡ drop 6 w
    rest_is = take_all (length w - 6) (drop 6 w) (omega (arith, length-drop 6 w))

    pub new_long : length rest < n → Refused R.Misplaced ≡ record_body New w
    unfolding after front_of_record
    new_long h =
        let f : Bytes = take (6 + n) w in
        let k : eqb (length f) (6 + count_of f) ≡ false = ne_eqb (length f) (6 + count_of f) (λ z. omega (arith, taken_count, length-take (6 + n) w, ap length rest_is, length-drop 6 w)) in
        let j : leb 6 (length f) ≡ true = le-leb 6 (length f) (omega (arith, length-take (6 + n) w)) in
        sym (body_is ∙ rw (j, k))

    module _ {ks ss : Bytes} (h : IsSplitAt rest n ks ss) {v : Bool} (g : v ≡ all_kinds ks) where
      fits : 6 + n ≤ length w
      fits = omega (arith, h.0, ap length rest_is, length-drop 6 w)

      front_is : front_of_record New (take (6 + n) w) ≡ v
      unfolding front_of_record
      front_is =
          let f : Bytes = take (6 + n) w in
          let t : length f ≡ 6 + n = length-take-le (6 + n) w fits in
          let k : eqb (length f) (6 + count_of f) ≡ true = eq-eqb (length f) (6 + count_of f) (omega (arith, taken_count)) in
          let j : leb 6 (length f) ≡ true = le-leb 6 (length f) (omega arith) in
          let m : 6 + n - 6 ≡ n = omega arith in
          let d : drop 6 f ≡ ks = drop_take 6 (6 + n) w ∙ ap (λ (x : ℕ). take x (drop 6 w)) m ∙ ap (take n) (sym rest_is) ∙ sym h.1 in
          rw (j, k, d, g)

      pub new_kinds : v ≡ false → Refused R.Misplaced ≡ record_body New w
      unfolding after
      new_kinds z = sym (body_is ∙ rw (front_is, z))

      pub new_strings : v ≡ true → {r : Verdict} → r ≡ check_strings (n + 1) (read ss) → r ≡ record_body New w
      unfolding after check_strings_of
      new_strings z {r} s =
          let a : ss ≡ drop (6 + n) w = h.2 ∙ ap (drop n) rest_is ∙ drop-drop n 6 w in
          s ∙ ap₂ (λ (x : ℕ) (y : Bytes). check_strings x (read y)) (add-one n ∙ ap suc (sym taken_count)) a ∙ sym (body_is ∙ rw (front_is, z))

-- ---- a record

after_after : (v : Verdict) (f g : Unit {0} → Verdict) → after v (λ u. after (f u) g) ≡ after (after v f) g
unfolding after
after_after Fine f g = refl
after_after (Refused n) f g = refl

-- a record by its tag and body, as the row has it
abbrev row_of : ℕ → Bytes → Row → Row
row_of t w r = field t (front (inside t) w) (inner (inside t) w) r

record_by : (k : Kind) (t : ℕ) (w : Bytes) (r : Row) (x : Bool) → eqb t (record_tag k) ≡ x → check_records k (row_of t w r) ≡ after (unless (eqb t (record_tag k)) R.Misplaced) λ _. after (record_body k w) λ _. check_records k r
unfolding after check_records inside
record_by k t w r false p = rw p
record_by Old t w r true p =
    subst (λ (y : ℕ). check_records Old (row_of y w r) ≡ after (unless (eqb y 0x80) R.Misplaced) λ _. after (record_body Old w) λ _. check_records Old r) (sym (eqb-true t 0x80 p))
    (after_after (unless (front_of_record Old (take 2 w)) R.Misplaced) (λ _. check_strings_of Old (take 2 w) (read (drop 2 w))) λ _. check_records Old r)
record_by New t w r true p =
    subst (λ (y : ℕ). check_records New (row_of y w r) ≡ after (unless (eqb y 0x84) R.Misplaced) λ _. after (record_body New w) λ _. check_records New r) (sym (eqb-true t 0x84 p))
    (after_after (unless (front_of_record New (take (counted_front 4 w) w)) R.Misplaced) (λ _. check_strings_of New (take (counted_front 4 w) w) (read (drop (counted_front 4 w) w))) λ _. check_records New r)

pub record_rowwise : (k : Kind) → Rowwise (record_tag k) (record_body k) (check_records k)
unfolding check_nothing_after check_records
record_rowwise k =
    record {
      field_by_field = λ {s} {t} {w} {r} f. ap (check_records k) (row_at f) ∙ record_by k t w (read r) (eqb t (record_tag k)) refl;
      then_nothing = ended check_nothing_after (check_records k) refl (λ b. refl);
    }
