-- What the check of templates says of each record, and what is written of it: the total form of the code against `raised` and `lowered`.
-- Main statements: `record_of`, `fits`, `room`, `raised_is`, `lowered_is`, `bytes_are`, `long_is`. Assumes nothing.
use mathlib.Core.Path.{◌≡◌, refl, sym, ap, ap₂, ◌∙◌, subst}
use mathlib.Core.Bool.{Bool, true, false, ◌&&◌, ◌||◌, not, false≢true}
use mathlib.Core.Option.{Option, none, some}
use Prim.Native.Nat.{ℕ, zero, suc, ◌+◌, ◌-◌, ◌*◌, ◌≤◌}
use native.Mathlib.Omega.{arith}
use mathlib.Core.List.{List, [], ◌∷◌, ◌++◌, append-nil}
use lib.Dec.{T, eqb, leb, ltb, nltb→le}
use lib.ListN.{length, take, drop, length-append, length-drop}
use lib.Seq.{take_at, drop_at}
use borrow.Author.Tests.{eqb-true, leb-true}
use Rattle.std.proofs.Math.Facts.{or_no}
use Rattle.std.proofs.lemmas.Bool.{and_parts}
use Rattle.std.proofs.lemmas.List.{drop-append-le, take-append-le}
use Rattle.refusal.proofs.Verdicts.{refused, after_fine, unless_true}
use Rattle.page.proofs.Booleans.{is_false}
use Rattle.field.specs.Bytes.{Bytes, pick, same}
use Rattle.field.specs.Number.{big_endian, number_of}
use Rattle.field.specs.Row.{Row, end, loose, field, field_bytes, bytes, long_body, only_bytes, counted_front, inside, read}
use Rattle.field.specs.Front.{body_of, behind_of}
use Rattle.field.proofs.NumberLaws.{length_big_endian}
use Rattle.field.proofs.PutLaws.{length_field_bytes}
use Rattle.field.proofs.FrontLaws.{body_written, behind_written}
use Rattle.field.proofs.Reading.{FrontFits, ShapedBy}
use Rattle.field.proofs.RowLaws.{Shaped, read_back, length_bytes}
use Rattle.page.specs.Check.{check_text}
use Rattle.refusal.specs.Refusal.{Verdict, Fine, Refused, after, unless}
use Rattle.refusal.specs.declared.Refusal.{Refusal}
use Rattle.refusal.specs.declared.Refusal.TheVariants as R
use Rattle.page.proofs.TightRows.{short_parts}
use Rattle.outs.specs.Templates.{record_tag, count_of, all_kinds, front_of_record, check_strings, check_any_strings, check_some_strings, check_strings_of, check_records}
use Rattle.outs.specs.declared.Kind.{Kind}
use Rattle.outs.specs.declared.Kind.TheVariants.{Old, New}
use Rattle.spec.specs.Output.{kind_byte, kind_bytes, layout_80, layout_84, strings_row, record_front, record_row}
use Rattle.spec.specs.Demand.{strings_in, kinds_behind}
use Rattle.convert.specs.Kinds.{all_passed, kind_there, kinds_from}
use Rattle.convert.specs.Convert.{before, raised, agrees, lowered}
use Rattle.convert.specs.Flat.{kind_number, kind_marks, all_clear, same_kinds, fields_in, gaps_in, raised_front, strings_at, kinds_at, body_agrees, rewritten_body, body_clear, rewritten_tag, BodyFits, rewritten_bytes, all_bodies_clear, some_body_long}
use Rattle.convert.proofs.KindLaws.{length_marks}
use Rattle.convert.specs.declared.kinds.Markup.{Markup}
use Rattle.convert.specs.declared.kinds.Markup.TheVariants as M

-- ---- strings that are fine

pub any_of : (t : ℕ) (f : Bytes) (i r : Row) → check_any_strings (field t f i r) ≡ Fine → (t ≡ 0x81) × (check_any_strings r ≡ Fine)
unfolding check_any_strings
any_of t f i r h =
    let a = after_fine (unless (eqb t 0x81) R.Misplaced) (λ _. after (check_text f) λ _. check_any_strings r) h in
    let b = after_fine (check_text f) (λ _. check_any_strings r) a.1 in
    (eqb-true t 0x81 (unless_true (eqb t 0x81) R.Misplaced a.0), b.1)

any_more : (k t : ℕ) (f : Bytes) (i r : Row) → check_strings (suc k) (field t f i r) ≡ Fine → check_any_strings r ≡ Fine → check_any_strings (field t f i r) ≡ Fine
unfolding check_strings check_any_strings after
any_more k t f i r h g =
    let a = after_fine (unless (eqb t 0x81) R.Misplaced) (λ _. after (check_text f) λ _. check_strings k r) h in
    let b = after_fine (check_text f) (λ _. check_strings k r) a.1 in
    rw (a.0, b.0) g

rest_strings : (k t : ℕ) (f : Bytes) (i r : Row) → check_strings (suc k) (field t f i r) ≡ Fine → check_strings k r ≡ Fine
unfolding check_strings
rest_strings k t f i r h =
    let a = after_fine (unless (eqb t 0x81) R.Misplaced) (λ _. after (check_text f) λ _. check_strings k r) h in
    (after_fine (check_text f) (λ _. check_strings k r) a.1).1

counted_strings : (k : ℕ) (x : Row) → check_strings k x ≡ Fine → (check_any_strings x ≡ Fine) × (fields_in x ≡ k)
unfolding check_strings check_any_strings fields_in
counted_strings zero end h = (refl, refl)
counted_strings zero (loose b) h = refused _ h
counted_strings zero (field t f i r) h = refused _ h
counted_strings (suc k) end h = refused _ h
counted_strings (suc k) (loose b) h = refused _ h
counted_strings (suc k) (field t f i r) h =
    let g = counted_strings k r (rest_strings k t f i r h) in
    (any_more k t f i r h g.0, ap suc g.1)

some_strings : (x : Row) → check_some_strings x ≡ Fine → (check_any_strings x ≡ Fine) × (1 ≤ fields_in x)
unfolding check_some_strings fields_in
some_strings end h = refused _ h
some_strings (loose b) h = refused _ h
some_strings (field t f i r) h = (h, omega arith)

-- ---- a record that is fine

pub record RecordIs (k : Kind) (t : ℕ) (f : Bytes) (i r : Row) : Type 0 where
  pub tag_is : t ≡ record_tag k
  pub front_is : front_of_record k f ≡ true
  pub strings_are : check_any_strings i ≡ Fine
  pub some : 1 ≤ fields_in i
  pub rest_is : check_records k r ≡ Fine

strings_of : (k : Kind) (f : Bytes) (i : Row) → check_strings_of k f i ≡ Fine → (check_any_strings i ≡ Fine) × (1 ≤ fields_in i)
unfolding check_strings_of
strings_of Old f i h = some_strings i h
strings_of New f i h = let g = counted_strings (suc (count_of f)) i h in (g.0, omega (arith, g.1))

module _ (k : Kind) (t : ℕ) (f : Bytes) (i r : Row) (h : check_records k (field t f i r) ≡ Fine) where
  parts : (unless (eqb t (record_tag k)) R.Misplaced ≡ Fine) × (unless (front_of_record k f) R.Misplaced ≡ Fine) × (check_strings_of k f i ≡ Fine) × (check_records k r ≡ Fine)
  unfolding check_records
  parts =
      let a = after_fine (unless (eqb t (record_tag k)) R.Misplaced) (λ _. after (unless (front_of_record k f) R.Misplaced) λ _. after (check_strings_of k f i) λ _. check_records k r) h in
      let b = after_fine (unless (front_of_record k f) R.Misplaced) (λ _. after (check_strings_of k f i) λ _. check_records k r) a.1 in
      let c = after_fine (check_strings_of k f i) (λ _. check_records k r) b.1 in
      (a.0, b.0, c.0, c.1)

  pub record_of : RecordIs k t f i r
  record_of =
      let s = strings_of k f i parts.2 in
      record {
        tag_is = eqb-true t (record_tag k) (unless_true (eqb t (record_tag k)) R.Misplaced parts.0);
        front_is = unless_true (front_of_record k f) R.Misplaced parts.1;
        strings_are = s.0;
        some = s.1;
        rest_is = parts.3;
      }

  pub strings_checked : check_strings_of k f i ≡ Fine
  strings_checked = parts.2

-- ---- the front of a record that is fine

pub old_front : (f : Bytes) → front_of_record Old f ≡ true → length f ≡ 2
unfolding front_of_record
old_front f h = eqb-true (length f) 2 h

pub record NewFront (f : Bytes) : Type 0 where
  pub long_enough : 6 ≤ length f
  pub length_is : length f ≡ 6 + count_of f

pub new_front : (f : Bytes) → front_of_record New f ≡ true → NewFront f
unfolding front_of_record
new_front f h =
    let a = and_parts (leb 6 (length f)) (eqb (length f) (6 + count_of f) && all_kinds (drop 6 f)) h in
    let b = and_parts (eqb (length f) (6 + count_of f)) (all_kinds (drop 6 f)) a.1 in
    record { long_enough = leb-true 6 (length f) a.0; length_is = eqb-true (length f) (6 + count_of f) b.0 }

-- the body of an 84, in front and strings
module _ (f b : Bytes) (n : NewFront f) where
  new_counted : counted_front 4 (f ++ b) ≡ length f
  new_counted =
      let p : drop 4 (f ++ b) ≡ drop 4 f ++ b = drop-append-le 4 f b (omega (arith, n.long_enough)) in
      let q : take 2 (drop 4 f ++ b) ≡ take 2 (drop 4 f) = take-append-le 2 (drop 4 f) b (omega (arith, length-drop 4 f, n.long_enough)) in
      let e : counted_front 4 (f ++ b) ≡ 6 + count_of f = ap (λ (x : Bytes). 6 + number_of x) (ap (take 2) p ∙ q) in
      e ∙ sym n.length_is

  new_strings : strings_at (f ++ b) ≡ b
  new_strings = ap (λ (x : ℕ). drop x (f ++ b)) new_counted ∙ drop_at f b (length f) refl

  new_kinds : kinds_at (f ++ b) ≡ drop 6 f
  new_kinds =
      let p : drop 6 (f ++ b) ≡ drop 6 f ++ b = drop-append-le 6 f b n.long_enough in
      ap₂ (λ (x : ℕ) (y : Bytes). take (x - 6) y) new_counted p ∙ take_at (drop 6 f) b (length f - 6) (length-drop 6 f)

  new_number : take 4 (f ++ b) ≡ take 4 f
  new_number = take-append-le 4 f b (omega (arith, n.long_enough))

module _ (f b : Bytes) (l : length f ≡ 2) where
  old_strings : drop 2 (f ++ b) ≡ b
  old_strings = drop_at f b 2 l

  old_number : take 2 (f ++ b) ≡ f
  old_number = take_at f b 2 l

-- what a record's body has is there
fits_by : (k : Kind) (f b : Bytes) → front_of_record k f ≡ true → BodyFits k (f ++ b)
fits_by Old f b h = omega (arith, old_front f h, length-append f b)
fits_by New f b h = (omega (arith, (new_front f h).long_enough, length-append f b), omega (arith, new_counted f b (new_front f h), length-append f b))

pub fits : (k : Kind) (t : ℕ) (f : Bytes) (i r : Row) → check_records k (field t f i r) ≡ Fine → BodyFits k (f ++ bytes i)
fits k t f i r h = fits_by k f (bytes i) (record_of k t f i r h).front_is

-- ---- how long

pub old_length : (w : Bytes) → length (rewritten_body Old w) ≡ 6 + gaps_in (drop 2 w) + length (drop 2 w)
unfolding rewritten_body
old_length w =
    let g : ℕ = gaps_in (drop 2 w) in
    let ks : Bytes = kind_marks g M.Outside (drop 2 w) in
    omega (arith, length-append (raised_front w) (drop 2 w), length_big_endian 4 (number_of (take 2 w)) (big_endian 2 g ks), length_big_endian 2 g ks, length_marks g M.Outside (drop 2 w))

pub new_length : (w : Bytes) → length (rewritten_body New w) ≡ 2 + length (strings_at w)
unfolding rewritten_body
new_length w = omega (arith, length-append (big_endian 2 (number_of (take 4 w)) []) (strings_at w), length_big_endian 2 (number_of (take 4 w)) [])

-- three bytes for a field at the least
fields_long : (x : Row) → 3 * fields_in x ≤ length (bytes x)
unfolding fields_in
fields_long end = omega arith
fields_long (loose b) = omega arith
fields_long (field t f i r) = omega (arith, length_bytes t f i r, fields_long r)

-- ---- the strings of a row that is fine

-- a row of strings as bytes read, and a row of records
pub record Strings (i : Row) : Type 0 where
  pub fine : check_any_strings i ≡ Fine
  pub shaped : ShapedBy inside i
  pub short : T (not (long_body i))

pub record Sound (k : Kind) (x : Row) : Type 0 where
  pub fine : check_records k x ≡ Fine
  pub shaped : ShapedBy inside x
  pub short : T (not (long_body x))

-- a string holds its text alone
pub text_by : (f : Bytes) (i : Row) → FrontFits only_bytes f i → i ≡ end
unfolding FrontFits
text_by f end h = refl
text_by f (loose b) h = absurd h
text_by f (field t g i r) h = absurd h

text_alone : (t : ℕ) (f : Bytes) (i : Row) → t ≡ 0x81 → FrontFits (inside t) f i → i ≡ end
unfolding inside
text_alone t f i e h = text_by f i (subst (λ (x : ℕ). FrontFits (inside x) f i) e h)

record Text (t : ℕ) (f : Bytes) (j r : Row) : Type 0 where
  tag_is : t ≡ 0x81
  alone : j ≡ end
  body_short : length (f ++ bytes j) ≤ 65535
  rest : Strings r

text_of : (t : ℕ) (f : Bytes) (j r : Row) → Strings (field t f j r) → Text t f j r
unfolding long_body
text_of t f j r s =
    let a = any_of t f j r s.fine in
    let p = short_parts t f j r s.short in
    record {
      tag_is = a.0;
      alone = text_alone t f j a.0 s.shaped.0;
      body_short = p.0;
      rest = record { fine = a.1; shaped = s.shaped.2; short = p.2 };
    }

loose_not : (b : Bytes) → check_any_strings (loose b) ≡ Fine → ⊥
unfolding check_any_strings
loose_not b h = refused _ h

row_again : (i : Row) → Strings i → strings_row (strings_in i) ≡ i
unfolding strings_row strings_in
row_again end s = refl
row_again (loose b) s = absurd (loose_not b s.fine)
row_again (field t f j r) s =
    let p = text_of t f j r s in
    ap (λ (x : Row). field 0x81 f end x) (row_again r p.rest) ∙ ap₂ (λ (x : ℕ) (y : Row). field x f y r) (sym p.tag_is) (sym p.alone)

front_text : (t : ℕ) (f : Bytes) (j r : Row) → Text t f j r → body_of (bytes (field t f j r)) ≡ f
unfolding bytes
front_text t f j r p = body_written t (f ++ bytes j) (bytes r) p.body_short ∙ ap (λ (x : Row). f ++ bytes x) p.alone ∙ append-nil f

front_behind : (t : ℕ) (f : Bytes) (j r : Row) → Text t f j r → behind_of (bytes (field t f j r)) ≡ bytes r
unfolding bytes
front_behind t f j r p = behind_written t (f ++ bytes j) (bytes r) p.body_short

-- ---- kinds by the strings

unfoldable pub by_marks : Markup → List Bytes → Bytes
by_marks m [] = []
by_marks m (s ∷ []) = []
by_marks m (s ∷ t ∷ ss) = kind_number (all_passed m s) ∷ by_marks (all_passed m s) (t ∷ ss)

unfoldable kinds_of : Bytes → List Bool
kinds_of [] = []
kinds_of (k ∷ ks) = eqb k 1 ∷ kinds_of ks

length_kinds_of : (b : Bytes) → length (kinds_of b) ≡ length b
unfolding kinds_of
length_kinds_of [] = refl
length_kinds_of (k ∷ ks) = ap suc (length_kinds_of ks)

pub marks_are : (i : Row) (m : Markup) → Strings i → kind_marks (fields_in i - 1) m (bytes i) ≡ by_marks m (strings_in i)
unfolding fields_in strings_in by_marks kind_marks
marks_are end m s = refl
marks_are (loose b) m s = absurd (loose_not b s.fine)
marks_are (field t f j end) m s = refl
marks_are (field t f j (loose b)) m s = absurd (loose_not b (text_of t f j (loose b) s).rest.fine)
marks_are (field t f j (field u g l q)) m s =
    let r : Row = field u g l q in
    let p = text_of t f j r s in
    let n : suc (suc (fields_in q)) - 1 ≡ suc (suc (fields_in q) - 1) = omega arith in
    ap (λ (x : ℕ). kind_marks x m (bytes (field t f j r))) n
    ∙ ap₂ (λ (x y : Bytes). kind_number (all_passed m x) ∷ kind_marks (suc (fields_in q) - 1) (all_passed m x) y) (front_text t f j r p) (front_behind t f j r p)
    ∙ ap (λ (x : Bytes). kind_number (all_passed m f) ∷ x) (marks_are (field u g l q) (all_passed m f) p.rest)

there : (m : Markup) → kind_there m ≡ pick (leb 1 (kind_number m)) (some (eqb (kind_number m) 1)) none
unfolding kind_there kind_number
there M.Outside = refl
there M.Entered = refl
there M.Opening = refl
there M.Spaced = refl
there M.Closing = refl
there M.Crossed = refl

-- as `kinds_from` joins them
abbrev joined : Option Bool → Option (List Bool) → Option (List Bool)
joined x y = elim x [ none ↦ none | some k ↦ elim y [ none ↦ none | some ks ↦ some (k ∷ ks) ] ]

joined_is : (c d : Bool) (k : Bool) (ks : List Bool) → joined (pick c (some k) none) (pick d (some ks) none) ≡ pick (c && d) (some (k ∷ ks)) none
joined_is false d k ks = refl
joined_is true false k ks = refl
joined_is true true k ks = refl

kinds_are : (m : Markup) (ss : List Bytes) → kinds_from m ss ≡ pick (all_clear (by_marks m ss)) (some (kinds_of (by_marks m ss))) none
unfolding kinds_from by_marks all_clear kinds_of
kinds_are m [] = refl
kinds_are m (s ∷ []) = refl
kinds_are m (s ∷ t ∷ ss) =
    let n : Markup = all_passed m s in
    let b : Bytes = by_marks (all_passed m s) (t ∷ ss) in
    ap₂ joined (there n) (kinds_are (all_passed m s) (t ∷ ss)) ∙ joined_is (leb 1 (kind_number n)) (all_clear b) (eqb (kind_number n) 1) (kinds_of b)

kind_one : (m : Markup) → leb 1 (kind_number m) ≡ true → kind_byte (eqb (kind_number m) 1) ≡ kind_number m
unfolding kind_number
kind_one M.Outside h = refl
kind_one M.Entered h = absurd (false≢true h)
kind_one M.Opening h = absurd (false≢true h)
kind_one M.Spaced h = refl
kind_one M.Closing h = absurd (false≢true h)
kind_one M.Crossed h = absurd (false≢true h)

kind_back : (m : Markup) (ss : List Bytes) → all_clear (by_marks m ss) ≡ true → kind_bytes (kinds_of (by_marks m ss)) ≡ by_marks m ss
unfolding by_marks all_clear kinds_of kind_bytes
kind_back m [] h = refl
kind_back m (s ∷ []) h = refl
kind_back m (s ∷ t ∷ ss) h =
    let p = and_parts (leb 1 (kind_number (all_passed m s))) (all_clear (by_marks (all_passed m s) (t ∷ ss))) h in
    ap₂ (λ (x : ℕ) (y : Bytes). x ∷ y) (kind_one (all_passed m s) p.0) (kind_back (all_passed m s) (t ∷ ss) p.1)

abbrev agreed : Bytes → Option (List Bool) → Bool
agreed f o = elim o [ none ↦ false | some ks ↦ same (kinds_behind f) (kind_bytes ks) ]

agreed_is : (f b : Bytes) (ks : List Bool) (c : Bool) → (c ≡ true → kind_bytes ks ≡ b) → agreed f (pick c (some ks) none) ≡ (c && same (kinds_behind f) b)
agreed_is f b ks true h = ap (same (kinds_behind f)) (h refl)
agreed_is f b ks false h = refl

pub agrees_is : (f : Bytes) (ss : List Bytes) → agrees f ss ≡ same_kinds (kinds_behind f) (by_marks M.Outside ss)
unfolding agrees same_kinds
agrees_is f ss =
    let b : Bytes = by_marks M.Outside ss in
    ap (agreed f) (kinds_are M.Outside ss) ∙ agreed_is f b (kinds_of b) (all_clear b) (kind_back M.Outside ss)

-- ---- the rows that are written

unfoldable pub rewritten_front : Kind → Bytes → Row → Bytes
rewritten_front Old f i = big_endian 4 (number_of f) (big_endian 2 (length (by_marks M.Outside (strings_in i))) (by_marks M.Outside (strings_in i)))
rewritten_front New f i = big_endian 2 (number_of (take 4 f)) []

unfoldable pub rewritten : Kind → Row → Row
rewritten k end = end
rewritten k (loose b) = end
rewritten k (field t f i r) = field (rewritten_tag k) (rewritten_front k f i) i (rewritten k r)

pub rest_sound : (k : Kind) (t : ℕ) (f : Bytes) (i r : Row) → Sound k (field t f i r) → Sound k r × Strings i
unfolding long_body
rest_sound k t f i r s =
    let d = record_of k t f i r s.fine in
    let p = short_parts t f i r s.short in
    (record { fine = d.rest_is; shaped = s.shaped.2; short = p.2 }, record { fine = d.strings_are; shaped = s.shaped.1; short = p.1 })

module _ (i : Row) (s : Strings i) where
  strings_back : read (bytes i) ≡ i
  unfolding Shaped
  strings_back = read_back i s.shaped s.short

  gaps_are : gaps_in (bytes i) ≡ fields_in i - 1
  gaps_are = ap (λ (x : Row). fields_in x - 1) strings_back

  marks_by : kind_marks (gaps_in (bytes i)) M.Outside (bytes i) ≡ by_marks M.Outside (strings_in i)
  marks_by = ap (λ (x : ℕ). kind_marks x M.Outside (bytes i)) gaps_are ∙ marks_are i M.Outside s

  gaps_counted : gaps_in (bytes i) ≡ length (by_marks M.Outside (strings_in i))
  gaps_counted = sym (length_marks (gaps_in (bytes i)) M.Outside (bytes i)) ∙ ap length marks_by

  old_body : (f : Bytes) → length f ≡ 2 → rewritten_body Old (f ++ bytes i) ≡ rewritten_front Old f i ++ bytes i
  unfolding rewritten_body rewritten_front
  old_body f l = rw (old_strings f (bytes i) l, old_number f (bytes i) l, marks_by, gaps_counted)

  old_clear : (f : Bytes) → length f ≡ 2 → body_clear Old (f ++ bytes i) ≡ all_clear (by_marks M.Outside (strings_in i))
  unfolding body_clear
  old_clear f l = rw (old_strings f (bytes i) l, marks_by)

  new_body : (f : Bytes) → NewFront f → rewritten_body New (f ++ bytes i) ≡ rewritten_front New f i ++ bytes i
  unfolding rewritten_body rewritten_front
  new_body f n = rw (new_strings f (bytes i) n, new_number f (bytes i) n)

  -- as many kinds as gaps
  pub new_agrees : (f : Bytes) → NewFront f → fields_in i ≡ suc (count_of f) → body_agrees (f ++ bytes i) ≡ agrees f (strings_in i)
  new_agrees f n e =
      let c : length (drop 6 f) ≡ fields_in i - 1 = omega (arith, length-drop 6 f, n.length_is) in
      let m : kind_marks (length (drop 6 f)) M.Outside (bytes i) ≡ by_marks M.Outside (strings_in i) = ap (λ (x : ℕ). kind_marks x M.Outside (bytes i)) c ∙ marks_are i M.Outside s in
      rw (new_strings f (bytes i) n, new_kinds f (bytes i) n, m, agrees_is f (strings_in i))

  pub new_clear : (f : Bytes) → NewFront f → fields_in i ≡ suc (count_of f) → body_clear New (f ++ bytes i) ≡ (leb (number_of (take 4 f)) 65535 && agrees f (strings_in i))
  unfolding body_clear
  new_clear f n e = rw (new_number f (bytes i) n, new_agrees f n e)

body_is : (k : Kind) (t : ℕ) (f : Bytes) (i r : Row) → Sound k (field t f i r) → rewritten_body k (f ++ bytes i) ≡ rewritten_front k f i ++ bytes i
body_is Old t f i r s = old_body i (rest_sound Old t f i r s).1 f (old_front f (record_of Old t f i r s.fine).front_is)
body_is New t f i r s = new_body i (rest_sound New t f i r s).1 f (new_front f (record_of New t f i r s.fine).front_is)

pub records_not : (k : Kind) (b : Bytes) → check_records k (loose b) ≡ Fine → ⊥
unfolding check_records
records_not k b h = refused _ h

pub bytes_are : (k : Kind) (x : Row) → Sound k x → bytes (rewritten k x) ≡ rewritten_bytes k x
unfolding bytes rewritten rewritten_bytes
bytes_are k end s = refl
bytes_are k (loose b) s = refl
bytes_are k (field t f i r) s = ap₂ (λ (x y : Bytes). field_bytes (rewritten_tag k) x ++ y) (sym (body_is k t f i r s)) (bytes_are k r (rest_sound k t f i r s).0)

pub long_is : (k : Kind) (x : Row) → Sound k x → long_body (rewritten k x) ≡ some_body_long k x
unfolding long_body rewritten some_body_long
long_is k end s = refl
long_is k (loose b) s = refl
long_is k (field t f i r) s =
    let p = rest_sound k t f i r s in
    rw (body_is k t f i r s, is_false (long_body i) p.1.short, long_is k r p.0)

-- ---- up

raised_row : (f : Bytes) (i : Row) → Strings i → all_clear (by_marks M.Outside (strings_in i)) ≡ true → (r : Row) → record_row layout_84 (number_of f) (kinds_of (by_marks M.Outside (strings_in i))) (strings_in i) r ≡ field 0x84 (rewritten_front Old f i) i r
unfolding record_row record_front rewritten_front
raised_row f i s q r = rw (kind_back M.Outside (strings_in i) q, length_kinds_of (by_marks M.Outside (strings_in i)), row_again i s)

abbrev raised_by : Bytes → List Bytes → Option (List Bool) → Option Row → Option Row
raised_by f ss o z = elim o [ none ↦ none | some ks ↦ before (record_row layout_84 (number_of f) ks ss) z ]

raised_cases : (f : Bytes) (ss : List Bytes) (ks : List Bool) (r : Row) (c d : Bool) → raised_by f ss (pick c (some ks) none) (pick d (some r) none) ≡ pick (c && d) (some (record_row layout_84 (number_of f) ks ss r)) none
raised_cases f ss ks r false d = refl
raised_cases f ss ks r true false = refl
raised_cases f ss ks r true true = refl

pick_same : (c d : Bool) (x y : Row) → (c ≡ true → x ≡ y) → pick (c && d) (some x) none ≡ pick (c && d) (some y) none
pick_same false d x y h = refl
pick_same true d x y h = ap (λ (z : Row). pick d (some z) none) (h refl)

pub raised_is : (x : Row) → Sound Old x → raised x ≡ pick (all_bodies_clear Old x) (some (rewritten Old x)) none
unfolding raised all_bodies_clear rewritten
raised_is end s = refl
raised_is (loose b) s = absurd (records_not Old b s.fine)
raised_is (field t f i r) s =
    let p = rest_sound Old t f i r s in
    let ss : List Bytes = strings_in i in
    let b : Bytes = by_marks M.Outside ss in
    let c : Bool = all_clear b in
    let d : Bool = all_bodies_clear Old r in
    let x : Row = record_row layout_84 (number_of f) (kinds_of b) ss (rewritten Old r) in
    let y : Row = field 0x84 (rewritten_front Old f i) i (rewritten Old r) in
    let e : body_clear Old (f ++ bytes i) ≡ c = old_clear i p.1 f (old_front f (record_of Old t f i r s.fine).front_is) in
    ap₂ (raised_by f ss) (kinds_are M.Outside ss) (raised_is r p.0)
    ∙ raised_cases f ss (kinds_of b) (rewritten Old r) c d
    ∙ pick_same c d x y (λ q. raised_row f i p.1 q (rewritten Old r))
    ∙ ap (λ (z : Bool). pick (z && d) (some y) none) (sym e)

-- ---- down

lowered_row : (f : Bytes) (i : Row) → Strings i → (r : Row) → record_row layout_80 (number_of (take 4 f)) [] (strings_in i) r ≡ field 0x80 (rewritten_front New f i) i r
unfolding record_row record_front rewritten_front
lowered_row f i s r = rw (row_again i s)

pub new_counts : (t : ℕ) (f : Bytes) (i r : Row) → Sound New (field t f i r) → fields_in i ≡ suc (count_of f)
unfolding check_strings_of
new_counts t f i r s = (counted_strings (suc (count_of f)) i (strings_checked New t f i r s.fine)).1

lowered_cases : (c d : Bool) (f : Row → Row) (r : Row) → pick c (before f (pick d (some r) none)) none ≡ pick (c && d) (some (f r)) none
lowered_cases false d f r = refl
lowered_cases true false f r = refl
lowered_cases true true f r = refl

pub lowered_is : (x : Row) → Sound New x → lowered x ≡ pick (all_bodies_clear New x) (some (rewritten New x)) none
unfolding lowered all_bodies_clear rewritten
lowered_is end s = refl
lowered_is (loose b) s = absurd (records_not New b s.fine)
lowered_is (field t f i r) s =
    let p = rest_sound New t f i r s in
    let ss : List Bytes = strings_in i in
    let c : Bool = leb (number_of (take 4 f)) 65535 && agrees f ss in
    let d : Bool = all_bodies_clear New r in
    let g : Row → Row = record_row layout_80 (number_of (take 4 f)) [] ss in
    let e : body_clear New (f ++ bytes i) ≡ c = new_clear i p.1 f (new_front f (record_of New t f i r s.fine).front_is) (new_counts t f i r s) in
    ap (λ (z : Option Row). pick c (before g z) none) (lowered_is r p.0)
    ∙ lowered_cases c d g (rewritten New r)
    ∙ ap (λ (z : Row). pick (c && d) (some z) none) (lowered_row f i p.1 (rewritten New r))
    ∙ ap (λ (z : Bool). pick (z && d) (some (field 0x80 (rewritten_front New f i) i (rewritten New r))) none) (sym e)

-- ---- room

body_room : (k : Kind) (t : ℕ) (f : Bytes) (i r : Row) → Sound k (field t f i r) → 3 + length (rewritten_body k (f ++ bytes i)) ≤ 2 * (3 + length f + length (bytes i))
body_room Old t f i r s =
    let l : length f ≡ 2 = old_front f (record_of Old t f i r s.fine).front_is in
    let g = gaps_are i (rest_sound Old t f i r s).1 in
    let d : drop 2 (f ++ bytes i) ≡ bytes i = old_strings f (bytes i) l in
    let e : length (rewritten_body Old (f ++ bytes i)) ≡ 6 + gaps_in (bytes i) + length (bytes i) = old_length (f ++ bytes i) ∙ ap (λ (x : Bytes). 6 + gaps_in x + length x) d in
    omega (arith, e, g, fields_long i)
body_room New t f i r s =
    let n = new_front f (record_of New t f i r s.fine).front_is in
    let e : length (rewritten_body New (f ++ bytes i)) ≡ 2 + length (bytes i) = new_length (f ++ bytes i) ∙ ap (λ (x : Bytes). 2 + length x) (new_strings f (bytes i) n) in
    omega (arith, e)

pub room : (k : Kind) (x : Row) → Sound k x → length (rewritten_bytes k x) ≤ 2 * length (bytes x)
unfolding rewritten_bytes
room k end s = omega arith
room k (loose b) s = omega arith
room k (field t f i r) s =
    let w : Bytes = rewritten_body k (f ++ bytes i) in
    omega (arith, length-append (field_bytes (rewritten_tag k) w) (rewritten_bytes k r), length_field_bytes (rewritten_tag k) w, length_bytes t f i r, body_room k t f i r s, room k r (rest_sound k t f i r s).0)
