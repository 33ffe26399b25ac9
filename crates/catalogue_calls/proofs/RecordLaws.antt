-- The records of templates, one after the other: their numbers told, and raised.
-- Main statements: `recorded_next`, `other_next`, `none_recorded`, `raised_front`.
-- Assumes nothing.
use mathlib.Core.Path.{◌≡◌, refl, sym, ap, ap₂, ◌∙◌, subst}
use mathlib.Core.Bool.{Bool, true, false, ◌&&◌}
use Prim.Native.Nat.{ℕ, zero, suc, ◌+◌, ◌%◌, ◌≤◌}
use native.Mathlib.Omega.{arith}
use mathlib.Core.List.{[], ◌∷◌, ◌++◌}
use lib.Dec.{leb, eqb}
use lib.ListN.{length, take, drop, length-append, length-drop, take-append-drop}
use lib.Seq.{take-take}
use Rattle.std.proofs.lemmas.List.{append_assoc, drop-append-le}
use borrow.Author.Tests.{le-leb, leb-true, eq-eqb, eqb-true, ne_eqb}
use Rattle.field.specs.Bytes.{Bytes, AllBytes, pick}
use Rattle.field.specs.Number.{big_endian, number_of}
use Rattle.field.specs.Row.{Row, end, loose, field, bytes, Inside, only_bytes, fields_after, counted, counted_front, inside, next, next_of, opened, built, read, Ended}
use Rattle.field.specs.Put.{head}
use Rattle.field.specs.Fields.{IsFront, IsEnd}
use Rattle.field.proofs.NumberLaws.{all_drop, length_big_endian}
use Rattle.field.proofs.RowLaws.{Opens, read_step, read_ind, bytes_read, all_parts}
use Rattle.refusal.specs.Refusal.{Fine}
use Rattle.refusal.specs.declared.Refusal.TheVariants as R
use Rattle.refusal.proofs.Verdicts.{refused, after_fine, unless_fine}
use Rattle.page.proofs.Booleans.{is_true}
use Rattle.page.proofs.Steps.{front, inner, row_at}
use Rattle.outs.specs.Templates.{count_of, front_of_record, check_strings, check_strings_of, check_records, check_templates}
use Rattle.outs.specs.declared.Kind.TheVariants.{New}
use Rattle.catalogue.specs.Catalogue.{four}
use Rattle.catalogue.specs.Numbers.{changed, raised}
use Rattle.catalogue.specs.Judged.{recorded_numbers}
use Rattle.catalogue.proofs.Tests.{and_left}
use Rattle.catalogue_calls.specs.Flat.{further}
use Rattle.catalogue_calls.proofs.FlatLaws.{field_written}

-- ---- the numbers

-- four bytes, whatever else stands in front of the strings
four_front : (w : Bytes) → four (take (counted_front 4 w) w) ≡ four w
four_front w = ap number_of (take-take 4 (counted_front 4 w) w (omega arith))

record_inside : (t : ℕ) → t ≡ 0x84 → inside t ≡ counted 4
unfolding inside
record_inside t e = ap inside e

pub none_recorded : {s r : Bytes} → IsEnd s r → recorded_numbers (read s) ≡ []
unfolding recorded_numbers
none_recorded {s} f = on (read s) f.ended
  where
    on : (x : Row) → Ended x → recorded_numbers x ≡ []
    on end e = refl
    on (loose b) e = refl
    on (field t f i r) e = absurd e

module _ {s : Bytes} {t : ℕ} {w r : Bytes} (f : IsFront s t w r) where
  pub recorded_next : t ≡ 0x84 → recorded_numbers (read s) ≡ four w ∷ recorded_numbers (read r)
  unfolding recorded_numbers
  recorded_next e =
      ap recorded_numbers (row_at f) ∙ ap (λ (b : Bool). pick b (four (front (inside t) w) ∷ recorded_numbers (read r)) (recorded_numbers (read r))) (eq-eqb t 0x84 e)
      ∙ ap (λ (k : Inside). four (front k w) ∷ recorded_numbers (read r)) (record_inside t e) ∙ ap (λ (n : ℕ). n ∷ recorded_numbers (read r)) (four_front w)

  pub other_next : (t ≡ 0x84 → ⊥) → recorded_numbers (read s) ≡ recorded_numbers (read r)
  unfolding recorded_numbers
  other_next n = ap recorded_numbers (row_at f) ∙ ap (λ (b : Bool). pick b (four (front (inside t) w) ∷ recorded_numbers (read r)) (recorded_numbers (read r))) (ne_eqb t 0x84 n)

-- ---- the bytes with their numbers raised

-- a record in front: its number, and what lies behind it
pub record RecordFront (n : ℕ) (b : Bytes) (t : ℕ) (w r : Bytes) : Type 0 where
  pub number_there : 4 ≤ length w
  pub rest_right : check_templates New r ≡ Fine
  pub bytes_are : bytes (changed (raised 0x84 n) (read b)) ≡ head t (length w) ++ (further n w ++ (drop 4 w ++ bytes (changed (raised 0x84 n) (read r))))

string_tag : (k t : ℕ) (f : Bytes) (i r : Row) → check_strings k (field t f i r) ≡ Fine → (t ≡ 0x81) × ((j : ℕ) × (check_strings j r ≡ Fine))
unfolding check_strings
string_tag zero t f i r g = refused R.Misplaced g
string_tag (suc k) t f i r g =
    let p = after_fine _ _ g in
    (eqb-true t 0x81 (is_true (eqb t 0x81) (unless_fine _ _ p.0)), (k, (after_fine _ _ p.1).1))

opened_is : (k : Inside) (t : ℕ) (w r : Bytes) → opened k read t w r ≡ field t (front k w) (inner k w) (read r)
unfolding opened
opened_is only_bytes t w r = refl
opened_is (fields_after n) t w r = refl
opened_is (counted n) t w r = refl

module _ (n : ℕ) where
  abbrev m : ℕ → Bytes → Bytes
  m = raised 0x84 n

  other_front : (t : ℕ) (f : Bytes) → eqb t 0x84 ≡ false → m t f ≡ f
  unfolding raised
  other_front t f e = ap (λ (b : Bool). pick (b && leb 4 (length f)) (further n f ++ drop 4 f) f) e

  record_front : (t : ℕ) (f : Bytes) → t ≡ 0x84 → 4 ≤ length f → m t f ≡ further n f ++ drop 4 f
  unfolding raised
  record_front t f e l = ap₂ (λ (a b : Bool). pick (a && b) (further n f ++ drop 4 f) f) (eq-eqb t 0x84 e) (le-leb 4 (length f) l)

  -- no record stands among strings
  Same : Bytes → Row → Type 0
  Same s x = (k : ℕ) → check_strings k x ≡ Fine → changed m x ≡ x

  same_leaf : (s : Bytes) (t : ℕ) (w r : Bytes) → next_of s ≡ next t w r → inside t ≡ only_bytes → Same r (read r) → Same s (field t w end (read r))
  unfolding Same changed
  same_leaf s t w r e q hr k g =
      let z = string_tag k t w end (read r) g in
      ap₂ (λ (f : Bytes) (x : Row). field t f end x) (other_front t w (ne_eqb t 0x84 (λ y. omega (arith, z.0, y)))) (hr z.1.0 z.1.1)

  same_nest : (s : Bytes) (t : ℕ) (w r : Bytes) (j : ℕ) → next_of s ≡ next t w r → Opens (inside t) w j → Same (drop j w) (read (drop j w)) → Same r (read r) → Same s (field t (take j w) (read (drop j w)) (read r))
  unfolding Same inside
  same_nest s t w r j e o hi hr k g =
      let z = string_tag k t (take j w) (read (drop j w)) (read r) g in
      absurd (subst (λ (u : ℕ). Opens (inside u) w j) z.0 o)

  strings_same : (s : Bytes) (k : ℕ) → check_strings k (read s) ≡ Fine → changed m (read s) ≡ read s
  unfolding Same changed
  strings_same = read_ind Same (λ s e k g. refl) (λ s e k g. refl) same_leaf same_nest

  -- a record as the reader has it
  module _ (b : Bytes) (t : ℕ) (w r : Bytes) (e : next_of b ≡ next t w r) (a : AllBytes b) (g : check_templates New b ≡ Fine) where
    f : Bytes
    f = take (counted_front 4 w) w

    strings : Bytes
    strings = drop (counted_front 4 w) w

    read_is : read b ≡ field t (front (inside t) w) (inner (inside t) w) (read r)
    unfolding built
    read_is = read_step b ∙ ap (built read b) e ∙ opened_is (inside t) t w r

    tag_is : t ≡ 0x84
    unfolding check_templates check_records
    tag_is = eqb-true t 0x84 (is_true (eqb t 0x84) (unless_fine _ _ (after_fine _ _ (ap (check_records New) (sym read_is) ∙ g)).0))

    record_is : read b ≡ field t f (read strings) (read r)
    unfolding f strings
    record_is = read_is ∙ ap (λ (k : Inside). field t (front k w) (inner k w) (read r)) (record_inside t tag_is)

    checked : (front_of_record New f ≡ true) × (check_strings (suc (count_of f)) (read strings) ≡ Fine) × (check_templates New r ≡ Fine)
    unfolding check_templates check_records check_strings_of
    checked =
        let c = (after_fine _ _ (ap (check_records New) (sym record_is) ∙ g)).1 in
        let d = (after_fine _ _ c).1 in
        (is_true (front_of_record New f) (unless_fine _ _ (after_fine _ _ c).0), (after_fine _ _ d).0, (after_fine _ _ d).1)

    front_long : 6 ≤ length f
    unfolding front_of_record
    front_long = leb-true 6 (length f) (and_left _ _ checked.0)

    parts_back : f ++ strings ≡ w
    unfolding f strings
    parts_back = take-append-drop (counted_front 4 w) w

    body_long : 6 ≤ length w
    body_long = omega (arith, front_long, ap length parts_back, length-append f strings)

    number_is : four f ≡ four w
    unfolding f
    number_is = four_front w

    all_strings : AllBytes strings
    unfolding strings
    all_strings = all_drop (counted_front 4 w) w (all_parts b t w r e a).body_all

    -- the body with its number further on
    body_is : m t f ++ bytes (changed m (read strings)) ≡ further n w ++ drop 4 w
    body_is =
        ap₂ (λ (x y : Bytes). x ++ y) (record_front t f tag_is (omega (arith, front_long))) (ap bytes (strings_same strings (suc (count_of f)) checked.1) ∙ bytes_read strings all_strings)
        ∙ append_assoc (further n f) (drop 4 f) strings
        ∙ ap₂ (λ (j : ℕ) (y : Bytes). big_endian 4 ((j + n) % 4294967296) [] ++ y) number_is (sym (drop-append-le 4 f strings (omega (arith, front_long))) ∙ ap (drop 4) parts_back)

    body_size : length (m t f ++ bytes (changed m (read strings))) ≡ length w
    body_size = ap length body_is ∙ omega (arith, length-append (further n w) (drop 4 w), length_big_endian 4 ((four w + n) % 4294967296) [], length-drop 4 w, body_long)

    pub raised_front : RecordFront n b t w r
    unfolding changed
    raised_front = record {
      number_there = omega (arith, body_long);
      rest_right = checked.2;
      bytes_are = ap (λ (x : Row). bytes (changed m x)) record_is ∙ field_written t (m t f) (changed m (read strings)) (changed m (read r)) (length w) body_size
          ∙ ap (λ (x : Bytes). head t (length w) ++ x) (sym (append_assoc (m t f) (bytes (changed m (read strings))) (bytes (changed m (read r)))) ∙ ap (λ (x : Bytes). x ++ bytes (changed m (read r))) body_is ∙ append_assoc (further n w) (drop 4 w) (bytes (changed m (read r))));
    }
