-- A template's record, by its layout: how long its front is, what the front says, and that it reads back from its bytes.
-- Main statements: `record_shaped`, `record_back` for every layout, `back_80`, `back_84`; of an 84's front `front_number`, `front_count`,
-- `front_kinds`. Assumes nothing.
use Prim.Native.Nat.{ℕ, suc, ◌+◌, ◌≤◌}
use native.Mathlib.Omega.{arith}
use mathlib.Core.Path.{◌≡◌, refl, sym, ap, ap₂, ◌∙◌, subst}
use mathlib.Core.Bool.{Bool, true, false, ◌&&◌, ◌||◌, not}
use mathlib.Core.List.{List, [], ◌∷◌, ◌++◌}
use lib.Dec.{T, eqb, ltb, nltb→le}
use lib.ListN.{length, take, drop, length-append}
use lib.Seq.{take_at, take_all, drop_at}
use borrow.Author.Tests.{le-leb}
use Rattle.std.proofs.Math.Facts.{or_no}
use Rattle.field.specs.Bytes.{Bytes, pick}
use Rattle.field.specs.Number.{big_endian, number_of}
use Rattle.field.specs.Row.{Row, end, bytes, long_body, Inside, only_bytes, fields_after, counted, counted_front, inside_by, read_by}
use Rattle.field.proofs.NumberLaws.{length_big_endian, big_endian_append, two_read}
use Rattle.field.proofs.Reading.{FrontFits, ShapedBy, front_full, front_counted, back}
use Rattle.page.proofs.TightRows.{short_parts}
use Rattle.spec.specs.Output.{Layout, layout_80, layout_84, kind_bytes, strings_row, record_front, record_row}
use Rattle.spec.specs.Demand.{begins, count_in, kinds_behind}

pub length_kinds : (ks : List Bool) → length (kind_bytes ks) ≡ length ks
unfolding kind_bytes
length_kinds [] = refl
length_kinds (k ∷ ks) = ap suc (length_kinds ks)

-- ---- of any layout

-- what its body holds
abbrev pub held_in : Layout → Inside
held_in l = pick l.kinded (counted l.width) (fields_after l.width)

-- behind the number: a count and the kinds, or nothing
abbrev after_number : Bool → List Bool → Bytes
after_number k ks = pick k (big_endian 2 (length ks) (kind_bytes ks)) []

-- a front with kinds says by itself how long it is, where two bytes hold their count
front_says : (w n : ℕ) (ks : List Bool) → length ks ≤ 65535 → let f = big_endian w n (after_number true ks) in length f ≡ counted_front w f
front_says w n ks h =
    let acc : Bytes = big_endian 2 (length ks) (kind_bytes ks) in
    let f : Bytes = big_endian w n acc in
    let split : f ≡ big_endian w n [] ++ acc = big_endian_append w n acc in
    let behind : drop w f ≡ acc = ap (drop w) split ∙ drop_at (big_endian w n []) acc w (length_big_endian w n [] ∙ omega arith) in
    let two : take 2 acc ≡ big_endian 2 (length ks) [] = ap (take 2) (big_endian_append 2 (length ks) (kind_bytes ks)) ∙ take_at (big_endian 2 (length ks) []) (kind_bytes ks) 2 (length_big_endian 2 (length ks) []) in
    let count : number_of (take 2 (drop w f)) ≡ length ks = ap (λ (x : Bytes). number_of (take 2 x)) behind ∙ ap number_of two ∙ two_read (length ks) h in
    omega (arith, count, length_big_endian w n acc, length_big_endian 2 (length ks) (kind_bytes ks), length_kinds ks)

front_fits : (k : Bool) (w n : ℕ) (ks : List Bool) (i : Row) → (T k → length ks ≤ 65535) → FrontFits (pick k (counted w) (fields_after w)) (big_endian w n (after_number k ks)) i
front_fits true w n ks i h = front_counted w (big_endian w n (after_number true ks)) i (front_says w n ks (h tt))
front_fits false w n ks i h = front_full w (big_endian w n []) i (length_big_endian w n [] ∙ omega arith)

-- a body that is not long counts no more than two bytes hold
module _ (l : Layout) (n : ℕ) (ks : List Bool) (ss : List Bytes) (r : Row) (short : T (not (long_body (record_row l n ks ss r)))) where
  pub rest_short : T (not (long_body r))
  unfolding long_body record_row
  rest_short =
      (short_parts l.tag (record_front l n ks) (strings_row ss) r short).2

  body_short : length (record_front l n ks) ≤ 65535
  unfolding long_body record_row
  body_short =
      let f : Bytes = record_front l n ks in
      let i : Row = strings_row ss in
      let h : length (f ++ bytes i) ≤ 65535 = (short_parts l.tag f i r short).0 in
      omega (arith, length-append f (bytes i))

  pub kinds_few : T l.kinded → length ks ≤ 65535
  unfolding record_front
  kinds_few = on l.kinded body_short
    where
      on : (k : Bool) → length (big_endian l.width n (after_number k ks)) ≤ 65535 → T k → length ks ≤ 65535
      on true h t = omega (arith, length_big_endian l.width n (after_number true ks), length_big_endian 2 (length ks) (kind_bytes ks), length_kinds ks)
      on false h t = absurd t

-- any reading that knows the layout reads it back
module _ (held : ℕ → Inside) (texts : held 0x81 ≡ only_bytes) (l : Layout) (knows : held l.tag ≡ held_in l) where
  pub strings_shaped : (ss : List Bytes) → ShapedBy held (strings_row ss)
  unfolding strings_row FrontFits
  strings_shaped [] = tt
  strings_shaped (s ∷ ss) = (subst (λ (c : Inside). FrontFits c s end) (sym texts) tt, tt, strings_shaped ss)

  pub record_shaped : (n : ℕ) (ks : List Bool) (ss : List Bytes) (r : Row) → (T l.kinded → length ks ≤ 65535) → ShapedBy held r → ShapedBy held (record_row l n ks ss r)
  unfolding record_row record_front
  record_shaped n ks ss r few s = (subst (λ (c : Inside). FrontFits c (record_front l n ks) (strings_row ss)) (sym knows) (front_fits l.kinded l.width n ks (strings_row ss) few), strings_shaped ss, s)

  pub record_back : (n : ℕ) (ks : List Bool) (ss : List Bytes) (r : Row) → ShapedBy held r → T (not (long_body (record_row l n ks ss r))) → read_by held (bytes (record_row l n ks ss r)) ≡ record_row l n ks ss r
  record_back n ks ss r s short = back held (record_row l n ks ss r) (record_shaped n ks ss r (kinds_few l n ks ss r short) s) short

-- both records, whatever the width of the number in a 90
module _ (width n : ℕ) (ks : List Bool) (ss : List Bytes) (r : Row) (s : ShapedBy (inside_by width) r) where
  pub back_80 : T (not (long_body (record_row layout_80 n ks ss r))) → read_by (inside_by width) (bytes (record_row layout_80 n ks ss r)) ≡ record_row layout_80 n ks ss r
  back_80 short = record_back (inside_by width) refl layout_80 refl n ks ss r s short

  pub back_84 : T (not (long_body (record_row layout_84 n ks ss r))) → read_by (inside_by width) (bytes (record_row layout_84 n ks ss r)) ≡ record_row layout_84 n ks ss r
  back_84 short = record_back (inside_by width) refl layout_84 refl n ks ss r s short

-- ---- the front of an 84

module _ (n : ℕ) (ks : List Bool) where
  pub front_length : length (record_front layout_84 n ks) ≡ 6 + length ks
  unfolding record_front
  front_length = omega (arith, length_big_endian 4 n (after_number true ks), length_big_endian 2 (length ks) (kind_bytes ks), length_kinds ks)

  -- it begins with its number, as a 90 does
  pub front_number : (m : ℕ) → begins m (record_front layout_84 n ks) ≡ begins m (big_endian 4 n [])
  unfolding begins record_front
  front_number m =
      let acc : Bytes = after_number true ks in
      let f : Bytes = big_endian 4 n acc in
      let split : f ≡ big_endian 4 n [] ++ acc = big_endian_append 4 n acc in
      let four : take 4 f ≡ big_endian 4 n [] = ap (take 4) split ∙ take_at (big_endian 4 n []) acc 4 (length_big_endian 4 n []) in
      let a : take 4 (big_endian 4 n []) ≡ big_endian 4 n [] = take_all 4 (big_endian 4 n []) (omega (arith, length_big_endian 4 n [])) in
      ap₂ (λ (b : Bool) (x : Bytes). b && eqb (number_of x) m) (le-leb 4 (length f) (omega (arith, length_big_endian 4 n acc)) ∙ sym (le-leb 4 (length (big_endian 4 n [])) (omega (arith, length_big_endian 4 n [])))) (four ∙ sym a)

  pub front_count : length ks ≤ 65535 → count_in (record_front layout_84 n ks) ≡ length ks
  unfolding record_front big_endian
  front_count h = two_read (length ks) h

  pub front_kinds : kinds_behind (record_front layout_84 n ks) ≡ kind_bytes ks
  unfolding record_front big_endian
  front_kinds = refl
