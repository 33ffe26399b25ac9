-- The parts of a record that is checked, and its strings one by one. Main statements: `parts_are`, `string_front`, `string_last`.
-- Assumes nothing.
use mathlib.Core.Path.{◌≡◌, refl, sym, ap, ap₂, ◌∙◌}
use mathlib.Core.Bool.{◌&&◌}
use Prim.Native.Nat.{ℕ, suc, ◌+◌, ◌-◌, ◌≤◌}
use native.Mathlib.Omega.{arith}
use mathlib.Core.List.{List, [], ◌∷◌}
use lib.Dec.{T, eqb, leb, leb→le, eqb→eq}
use lib.ListN.{length, take, drop, length-take, length-drop}
use lib.Seq.{take_all, take-take}
use Rattle.field.specs.Bytes.{Bytes}
use Rattle.field.specs.Number.{number_of}
use Rattle.field.specs.Row.{Row, end, loose, field, counted_front, inside, read, Ended}
use Rattle.field.specs.Fields.{IsFront, IsEnd}
use Rattle.page.specs.Check.{check_text}
use Rattle.refusal.specs.Refusal.{Fine, after, unless}
use Rattle.refusal.specs.declared.Refusal.TheVariants as R
use Rattle.page.proofs.Steps.{front, inner, row_at}
use Rattle.refusal.proofs.Verdicts.{refused, after_fine, unless_fine}
use Rattle.page.proofs.Booleans.{and_both}
use Rattle.loops.proofs.Parts.{drop_take}
use Rattle.outs.specs.Templates.{count_of, all_kinds, front_of_record, check_strings, check_strings_of}
use Rattle.outs.specs.Passed.{record_body}
use Rattle.outs.specs.declared.Kind.TheVariants.{New}
use Rattle.spec.specs.Demand.{strings_in}
use Rattle.fill.specs.Writing.{PartsAre}

-- ---- the parts of a record

module _ (w : Bytes) (h : record_body New w ≡ Fine) where
  abbrev before : Bytes
  before = take (counted_front 4 w) w

  abbrev strings : Bytes
  strings = drop (counted_front 4 w) w

  checks : T (front_of_record New before) × (check_strings (suc (count_of before)) (read strings) ≡ Fine)
  unfolding check_strings_of
  checks =
      let a = after_fine (unless (front_of_record New before) R.Misplaced) (λ _. check_strings_of New before (read strings)) h in
      (unless_fine (front_of_record New before) R.Misplaced a.0, a.1)

  front_is : (6 ≤ length before) × (length before ≡ 6 + count_of before)
  unfolding front_of_record
  front_is =
      let a = and_both (leb 6 (length before)) (eqb (length before) (6 + count_of before) && all_kinds (drop 6 before)) checks.0 in
      let b = and_both (eqb (length before) (6 + count_of before)) (all_kinds (drop 6 before)) a.1 in
      (leb→le 6 (length before) a.0, eqb→eq (length before) (6 + count_of before) b.0)

  pub has_six : 6 ≤ length w
  has_six = omega (arith, front_is.0, length-take (counted_front 4 w) w)

  -- the count, and what it says of the length
  count_is : count_of before ≡ number_of (take 2 (drop 4 w))
  count_is = ap number_of (ap (take 2) (drop_take 4 (counted_front 4 w) w) ∙ take-take 2 (counted_front 4 w - 4) (drop 4 w) (omega arith))

  pub has_front : counted_front 4 w ≤ length w
  has_front = omega (arith, front_is.1, count_is, length-take (counted_front 4 w) w)

  -- f is the front's length as the code has it
  module _ {f : ℕ} (front_at : f ≡ counted_front 4 w) where
    kinds_at : take (f - 6) (drop 6 w) ≡ drop 6 before
    kinds_at = ap (λ (x : ℕ). take (x - 6) (drop 6 w)) front_at ∙ sym (drop_take 6 (counted_front 4 w) w)

    strings_at : take (length w - f) (drop f w) ≡ strings
    strings_at = take_all (length w - f) (drop f w) (omega (arith, length-drop f w)) ∙ ap (λ (x : ℕ). drop x w) front_at

    pub parts_are : PartsAre w (take (f - 6) (drop 6 w)) (take (length w - f) (drop f w))
    parts_are =
        let k : count_of before ≡ length (take (f - 6) (drop 6 w)) = omega (arith, front_is.1, ap length kinds_at, length-drop 6 before) in
        record {
          kinds_are = kinds_at;
          strings_are = ap (λ (x : Bytes). strings_in (read x)) strings_at;
          one_more = ap₂ (λ (x : ℕ) (y : Bytes). check_strings (suc x) (read y)) (sym k) strings_at ∙ checks.1;
          short = omega (arith, ap length strings_at, length-drop (counted_front 4 w) w);
        }

-- ---- its strings

module _ (k : ℕ) {s : Bytes} (c : check_strings (suc k) (read s) ≡ Fine) where
  module _ {t : ℕ} {w r : Bytes} (f : IsFront s t w r) where
    string_checked : (t ≡ 0x81) × (check_strings k (read r) ≡ Fine)
    unfolding check_strings
    string_checked =
        let h : check_strings (suc k) (field t (front (inside t) w) (inner (inside t) w) (read r)) ≡ Fine = ap (check_strings (suc k)) (sym (row_at f)) ∙ c in
        let a = after_fine (unless (eqb t 0x81) R.Misplaced) (λ _. after (check_text (front (inside t) w)) λ _. check_strings k (read r)) h in
        let b = after_fine (check_text (front (inside t) w)) (λ _. check_strings k (read r)) a.1 in
        (eqb→eq t 0x81 (unless_fine (eqb t 0x81) R.Misplaced a.0), b.1)

    pub strings_left : check_strings k (read r) ≡ Fine
    strings_left = string_checked.1

    pub string_front : strings_in (read s) ≡ w ∷ strings_in (read r)
    unfolding strings_in inside
    string_front = ap strings_in (row_at f) ∙ ap (λ (x : ℕ). front (inside x) w ∷ strings_in (read r)) string_checked.0

  -- one is left
  pub string_there : {r : Bytes} → IsEnd s r → ⊥
  string_there e = on (read s) e.ended c
    where
      on : (x : Row) → Ended x → check_strings (suc k) x ≡ Fine → ⊥
      on end i h = refused R.Misplaced (unfold check_strings in h)
      on (loose b) i h = refused R.Truncated (unfold check_strings in h)
      on (field t g i r) j h = j

no_string : (x : Row) → check_strings 0 x ≡ Fine → strings_in x ≡ []
unfolding check_strings strings_in
no_string end h = refl
no_string (loose b) h = refl
no_string (field t f i r) h = refused R.Misplaced h

pub string_last : {s : Bytes} → check_strings 1 (read s) ≡ Fine → {t : ℕ} {w r : Bytes} → IsFront s t w r → strings_in (read s) ≡ w ∷ []
string_last {s} c {t} {w} {r} f = string_front 0 c f ∙ ap (λ (x : List Bytes). w ∷ x) (no_string (read r) (strings_left 0 c f))
