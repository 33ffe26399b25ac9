-- The attributes' table: what a mark says of its name is what the name becomes, and a name without one goes to small letters.
-- Main statements: `mark_says`, `mark_none`, `mark_other`, `told_some`, `told_places`, `places_spelled`, `places_one`, `places_two`.
-- Assumes nothing.
use mathlib.Core.Path.{◌≡◌, refl, sym, ap, ap₂, ◌∙◌}
use mathlib.Core.Bool.{Bool, true, false, ◌&&◌, ◌||◌, false≢true}
use mathlib.Core.List.{List, [], ◌∷◌, ◌++◌, append_assoc}
use Prim.Native.Nat.{ℕ, ◌+◌, ◌-◌, ◌/◌, ◌%◌, ◌≤◌, ◌<◌}
use native.Mathlib.Omega.{arith}
use lib.Dec.{leb, ltb}
use lib.ListN.{length, get_or, take, drop, length-append}
use lib.Seq.{length-take-le}
use borrow.Author.Tests.{eq-eqb, ne_eqb, ltb-true, leb-true, le-ltb}
use Rattle.std.specs.Prelude.{Option, Some, None, is_some}
use Rattle.std.proofs.lemmas.List.{take_rest}
use Rattle.field.specs.Bytes.{Bytes, pick, same}
use Rattle.names.specs.Names.{small_letter, small_letters, normalize_dom_attr_name}
use Rattle.text.specs.Escape.{escape_html}
use Rattle.names.specs.Table.{row_of, mark_in, spelled, by_mark, front, by_places, places_are, told}
use Rattle.names.proofs.CompareLaws.{same_eq}
use Rattle.names.proofs.ListLaws.{and_left, and_right, refuted}
use Rattle.names.proofs.NormalizeLaws.{listed, over_lists, normalize_listed, normalize_unlisted}
use Rattle.names.proofs.SpellLaws.{letter_none}
use Rattle.names.proofs.TableLaws.{row_at, slot, slot_at, all_slots, slot_mark, has_slot}

pub told_none : (n : Bytes) → told None n ≡ true
unfolding told
told_none n = refl

-- with nothing before a capital, the letters are the small letters
pub spelled_none : (n : Bytes) → spelled None n ≡ small_letters n
unfolding spelled small_letters
spelled_none [] = refl
spelled_none (c ∷ cs) = ap₂ (λ (a b : Bytes). a ++ b) (sym (letter_none c)) (spelled_none cs)

unlisted_none : (n : Bytes) → listed n ≡ false → by_mark None n ≡ normalize_dom_attr_name n
unfolding by_mark
unlisted_none n h = spelled_none n ∙ sym (normalize_unlisted n h)

-- all listed names pass a test that the name does not pass
pub mark_none : (f : Bytes → Bool) (n : Bytes) → f n ≡ false → over_lists (λ w v. f w) ≡ true → by_mark None n ≡ normalize_dom_attr_name n
mark_none f n h q = unlisted_none n (refuted (listed n) (λ e. false≢true (sym h ∙ normalize_listed (λ w v. f w) q n e)))

-- each entry's mark says what its name becomes, and is told right; and each listed name has an entry
pub mark_says : (t : Bytes) (s : List ℕ) (k : ℕ) (n : Bytes) {r : Bytes} {m : Option ℕ} {j : ℕ} → m ≡ mark_in r n → slot n ≡ j → r ≡ row_of t s j → j < k → all_slots (λ w m. same (by_mark (Some m) w) (normalize_dom_attr_name w) && told (Some m) w) t s k ≡ true → over_lists (λ w v. has_slot t s w) ≡ true → (by_mark m n ≡ normalize_dom_attr_name n) × (told m n ≡ true)
mark_says t s k n {m = m} a e c b p q = let i = slot_at t s n a e c in
    (ap (λ (y : Option ℕ). by_mark y n) i ∙ (on (mark_in (row_at t s (slot n)) n) refl).0, ap (λ (y : Option ℕ). told y n) i ∙ (on (mark_in (row_at t s (slot n)) n) refl).1)
  where
    f : Bytes → ℕ → Bool
    f w m = same (by_mark (Some m) w) (normalize_dom_attr_name w) && told (Some m) w

    on : (o : Option ℕ) → mark_in (row_at t s (slot n)) n ≡ o → (by_mark o n ≡ normalize_dom_attr_name n) × (told o n ≡ true)
    on None z = (unlisted_none n (refuted (listed n) (λ h. false≢true (sym (ap is_some z) ∙ normalize_listed (λ w v. has_slot t s w) q n h))), told_none n)
    on (Some y) z =
        let h = slot_mark f t s k p n (rw e b) y z in
        let u = same (by_mark (Some y) n) (normalize_dom_attr_name n) in
        (same_eq (by_mark (Some y) n) (normalize_dom_attr_name n) (and_left u (told (Some y) n) h), and_right u (told (Some y) n) h)

-- a name that the table does not have goes to small letters
pub unmarked : (o : Option ℕ) (n : Bytes) → o ≡ None → by_mark o n ≡ normalize_dom_attr_name n → spelled None n ≡ normalize_dom_attr_name n
unfolding by_mark
unmarked o n h e = ap (λ (m : Option ℕ). by_mark m n) (sym h) ∙ e

-- ---- what each mark says

pub mark_other : (m : ℕ) (n : Bytes) → (m ≡ 0 → ⊥) → (m ≡ 1 → ⊥) → (m ≡ 2 → ⊥) → (m ≡ 3 → ⊥) → (m ≡ 4 → ⊥) → (m ≡ 5 → ⊥) → by_mark (Some m) n ≡ spelled (Some 45) n
unfolding by_mark
mark_other m n a b c d e f = rw (ne_eqb m 0 a, ne_eqb m 1 b, ne_eqb m 2 c, ne_eqb m 3 d, ne_eqb m 4 e, ne_eqb m 5 f)

pub mark_above : (m : ℕ) (n : Bytes) → 5 < m → by_mark (Some m) n ≡ spelled (Some 45) n
mark_above m n h = mark_other m n (λ e. omega arith) (λ e. omega arith) (λ e. omega arith) (λ e. omega arith) (λ e. omega arith) (λ e. omega arith)

-- no sign of it is escaped
pub told_some : (m : ℕ) (n : Bytes) → told (Some m) n ≡ true → same n (escape_html n) ≡ true
unfolding told
told_some m n h = and_left (same n (escape_html n)) (ltb m 6 || places_are (m / 16) (m % 16) n) h

-- a mark above those of single names tells places
pub told_places : (m : ℕ) (n : Bytes) → 5 < m → told (Some m) n ≡ true → places_are (m / 16) (m % 16) n ≡ true
unfolding told
told_places m n b h =
    let p : ltb m 6 ≡ false = le-ltb m 6 (omega arith) in
    rw p at (and_right (same n (escape_html n)) (ltb m 6 || places_are (m / 16) (m % 16) n) h)

-- what the test of places says
pub places_within : (k d : ℕ) (n : Bytes) → places_are k d n ≡ true → (k + d < length n) × (length n ≤ k + d + 17)
unfolding places_are
places_within k d n h =
    let a = ltb (k + d) (length n) in
    let b = leb (length n) (k + d + 17) in
    let g = and_left (a && b) (same (by_places k d n) (spelled (Some 45) n)) h in
    (ltb-true (k + d) (length n) (and_left a b g), leb-true (length n) (k + d + 17) (and_right a b g))

pub places_spelled : (k d : ℕ) (n : Bytes) → places_are k d n ≡ true → by_places k d n ≡ spelled (Some 45) n
unfolding places_are
places_spelled k d n h =
    same_eq (by_places k d n) (spelled (Some 45) n) (and_right (ltb (k + d) (length n) && leb (length n) (k + d + 17)) (same (by_places k d n) (spelled (Some 45) n)) h)

-- ---- in runs

pub length_front : (k : ℕ) (n : Bytes) → k ≤ length n → length (front k n) ≡ k + 2
unfolding front
length_front k n h = length-append (take k n) (45 ∷ small_letter (get_or n k 0) ∷ []) ∙ ap (λ (x : ℕ). x + 2) (length-take-le k n h)

pub places_one : (k d : ℕ) (n : Bytes) → d ≡ 0 → front k n ++ take (length n - (k + 1)) (drop (k + 1) n) ≡ by_places k d n
unfolding by_places
places_one k d n h =
    ap (λ (r : Bytes). front k n ++ r) (take_rest n (k + 1))
    ∙ ap (λ (b : Bool). front k n ++ pick b (drop (k + 1) n) (front (d - 1) (drop (k + 1) n) ++ drop d (drop (k + 1) n))) (sym (eq-eqb d 0 h))

pub places_two : (k d : ℕ) (n l : Bytes) → (d ≡ 0 → ⊥) → l ≡ drop (k + 1) n → (front k n ++ front (d - 1) l) ++ take (length l - d) (drop d l) ≡ by_places k d n
unfolding by_places
places_two k d n l h e =
    append_assoc (front k n) (front (d - 1) l) (take (length l - d) (drop d l))
    ∙ ap (λ (r : Bytes). front k n ++ (front (d - 1) l ++ r)) (take_rest l d)
    ∙ ap (λ (m : Bytes). front k n ++ (front (d - 1) m ++ drop d m)) e
    ∙ ap (λ (b : Bool). front k n ++ pick b (drop (k + 1) n) (front (d - 1) (drop (k + 1) n) ++ drop d (drop (k + 1) n))) (sym (ne_eqb d 0 h))
