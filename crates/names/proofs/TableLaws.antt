-- A table of names, sorted by length, each with a mark behind it: its rule is proved by two tests that are computed, one over every
-- entry of the table and one over every name that it has to have.
-- Main statements: `table_mark`, `table_finds`, `table_has`, `lacks`, `table_lacks`, `table_row`, `slot_mark`.
-- Assumes nothing.
use mathlib.Core.Path.{◌≡◌, refl, sym, ap, ap₂, subst, ◌∙◌}
use mathlib.Core.Bool.{Bool, true, false, ◌&&◌, false≢true}
use mathlib.Core.List.{List, [], ◌∷◌}
use Prim.Native.Nat.{ℕ, zero, suc, ◌+◌, ◌-◌, ◌*◌, ◌/◌, ◌%◌, ◌<◌}
use native.Mathlib.Omega.{arith}
use lib.Dec.{leb}
use lib.ListN.{length, get_or, take, drop}
use borrow.Author.Tests.{leb-true}
use Rattle.std.specs.Prelude.{Option, Some, None, is_some, slice_get}
use Rattle.std.proofs.lemmas.Option.{get_or_from_slice_get}
use Rattle.field.specs.Bytes.{Bytes, pick, same, among}
use Rattle.names.specs.Table.{fits_in, row_of, HasRow, mark_from, mark_in}
use Rattle.names.proofs.CompareLaws.{same_eq}
use Rattle.names.proofs.ListLaws.{and_left, and_right, both_ways, refuted, every, every_at, upto, upto_at}
use Rattle.names.proofs.FitsLaws.{fits_length}

pub none_some : {C : Type 0} {m : ℕ} → None ≡ Some m → C
none_some {C = C} e = let P : Option ℕ → Type 0 = λ o. elim o [ None ↦ Unit {0} | Some x ↦ C ] in subst P e tt

-- a row, as the tests below compute it
abbrev pub row_at : Bytes → List ℕ → ℕ → Bytes
row_at t s l = take (get_or s (l + 1) 0 - get_or s l 0) (drop (get_or s l 0) t)

row_is : {r : Bytes} (t : Bytes) (s : List ℕ) (l : ℕ) → r ≡ row_of t s l → r ≡ row_at t s l
unfolding row_of
row_is t s l e = e

-- what is found in the row of a name's length, as the tests have it
pub mark_at : {r : Bytes} {m : Option ℕ} {l : ℕ} (t : Bytes) (s : List ℕ) (n : Bytes) → m ≡ mark_in r n → length n ≡ l → r ≡ row_of t s l → m ≡ mark_in (row_at t s (length n)) n
mark_at t s n p e q = p ∙ ap (λ (row : Bytes). mark_in row n) (row_is t s (length n) (q ∙ ap (row_of t s) (sym e)))

-- ---- every entry

-- the test passes at each name of length l in a row, and its mark
unfoldable pub entries : (Bytes → ℕ → Bool) → ℕ → ℕ → Bytes → Bool
entries f l k [] = true
entries f l (suc k) (c ∷ row) = entries f l k row
entries f l zero (c ∷ row) = f (take l (c ∷ row)) (get_or (c ∷ row) l 0) && entries f l l row

entry_head : (f : Bytes → ℕ → Bool) (n xs : Bytes) (rest : Option ℕ) (b : Bool) → same (take (length n) xs) n ≡ b → f (take (length n) xs) (get_or xs (length n) 0) ≡ true → ((m : ℕ) → rest ≡ Some m → f n m ≡ true) → (m : ℕ) → pick b (slice_get xs (length n)) rest ≡ Some m → f n m ≡ true
entry_head f n xs rest true p t k m q =
    ap₂ f (sym (same_eq (take (length n) xs) n p)) (sym (get_or_from_slice_get xs (length n) m 0 q)) ∙ t
entry_head f n xs rest false p t k m q = k m q

-- so what is found of a name passes the test
entries_at : (f : Bytes → ℕ → Bool) (n : Bytes) (k : ℕ) (row : Bytes) → entries f (length n) k row ≡ true → (m : ℕ) → mark_from n k row ≡ Some m → f n m ≡ true
unfolding entries mark_from
entries_at f n k [] t m e = none_some e
entries_at f n (suc k) (c ∷ row) t m e = entries_at f n k row t m e
entries_at f n zero (c ∷ row) t m e =
    let a = f (take (length n) (c ∷ row)) (get_or (c ∷ row) (length n) 0) in
    let b = entries f (length n) (length n) row in
    entry_head f n (c ∷ row) (mark_from n (length n) row) (same (take (length n) (c ∷ row)) n) refl (and_left a b t) (entries_at f n (length n) row (and_right a b t)) m e

-- the test passes at every entry of a table with names of less than k letters
abbrev pub all_entries : (Bytes → ℕ → Bool) → Bytes → List ℕ → ℕ → Bool
all_entries f t s k = upto (λ l. entries f l 0 (row_at t s l)) k

pub table_mark : (f : Bytes → ℕ → Bool) (t : Bytes) (s : List ℕ) (k : ℕ) → all_entries f t s k ≡ true → (n : Bytes) → length n < k → (m : ℕ) → mark_in (row_at t s (length n)) n ≡ Some m → f n m ≡ true
table_mark f t s k h n l = entries_at f n 0 (row_at t s (length n)) (upto_at (λ m. entries f m 0 (row_at t s m)) k h (length n) l)

-- ---- every name

-- the table has the name
abbrev pub has : Bytes → List ℕ → Bytes → Bool
has t s w = is_some (mark_in (row_at t s (length w)) w)

-- a table of the names xs and of no others, all of less than k letters
pub table_finds : (t : Bytes) (s : List ℕ) (k : ℕ) (xs : List Bytes) (n : Bytes) {r : Bytes} {m : Option ℕ} {l : ℕ} → m ≡ mark_in r n → length n ≡ l → r ≡ row_of t s l → length n < k → all_entries (λ w m. among w xs) t s k ≡ true → every (has t s) xs ≡ true → is_some m ≡ among n xs
table_finds t s k xs n a b c h p q =
    ap is_some (mark_at t s n a b c) ∙ both_ways (is_some (mark_in (row_at t s (length n)) n)) (among n xs) (on (mark_in (row_at t s (length n)) n) refl) (λ a. every_at (has t s) xs q n a)
  where
    on : (o : Option ℕ) → mark_in (row_at t s (length n)) n ≡ o → is_some o ≡ true → among n xs ≡ true
    on None e u = absurd (false≢true u)
    on (Some m) e u = table_mark (λ w m. among w xs) t s k p n h m e

pub table_has : (t : Bytes) (s fs : List ℕ) (xs : List Bytes) (n : Bytes) {r : Bytes} {m : Option ℕ} {l : ℕ} → m ≡ mark_in r n → length n ≡ l → r ≡ row_of t s l → fits_in fs n ≡ true → all_entries (λ w m. among w xs) t s (length fs) ≡ true → every (has t s) xs ≡ true → is_some m ≡ among n xs
table_has t s fs xs n a b c h p q = table_finds t s (length fs) xs n a b c (fits_length fs n h).1 p q

-- what fails a test that all of the names pass is none of them
pub lacks : (f : Bytes → Bool) (xs : List Bytes) (n : Bytes) → f n ≡ false → every f xs ≡ true → among n xs ≡ false
lacks f xs n h q = refuted (among n xs) (λ a. false≢true (sym h ∙ every_at f xs q n a))

-- none of the names has another length or first letter
pub table_lacks : (fs : List ℕ) (xs : List Bytes) (n : Bytes) → fits_in fs n ≡ false → every (fits_in fs) xs ≡ true → among n xs ≡ false
table_lacks fs xs n h q = lacks (fits_in fs) xs n h q

-- ---- where the rows stand

-- the rows follow each other within the table
abbrev pub in_order : ℕ → List ℕ → ℕ → Bool
in_order size s k = upto (λ l. leb (get_or s l 0) (get_or s (l + 1) 0) && leb (get_or s (l + 1) 0) size) k

pub table_row : (size : ℕ) (s : List ℕ) (k : ℕ) → length s ≡ suc k → in_order size s k ≡ true → (l : ℕ) → l < k → HasRow size s l
table_row size s k e h l b =
    let t = upto_at (λ l. leb (get_or s l 0) (get_or s (l + 1) 0) && leb (get_or s (l + 1) 0) size) k h l b in
    let x = leb (get_or s l 0) (get_or s (l + 1) 0) in
    let y = leb (get_or s (l + 1) 0) size in
    record {
      within = omega arith;
      rising = leb-true (get_or s l 0) (get_or s (l + 1) 0) (and_left x y t);
      inside = leb-true (get_or s (l + 1) 0) size (and_right x y t);
    }

-- ---- a table that is sorted by length and first letter

-- where a name of this length and first letter would stand, 32 places a length
abbrev pub slot : Bytes → ℕ
slot n = length n * 32 + get_or n 0 0 % 32

pub slot_at : {r : Bytes} {m : Option ℕ} {j : ℕ} (t : Bytes) (s : List ℕ) (n : Bytes) → m ≡ mark_in r n → slot n ≡ j → r ≡ row_of t s j → m ≡ mark_in (row_at t s (slot n)) n
slot_at t s n p e q = p ∙ ap (λ (row : Bytes). mark_in row n) (row_is t s (slot n) (q ∙ ap (row_of t s) (sym e)))

-- the test passes at every entry of the first k rows
abbrev pub all_slots : (Bytes → ℕ → Bool) → Bytes → List ℕ → ℕ → Bool
all_slots f t s k = upto (λ j. entries f (j / 32) 0 (row_at t s j)) k

pub slot_mark : (f : Bytes → ℕ → Bool) (t : Bytes) (s : List ℕ) (k : ℕ) → all_slots f t s k ≡ true → (n : Bytes) → slot n < k → (m : ℕ) → mark_in (row_at t s (slot n)) n ≡ Some m → f n m ≡ true
slot_mark f t s k h n l =
    let q : length n ≡ slot n / 32 = omega arith in
    entries_at f n 0 (row_at t s (slot n)) (ap (λ j. entries f j 0 (row_at t s (slot n))) q ∙ upto_at (λ j. entries f (j / 32) 0 (row_at t s j)) k h (slot n) l)

abbrev pub has_slot : Bytes → List ℕ → Bytes → Bool
has_slot t s w = is_some (mark_in (row_at t s (slot w)) w)
