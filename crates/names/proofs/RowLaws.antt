-- Laws of a row of names, each with a mark behind it, walked from one name to the next.
-- Main statements: `row_found`, `row_passed`, `row_ended`, which are what a search does at a place of the row.
-- Assumes nothing.
use mathlib.Core.Path.{◌≡◌, refl, ap, ◌∙◌}
use mathlib.Core.Bool.{Bool, true, false}
use mathlib.Core.List.{[], ◌∷◌}
use Prim.Native.Nat.{ℕ, zero, suc, ◌+◌, ◌≤◌, ◌<◌}
use native.Mathlib.Nat.{not-suc-le-zero}
use native.Mathlib.Numerals.{add-one}
use native.Mathlib.Omega.{arith}
use lib.ListN.{length, get_or, take, drop, length-drop, drop_of_length-le}
use lib.Seq.{drop-drop, get_or-drop, get_or-take, length-take-le}
use Rattle.std.specs.Prelude.{Option, Some, None, slice_get}
use Rattle.std.proofs.lemmas.Option.{slice_get_past, slice_get-get_or}
use Rattle.field.specs.Bytes.{Bytes, pick, same}
use Rattle.names.specs.Table.{mark_from, mark_in}

-- bytes passed over first are dropped
pub mark_skip : (n : Bytes) (k : ℕ) (row : Bytes) → mark_from n k row ≡ mark_in (drop k row) n
unfolding mark_from
mark_skip n zero row = refl
mark_skip n (suc k) [] = refl
mark_skip n (suc k) (c ∷ row) = mark_skip n k row

mark_step : (n row : Bytes) → length n < length row → mark_in row n ≡ pick (same (take (length n) row) n) (slice_get row (length n)) (mark_in (drop (suc (length n)) row) n)
unfolding mark_from
mark_step n [] h = absurd (not-suc-le-zero h)
mark_step n (c ∷ row) h =
    ap (λ (m : Option ℕ). pick (same (take (length n) (c ∷ row)) n) (slice_get (c ∷ row) (length n)) m) (mark_skip n (length n) row)

none : (b : Bool) {x y : Option ℕ} → x ≡ None → y ≡ None → pick b x y ≡ None
none true p q = p
none false p q = q

mark_end : (n row : Bytes) → length row ≤ length n → mark_in row n ≡ None
unfolding mark_from
mark_end n [] h = refl
mark_end n (c ∷ row) h =
    none (same (take (length n) (c ∷ row)) n) (slice_get_past (c ∷ row) (length n) h)
    (let k : length row ≤ length n = omega arith in mark_skip n (length n) row ∙ ap (λ (l : Bytes). mark_in l n) (drop_of_length-le row k))

-- the name that stands at place p of the row, and its letters
pub length_entry : (row : Bytes) (p w : ℕ) → p + w ≤ length row → length (take w (drop p row)) ≡ w
length_entry row p w h = length-take-le w (drop p row) (omega (arith, length-drop p row))

pub entry_letter : (row : Bytes) (p w i : ℕ) → i < w → get_or (take w (drop p row)) i 0 ≡ get_or row (p + i) 0
entry_letter row p w i h = rw (get_or-take w (drop p row) i 0 h, get_or-drop p row i 0)

-- it is the name: the mark behind it is the answer
pub row_found : (row n : Bytes) (p w : ℕ) → length n ≡ w → p + w < length row → same (take w (drop p row)) n ≡ true → mark_in (drop p row) n ≡ Some (get_or row (p + w) 0)
row_found row n p w l h e =
    let k : length n < length (drop p row) = omega (arith, length-drop p row) in mark_step n (drop p row) k ∙ rw (slice_get-get_or (drop p row) (length n) 0 k, l, e, get_or-drop p row w 0)

-- it is another: the next one decides
pub row_passed : (row n : Bytes) (p w : ℕ) → length n ≡ w → p + w < length row → same (take w (drop p row)) n ≡ false → mark_in (drop p row) n ≡ mark_in (drop (p + (w + 1)) row) n
row_passed row n p w l h e =
    mark_step n (drop p row) (omega (arith, length-drop p row)) ∙ rw (l, e, drop-drop (suc w) p row, ← add-one w)

-- no whole name is left
pub row_ended : (row n : Bytes) (p w : ℕ) → length n ≡ w → length row ≤ p + w → mark_in (drop p row) n ≡ None
row_ended row n p w l h = mark_end n (drop p row) (omega (arith, length-drop p row))
