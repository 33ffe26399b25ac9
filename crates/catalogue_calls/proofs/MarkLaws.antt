-- Laws of marks: the bit of a place, read and set. Main statements: `mark_found`, `marks_place`, `no_mark`. Assumes nothing.
use Prim.Native.Nat.{ℕ, ◌≤◌, ◌*◌, ◌/◌, ◌%◌, ◌^◌, ◌<◌}
use mathlib.Core.Path.{◌≡◌, sym, ◌∙◌}
use mathlib.Core.Bool.{true, false}
use mathlib.Core.List.{List}
use mathlib.Core.Logic.{◌⊎◌, inl, inr, ◌≢◌}
use native.Mathlib.Omega.{arith}
use lib.Dec.{leb, eqb}
use borrow.Author.Tests.{leb-false, leb-true, eqb-true, eqb-false}
use lib.ListN.{length, get_or, set, replicate}
use Rattle.std.specs.Int.{w64, bit_at}
use Rattle.std.specs.Int.RustNames.{bit_or}
use Rattle.std.proofs.Common.{bit_and}
use Rattle.std.proofs.lemmas.List.{get_or-set_same, get_or-set_other, get_or-replicate, get_or_past, length-replicate}
use Rattle.std.proofs.lemmas.Nat.Bits.{bit_at-lt, bit_at-zero, shr_and_one, bit_at_set_same, bit_at_set_other}
use Rattle.std.proofs.lemmas.Bool.{cases_Bool}
use Rattle.catalogue_calls.specs.Once.{mark_at, Marked}

pub mark_found : (ws : List ℕ) (i : ℕ) → bit_and (get_or ws (i / 64) 0 / 2 ^ (i % 64)) 1 ≡ 1 → mark_at ws i ≡ 1
unfolding mark_at
mark_found ws i e = sym (shr_and_one (get_or ws (i / 64) 0) (i % 64)) ∙ e

pub no_mark : (w i : ℕ) → mark_at (replicate w 0) i ≡ 0
unfolding mark_at
no_mark w i = on (cases_Bool (leb w (i / 64)))
  where
    on : (leb w (i / 64) ≡ true) ⊎ (leb w (i / 64) ≡ false) → bit_at (get_or (replicate w 0) (i / 64) 0) (i % 64) ≡ 0
    on (inl e) =
        let p : length (replicate {A = ℕ} w 0) ≤ i / 64 = omega (arith, length-replicate {A = ℕ} w 0, leb-true w (i / 64) e) in
        rw (get_or_past (replicate {A = ℕ} w 0) (i / 64) 0 p) (bit_at-zero (i % 64))
    on (inr e) =
        let p : i / 64 < w = leb-false w (i / 64) e in
        rw get_or-replicate (bit_at-zero (i % 64))

-- the word with the bit set
with_mark : List ℕ → ℕ → List ℕ
with_mark ws i = set ws (i / 64) (bit_or (get_or ws (i / 64) 0) (1 * 2 ^ (i % 64) % 2 ^ 64))

marked_there : (ws : List ℕ) (i : ℕ) → i < 64 * length ws → mark_at (with_mark ws i) i ≡ 1
unfolding mark_at with_mark
marked_there ws i h =
    let k : i / 64 < length ws = omega arith in
    rw get_or-set_same (bit_at_set_same w64 (get_or ws (i / 64) 0) (i % 64) (omega arith))

marked_else : (ws : List ℕ) (i j : ℕ) → i < 64 * length ws → (j ≡ i → ⊥) → mark_at (with_mark ws i) j ≡ mark_at ws j
unfolding mark_at with_mark
marked_else ws i j h n = on (cases_Bool (eqb (j / 64) (i / 64)))
  where
    on : (eqb (j / 64) (i / 64) ≡ true) ⊎ (eqb (j / 64) (i / 64) ≡ false) → mark_at (with_mark ws i) j ≡ mark_at ws j
    on (inl t) =
        let e : j / 64 ≡ i / 64 = eqb-true (j / 64) (i / 64) t in
        let k : i / 64 < length ws = omega arith in
        let d : j % 64 ≢ i % 64 = λ q. n (omega arith) in
        rw (e, get_or-set_same) (bit_at_set_other w64 (get_or ws (i / 64) 0) (i % 64) (omega arith) (j % 64) d)
    on (inr t) = let d : j / 64 ≢ i / 64 = eqb-false (j / 64) (i / 64) t in rw get_or-set_other

pub marks_place : (ws : List ℕ) (i : ℕ) → i < 64 * length ws → (bit_and (get_or ws (i / 64) 0 / 2 ^ (i % 64)) 1 ≡ 1 → ⊥) → Marked ws i (set ws (i / 64) (bit_or (get_or ws (i / 64) 0) (1 * 2 ^ (i % 64) % 2 ^ 64)))
unfolding mark_at with_mark
marks_place ws i h n = record {
  unmarked = omega (arith, shr_and_one (get_or ws (i / 64) 0) (i % 64), bit_at-lt (get_or ws (i / 64) 0) (i % 64));
  marked = marked_there ws i h;
  others = λ j d. marked_else ws i j h d;
}

pub mark_below : (ws : List ℕ) (i : ℕ) → mark_at ws i ≤ 1
unfolding mark_at
mark_below ws i = omega (arith, bit_at-lt (get_or ws (i / 64) 0) (i % 64))
