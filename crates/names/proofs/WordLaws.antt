-- Laws of eight letters compared as one number.
-- Main statements: `words_same`, `word_on`, `word_off`, `from_later`.
-- Assumes nothing.
use mathlib.Core.Path.{◌≡◌, sym, ap, ap₂, ◌∙◌}
use mathlib.Core.Bool.{true, false, false≢true}
use mathlib.Core.List.{◌++◌}
use Prim.Native.Nat.{ℕ, ◌+◌, ◌-◌, ◌≤◌, ◌<◌}
use native.Mathlib.Omega.{arith}
use lib.Dec.{eqb}
use lib.ListN.{length, get_or, take, drop, take-append-drop}
use lib.Seq.{drop-drop, take-take}
use borrow.Author.Tests.{eqb-true, eq-eqb}
use Rattle.std.specs.Int.{w64, from_le_bytes, to_le_bytes}
use Rattle.std.proofs.lemmas.List.{drop-take}
use Rattle.std.proofs.lemmas.Nat.{le_bytes_8}
use Rattle.field.specs.Bytes.{Bytes, same}
use Rattle.names.proofs.CompareLaws.{same_eq, same_refl}
use Rattle.names.proofs.ListLaws.{both_ways, refuted}

-- two numbers of eight bytes are the same where the bytes are
pub words_same : (a b : Bytes) (x y : ℕ) → length a ≡ 8 → length b ≡ 8 → ((i : ℕ) → get_or a i 0 < 256) → ((i : ℕ) → get_or b i 0 < 256) → x ≡ from_le_bytes w64 a → y ≡ from_le_bytes w64 b → eqb x y ≡ same a b
words_same a b x y la lb ba bb ex ey =
    both_ways (eqb x y) (same a b)
    (λ h. ap (same a) (sym (le_bytes_8 b y lb bb ey) ∙ ap (to_le_bytes w64) (sym (eqb-true x y h)) ∙ le_bytes_8 a x la ba ex) ∙ same_refl a)
    (λ h. eq-eqb x y (ex ∙ ap (from_le_bytes w64) (same_eq a b h) ∙ sym ey))

-- ---- names compared by eight letters, from the end on

-- eight letters of the name that stands at place p of a row
entry_word : (row : Bytes) (p w i : ℕ) → i + 8 ≤ w → take 8 (drop i (take w (drop p row))) ≡ take 8 (drop (p + i) row)
entry_word row p w i h =
    let e : i + (w - i) ≡ w = omega arith in
    ap (λ k. take 8 (drop i (take k (drop p row)))) (sym e)
    ∙ ap (take 8) (drop-take i (w - i) (drop p row))
    ∙ take-take 8 (w - i) (drop i (drop p row)) (omega arith)
    ∙ ap (take 8) (drop-drop i p row)

word_and_rest : (x y : Bytes) (i : ℕ) → take 8 (drop i x) ≡ take 8 (drop i y) → drop (i + 8) x ≡ drop (i + 8) y → drop i x ≡ drop i y
word_and_rest x y i e d =
    sym (take-append-drop 8 (drop i x))
    ∙ ap₂ (λ (a b : Bytes). a ++ b) e (drop-drop 8 i x ∙ d ∙ sym (drop-drop 8 i y))
    ∙ take-append-drop 8 (drop i y)

-- eight letters more are the same, and all from them on
pub word_on : (row n : Bytes) (p w i a b : ℕ) → i + 8 ≤ w → a ≡ 8 → b ≡ 8 → same (take a (drop (p + i) row)) (take b (drop i n)) ≡ true → drop (i + 8) (take w (drop p row)) ≡ drop (i + 8) n → drop i (take w (drop p row)) ≡ drop i n
word_on row n p w i a b h ea eb s d =
    let e = sym (ap (λ k. take k (drop (p + i) row)) ea) ∙ same_eq (take a (drop (p + i) row)) (take b (drop i n)) s ∙ ap (λ k. take k (drop i n)) eb in
    word_and_rest (take w (drop p row)) n i (entry_word row p w i h ∙ e) d

-- or the names differ
pub word_off : (row n : Bytes) (p w i a b : ℕ) → i + 8 ≤ w → a ≡ 8 → b ≡ 8 → same (take a (drop (p + i) row)) (take b (drop i n)) ≡ false → same (take w (drop p row)) n ≡ false
word_off row n p w i a b h ea eb s =
    refuted (same (take w (drop p row)) n)
    (λ t.
    let e : take a (drop (p + i) row) ≡ take b (drop i n) =
    ap (λ k. take k (drop (p + i) row)) ea ∙ sym (entry_word row p w i h)
    ∙ ap (λ (x : Bytes). take 8 (drop i x)) (same_eq (take w (drop p row)) n t)
    ∙ ap (λ k. take k (drop i n)) (sym eb) in
    false≢true (sym s ∙ (ap (same (take a (drop (p + i) row))) (sym e) ∙ same_refl (take a (drop (p + i) row)))))

-- what is the same from a place on is so from a later one on
pub from_later : (x y : Bytes) (i j : ℕ) → i ≤ j → drop i x ≡ drop i y → drop j x ≡ drop j y
from_later x y i j h e =
    let q : i + (j - i) ≡ j = omega arith in
    ap (λ k. drop k x) (sym q) ∙ sym (drop-drop (j - i) i x) ∙ ap (drop (j - i)) e ∙ drop-drop (j - i) i y ∙ ap (λ k. drop k y) q
