-- Eight bytes tested as one number: no highest bit is set exactly if each byte is ASCII; and words of eight bytes one after the other.
-- Main statements: `word_ascii`, and `words_on` for one word more. Assumes nothing.
use mathlib.Core.Path.{◌≡◌, refl, sym, ap, ◌∙◌}
use Prim.Native.Nat.{ℕ, zero, suc, ◌+◌, ◌*◌, ◌/◌, ◌≤◌, ◌<◌}
use native.Mathlib.Omega.{arith}
use native.Mathlib.Nat.{not-suc-le-zero, le_of_suc-le-suc}
use mathlib.Core.Bool.{Bool, true, false, ◌&&◌, and_assoc, and-eq-true_iff}
use mathlib.Core.List.{List, [], ◌∷◌, ◌++◌}
use borrow.Author.Tests.{eq-eqb, ne_eqb, ltb-true, ltb-false}
use lib.Bits.{bit_and, and_block, and_high}
use lib.Dec.{eqb, ltb, eqb-suc-zero}
use lib.ListN.{length, take, drop, get_or, length-drop, drop_of_length-le}
use lib.Seq.{drop-drop, take-add, get_or-drop}
use Rattle.std.specs.Simd.{first_chunks}
use Rattle.std.proofs.lemmas.List.{length-take-le}
use Rattle.utf8.specs.Utf8.{all_ascii}

-- the highest bits of n bytes
abbrev pub mask : ℕ → ℕ
mask zero = 0
mask (suc n) = mask n * 256 + 128

both_zero : (a b : ℕ) → eqb (a * 256 + b) 0 ≡ (eqb b 0 && eqb a 0)
both_zero zero zero = refl
both_zero (suc a) zero = ne_eqb (suc a * 256 + 0) 0 (λ e. omega arith) ∙ sym (eqb-suc-zero a)
both_zero a (suc b) = ne_eqb (a * 256 + suc b) 0 (λ e. omega arith) ∙ sym (ap (λ (v : Bool). v && eqb a 0) (eqb-suc-zero b))

highest_bit : (b : ℕ) → b < 256 → eqb (bit_and b 128) 0 ≡ ltb b 128
highest_bit b h = on (ltb b 128) refl
  where
    on : (v : Bool) → ltb b 128 ≡ v → eqb (bit_and b 128) 0 ≡ v
    on true e = eq-eqb (bit_and b 128) 0 (and_high b 1 7 ∙ omega (arith, ltb-true b 128 e))
    on false e =
        let q : b / 128 ≡ 1 = omega (arith, ltb-false b 128 e) in
        ne_eqb (bit_and b 128) 0 (λ z. omega (arith, rw q at (sym (and_high b 1 7) ∙ z)))

one_more : (b x m : ℕ) → b < 256 → eqb (bit_and (b + 256 * x) (m * 256 + 128)) 0 ≡ (ltb b 128 && eqb (bit_and x m) 0)
one_more b x m h =
    let high_first : b + 256 * x ≡ x * 256 + b = omega arith in
    ap (λ (y : ℕ). eqb (bit_and y (m * 256 + 128)) 0) high_first
    ∙ ap (λ (y : ℕ). eqb y 0) (and_block 8 x m b 128 h (omega arith))
    ∙ both_zero (bit_and x m) (bit_and b 128)
    ∙ ap (λ (v : Bool). v && eqb (bit_and x m) 0) (highest_bit b h)

-- the number of bytes, the lowest first
abbrev little : List ℕ → ℕ
little [] = 0
little (b ∷ bs) = b + 256 * little bs

little_ascii : (w : List ℕ) → ((k : ℕ) → get_or w k 0 < 256) → eqb (bit_and (little w) (mask (length w))) 0 ≡ all_ascii w
unfolding all_ascii
little_ascii [] h = refl
little_ascii (b ∷ w) h = one_more b (little w) (mask (length w)) (h 0) ∙ ap (λ (v : Bool). ltb b 128 && v) (little_ascii w (λ k. h (suc k)))

little_at : (k : ℕ) (w : List ℕ) → little (drop k w) ≡ get_or w k 0 + 256 * little (drop (suc k) w)
little_at zero [] = refl
little_at zero (b ∷ w) = refl
little_at (suc k) [] = refl
little_at (suc k) (b ∷ w) = little_at k w

-- the number of eight bytes, as from_le_bytes has it
abbrev value : List ℕ → ℕ
value w =
    get_or w 0 0 + get_or w 1 0 * 256 + get_or w 2 0 * 65536 + get_or w 3 0 * 16777216
    + get_or w 4 0 * 4294967296 + get_or w 5 0 * 1099511627776 + get_or w 6 0 * 281474976710656 + get_or w 7 0 * 72057594037927936

word_ascii : (w : List ℕ) → length w ≡ 8 → ((k : ℕ) → get_or w k 0 < 256) → eqb (bit_and (value w) (mask 8)) 0 ≡ all_ascii w
word_ascii w n h =
    let rest : little (drop 8 w) ≡ 0 = ap little (drop_of_length-le w {i = 8} (omega arith)) in
    let is : value w ≡ little w = omega (arith, rest, little_at 0 w, little_at 1 w, little_at 2 w, little_at 3 w, little_at 4 w, little_at 5 w, little_at 6 w, little_at 7 w) in
    ap (λ (y : ℕ). eqb (bit_and y (mask 8)) 0) is ∙ ap (λ (m : ℕ). eqb (bit_and (little w) (mask m)) 0) (sym n) ∙ little_ascii w h

-- ---- words one after the other

pub ascii_append : (a b : List ℕ) → all_ascii (a ++ b) ≡ (all_ascii a && all_ascii b)
unfolding all_ascii
ascii_append [] b = refl
ascii_append (x ∷ a) b = rw (ascii_append a b) (sym (and_assoc (ltb x 0x80) (all_ascii a) (all_ascii b)))

pub ascii_drop : (j : ℕ) (t : List ℕ) → all_ascii t ≡ true → all_ascii (drop j t) ≡ true
unfolding all_ascii
ascii_drop zero t h = h
ascii_drop (suc j) [] h = refl
ascii_drop (suc j) (c ∷ cs) h = ascii_drop j cs ((and-eq-true_iff (ltb c 0x80) (all_ascii cs)).0 h).1

-- a word among the words of s
chunk_at : (k i : ℕ) (s : List ℕ) → i < k → get_or (first_chunks 8 k s) i [] ≡ take 8 (drop (8 * i) s)
chunk_at zero i s h = absurd (not-suc-le-zero h)
chunk_at (suc k) zero s h = refl
chunk_at (suc k) (suc i) s h = chunk_at k i (drop 8 s) (le_of_suc-le-suc h) ∙ ap (take 8) (drop-drop (8 * i) 8 s ∙ ap (λ (x : ℕ). drop x s) (omega arith))

take_bytes : (n : ℕ) (s : List ℕ) (h : (k : ℕ) → get_or s k 0 < 256) (k : ℕ) → get_or (take n s) k 0 < 256
take_bytes zero s h zero = omega arith
take_bytes zero s h (suc k) = omega arith
take_bytes (suc n) [] h k = h k
take_bytes (suc n) (b ∷ s) h zero = h 0
take_bytes (suc n) (b ∷ s) h (suc k) = take_bytes n s (λ j. h (suc j)) k

-- one word more
pub words_on :
    {v : Bool} (s : List ℕ) (ws : List (List ℕ)) (n i x : ℕ) → ((k : ℕ) → get_or s k 0 < 256) → ws ≡ first_chunks 8 n s → 8 * n ≤ length s → i < n →
    x ≡ value (get_or ws i []) → v ≡ all_ascii (take (8 * i) s) → (v && eqb (bit_and x (mask 8)) 0) ≡ all_ascii (take (8 * (i + 1)) s)
words_on {v} s ws n i x h e l m q f =
    let t = drop (8 * i) s in
    let w : get_or ws i [] ≡ take 8 t = ap (λ (z : List (List ℕ)). get_or z i []) e ∙ chunk_at n i s m in
    let size : length (take 8 t) ≡ 8 = length-take-le 8 t (rw length-drop (omega arith)) in
    let word : eqb (bit_and x (mask 8)) 0 ≡ all_ascii (take 8 t) =
    ap (λ (y : ℕ). eqb (bit_and y (mask 8)) 0) (q ∙ ap value w) ∙ word_ascii (take 8 t) size (take_bytes 8 t (λ k. rw get_or-drop (h (8 * i + k)))) in
    rw (f, word) (sym (ascii_append (take (8 * i) s) (take 8 t)) ∙ ap all_ascii (sym (take-add (8 * i) 8 s)) ∙ ap (λ (k : ℕ). all_ascii (take k s)) (omega arith))
