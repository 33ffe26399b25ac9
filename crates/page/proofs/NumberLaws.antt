-- Number literals: what is within range is accepted and read back; what is accepted is the body of the number that it reads as.
-- Main statements: `render_length`, `render_escaped`, `minus_escaped`, `render_some`; `whole_back`, `scaled_back`, `whole_sound`, `scaled_sound`, `number_all`; `whole_text`, `scaled_text` and the like for the
-- code.
-- Assumes nothing.
use mathlib.Core.Path.{◌≡◌, refl, sym, ap, ap₂, ◌∙◌, subst}
use mathlib.Core.Bool.{Bool, true, false, ◌&&◌}
use Prim.Native.Nat.{min, ℕ, ◌+◌, ◌%◌, ◌≤◌, ◌<◌}
use native.Mathlib.Nat.{mod-eq_of_lt}
use native.Mathlib.Omega.{arith}
use mathlib.Core.List.{[], ◌∷◌, ◌++◌}
use lib.Dec.{T, leb, eqb, leb→le, eqb→eq, eqb_refl}
use lib.ListN.{length, take, drop, take-append-drop, length-drop}
use lib.Seq.{length-take-le, take_all, take_at, drop_at}
use borrow.Author.Tests.{leb-true, leb-false}
use Rattle.field.specs.Bytes.{Bytes, AllBytes, pick, null?}
use Rattle.field.specs.Number.{big_endian, number_of}
use Rattle.field.proofs.NumberLaws.{length_big_endian, big_endian_append, number_read, big_endian_back, all_big_endian, all_take, all_drop}
use Rattle.text.specs.Decimal.{decimal, shortest}
use Rattle.text.specs.Escape.{escape_html, escape_byte}
use Rattle.text.proofs.DecimalLaws.{length_decimal, decimal_some}
use Rattle.text.proofs.PlacesLaws.{length_shortest, shortest_some, shortest_escaped}
use Rattle.page.specs.Number.{Number, whole, scaled, has_places, at_most_15, render, number_bytes, number_in, number_length, in_range}
use Rattle.refusal.specs.Refusal.{Fine, unless}
use Rattle.page.specs.Check.{check_number}
use Rattle.page.specs.Limits.{NumberOk}
use Rattle.refusal.specs.declared.Refusal.TheVariants as R
use Rattle.page.proofs.Steps.{Then}
use Rattle.refusal.proofs.Verdicts.{after_fine, unless_fine, fine_after, fine_unless}
use Rattle.page.proofs.Booleans.{and_both}

pub number_all : (n : Number) → AllBytes (number_bytes n)
unfolding number_bytes AllBytes
number_all (whole n) = all_big_endian 8 n [] tt
number_all (scaled n p) = all_big_endian 8 n (big_endian 1 p []) (all_big_endian 1 p [] tt)

pub number_size : (n : Number) → (8 ≤ length (number_bytes n)) × (length (number_bytes n) ≤ 9)
unfolding number_bytes
number_size (whole n) = let k = length_big_endian 8 n [] in (omega arith, omega arith)
number_size (scaled n p) = let k = length_big_endian 8 n (big_endian 1 p []) in let m = length_big_endian 1 p [] in (omega arith, omega arith)

-- ---- the text

-- as the code writes it
pub min_15 : (p : ℕ) {q : ℕ} → q ≡ min p 15 → q ≡ at_most_15 p
unfolding at_most_15
min_15 p {q} e = on (leb p 15) refl
  where
    on : (b : Bool) → leb p 15 ≡ b → q ≡ pick b p 15
    on true h = omega (arith, e, leb-true p 15 h)
    on false h = omega (arith, e, leb-false p 15 h)

at_most : (p : ℕ) → at_most_15 p ≤ 15
unfolding at_most_15
at_most p = on (leb p 15) refl
  where
    on : (b : Bool) → leb p 15 ≡ b → pick b p 15 ≤ 15
    on true e = leb-true p 15 e
    on false e = omega arith

pub render_length : (n : Number) → length (render n) ≤ 36
unfolding render
render_length (whole n) = omega (arith, length_decimal n)
render_length (scaled n p) = omega (arith, length_shortest n (at_most_15 p), at_most p)

pub render_some : (n : Number) → null? (render n) ≡ false
unfolding render
render_some (whole n) = decimal_some n
render_some (scaled n p) = shortest_some n (at_most_15 p)

-- digits and a point: nothing is escaped
pub render_escaped : (n : Number) → escape_html (render n) ≡ render n
unfolding render shortest
render_escaped (whole n) = shortest_escaped n 0
render_escaped (scaled n p) = shortest_escaped n (at_most_15 p)

pub minus_escaped : (n : Number) → escape_html (45 ∷ render n) ≡ 45 ∷ render n
unfolding escape_html escape_byte
minus_escaped n = ap {B = Bytes} (λ r. 45 ∷ r) (render_escaped n)

-- ---- written and read back

-- a body by its tag, accepted and read as the number
abbrev pub Back : ℕ → Number → Type 0
Back t n = (check_number t (number_bytes n) ≡ Fine) × (number_in t (number_bytes n) ≡ n)

back : (t : ℕ) (n : Number) → length (number_bytes n) ≡ number_length t → number_in t (number_bytes n) ≡ n → NumberOk n → Back t n
unfolding check_number
back t n l k h =
    let b = number_bytes n in (
      fine_after (unless (eqb (length b) (number_length t)) R.Misplaced) (λ _. unless (in_range (number_in t b)) R.NumberTooLarge)
          (fine_unless (eqb (length b) (number_length t)) R.Misplaced (subst (λ (x : ℕ). T (eqb x (number_length t))) (sym l) (eqb_refl (number_length t))))
          (fine_unless (in_range (number_in t b)) R.NumberTooLarge (subst (λ (x : Number). T (in_range x)) (sym k) h)),
      k,
    )

module _ (t : ℕ) where
  pub whole_back : (n : ℕ) → has_places t ≡ false → NumberOk (whole n) → Back t (whole n)
  unfolding number_bytes number_in number_length in_range
  whole_back n e h =
      let l : n ≤ 9_007_199_254_740_991 = leb→le n 9_007_199_254_740_991 h in
      let b = big_endian 8 n [] in
      let s : length b ≡ 8 = length_big_endian 8 n [] in
      let k : number_of (take 8 b) ≡ n = ap number_of (take_all 8 b (omega arith)) ∙ number_read 8 n (omega arith) in
      back t (whole n) (rw e s) (rw e (ap (λ (x : ℕ). whole x) k)) h

  pub scaled_back : (n p : ℕ) → has_places t ≡ true → NumberOk (scaled n p) → Back t (scaled n p)
  unfolding number_bytes number_in number_length in_range
  scaled_back n p e h =
      let r = and_both (leb n 999_999_999_999_999) (leb p 15) h in
      let l : n ≤ 999_999_999_999_999 = leb→le n 999_999_999_999_999 r.0 in
      let m : p ≤ 15 = leb→le p 15 r.1 in
      let w = big_endian 1 p [] in
      let b = big_endian 8 n w in
      let d : b ≡ big_endian 8 n [] ++ w = big_endian_append 8 n w in
      let s : length b ≡ 9 = length_big_endian 8 n w ∙ ap (λ (x : ℕ). 8 + x) (length_big_endian 1 p []) in
      let i : take 8 b ≡ big_endian 8 n [] = ap (λ (x : Bytes). take 8 x) d ∙ take_at (big_endian 8 n []) w 8 (length_big_endian 8 n []) in
      let j : drop 8 b ≡ w = ap (λ (x : Bytes). drop 8 x) d ∙ drop_at (big_endian 8 n []) w 8 (length_big_endian 8 n []) in
      let k : number_of (take 8 b) ≡ n = ap number_of i ∙ number_read 8 n (omega arith) in
      let o : number_of (take 1 (drop 8 b)) ≡ p = ap (λ (x : Bytes). number_of (take 1 x)) j ∙ ap number_of (take_all 1 w (omega (arith, length_big_endian 1 p []))) ∙ number_read 1 p (omega arith) in
      back t (scaled n p) (rw e s) (rw e (ap₂ (λ (x y : ℕ). scaled x y) k o)) h

-- ---- accepted and written again

abbrev pub Sound : ℕ → Bytes → Type 0
Sound t f = (number_bytes (number_in t f) ≡ f) × NumberOk (number_in t f)

module _ (t : ℕ) (f : Bytes) (a : AllBytes f) (e : check_number t f ≡ Fine) where
  fits : (length f ≡ number_length t) × T (in_range (number_in t f))
  unfolding check_number
  fits =
      let p = after_fine (unless (eqb (length f) (number_length t)) R.Misplaced) (λ _. unless (in_range (number_in t f)) R.NumberTooLarge) e in
      (eqb→eq (length f) (number_length t) (unless_fine (eqb (length f) (number_length t)) R.Misplaced p.0), unless_fine (in_range (number_in t f)) R.NumberTooLarge p.1)

  pub whole_sound : has_places t ≡ false → Sound t f
  unfolding number_bytes number_in number_length
  whole_sound h =
      let l : length f ≡ 8 = (rw h at fits).0 in
      let q : take 8 f ≡ f = take_all 8 f (omega arith) in
      let b : big_endian 8 (number_of f) [] ≡ f = subst (λ (k : ℕ). big_endian k (number_of f) [] ≡ f) l (big_endian_back f a) in
      (rw h (ap (λ (x : Bytes). big_endian 8 (number_of x) []) q ∙ b), fits.1)

  pub scaled_sound : has_places t ≡ true → Sound t f
  unfolding number_bytes number_in number_length
  scaled_sound h =
      let l : length f ≡ 9 = (rw h at fits).0 in
      let x = take 8 f in
      let y = drop 8 f in
      let m : length x ≡ 8 = length-take-le 8 f (omega arith) in
      let n : length y ≡ 1 = length-drop 8 f ∙ omega arith in
      let p : take 1 y ≡ y = take_all 1 y (omega arith) in
      let b : big_endian 8 (number_of x) [] ≡ x = subst (λ (k : ℕ). big_endian k (number_of x) [] ≡ x) m (big_endian_back x (all_take 8 f a)) in
      let c : big_endian 1 (number_of y) [] ≡ y = subst (λ (k : ℕ). big_endian k (number_of y) [] ≡ y) n (big_endian_back y (all_drop 8 f a)) in
      (rw h (big_endian_append 8 (number_of x) (big_endian 1 (number_of (take 1 y)) []) ∙ ap₂ (λ (u v : Bytes). u ++ v) b (ap (λ (u : Bytes). big_endian 1 (number_of u) []) p ∙ c) ∙ take-append-drop 8 f), fits.1)

-- ---- the code's cases

module _ (t : ℕ) (f : Bytes) where
  -- no places: a whole number
  module _ (h : false ≡ has_places t) where
    pub whole_in : number_in t f ≡ whole (number_of (take 8 f))
    unfolding number_in
    whole_in = rw (← h)

    pub whole_text : {n : ℕ} → n ≡ number_of (take 8 f) → decimal n ≡ render (number_in t f)
    unfolding render
    whole_text q = rw (whole_in, ← q)

    pub whole_body : {n : ℕ} → n ≡ number_of (take 8 f) → big_endian 8 n [] ≡ number_bytes (number_in t f)
    unfolding number_bytes
    whole_body q = rw (whole_in, ← q)

    pub whole_then : Then (check_number t f) (unless (eqb (length f) 8) R.Misplaced) (unless (leb (number_of (take 8 f)) 9_007_199_254_740_991) R.NumberTooLarge)
    unfolding check_number number_length in_range
    whole_then = record { then_is = rw (whole_in, ← h) refl }

  module _ (h : true ≡ has_places t) where
    pub scaled_in : number_in t f ≡ scaled (number_of (take 8 f)) (number_of (take 1 (drop 8 f)))
    unfolding number_in
    scaled_in = rw (← h)

    pub scaled_text : {n p q : ℕ} → n ≡ number_of (take 8 f) → p ≡ number_of (take 1 (drop 8 f)) → q ≡ at_most_15 p → shortest n q ≡ render (number_in t f)
    unfolding render
    scaled_text a b e = rw (scaled_in, ← a, ← b, ← e)

    pub scaled_body : {n p : ℕ} → n ≡ number_of (take 8 f) → p ≡ number_of (take 1 (drop 8 f)) → p < 256 → big_endian 8 n [] ++ (p ∷ []) ≡ number_bytes (number_in t f)
    unfolding number_bytes big_endian
    scaled_body {n} {p} a b l =
        rw (scaled_in, ← a, ← b) (ap (λ (x : ℕ). big_endian 8 n [] ++ (x ∷ [])) (sym (mod-eq_of_lt l)) ∙ sym (big_endian_append 8 n ((p % 256) ∷ [])))

    pub scaled_then : Then (check_number t f) (unless (eqb (length f) 9) R.Misplaced) (unless (leb (number_of (take 8 f)) 999_999_999_999_999 && leb (number_of (take 1 (drop 8 f))) 15) R.NumberTooLarge)
    unfolding check_number number_length in_range
    scaled_then = record { then_is = rw (scaled_in, ← h) refl }
