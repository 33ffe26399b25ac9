-- Laws of decimal digits: the loop of `put_decimal` fills its buffer from the back.
-- Main statements: `filling_start`, `filled`, `filling_more` for `put_decimal`; `length_decimal`, `decimal_all_bytes`, `decimal_some`, and
-- `decimal_each`, by which every byte is a digit.
-- Assumes nothing.
use mathlib.Core.Path.{◌≡◌, refl, sym, ap, ◌∙◌}
use mathlib.Core.Bool.{Bool, true, false}
use Prim.Native.Nat.{ℕ, zero, suc, ◌+◌, ◌-◌, ◌*◌, ◌/◌, ◌%◌, ◌^◌, ◌≤◌, ◌<◌}
use native.Mathlib.Nat.{le_of_suc-le-suc, not-suc-le-zero, pow-suc}
use native.Mathlib.Omega.{arith}
use mathlib.Core.List.{[], ◌∷◌}
use lib.Dec.{eqb, lit<, lit≤}
use lib.ListN.{length, set, take, drop, length-set, length-drop, drop_of_length-le}
use lib.Seq.{take_all}
use borrow.Author.Tests.{eq-eqb, ne_eqb}
use Rattle.field.specs.Bytes.{Bytes, AllBytes, pick, null?}
use Rattle.text.specs.Decimal.{digits, decimal}

digits_last : (i m : ℕ) (acc : Bytes) → 0 < i → m / 10 ≡ 0 → digits i m acc ≡ (48 + m % 10) ∷ acc
unfolding digits
digits_last zero m acc h e = absurd (not-suc-le-zero h)
digits_last (suc i) m acc h e = rw (eq-eqb (m / 10) 0 e)

digits_more : (i m : ℕ) (acc : Bytes) → 0 < i → (m / 10 ≡ 0 → ⊥) → digits i m acc ≡ digits (i - 1) (m / 10) ((48 + m % 10) ∷ acc)
unfolding digits
digits_more zero m acc h e = absurd (not-suc-le-zero h)
digits_more (suc i) m acc h e = let p : suc i - 1 ≡ i = omega arith in rw (ne_eqb (m / 10) 0 e, p)

-- a byte stored in front of what is filled
set_at : (b : Bytes) (j x : ℕ) → j < length b → drop j (set b j x) ≡ x ∷ drop (suc j) b
set_at [] j x h = absurd (not-suc-le-zero h)
set_at (y ∷ b) zero x h = refl
set_at (y ∷ b) (suc j) x h = set_at b j x (le_of_suc-le-suc h)

pub set_front : (b : Bytes) (i x : ℕ) → 0 < i → i ≤ length b → drop (i - 1) (set b (i - 1) x) ≡ x ∷ drop i b
set_front b i x h l = let p : suc (i - 1) ≡ i = omega arith in set_at b (i - 1) x (omega arith) ∙ ap {B = Bytes} (λ k. x ∷ drop k b) p

-- each digit makes the number ten times smaller
pub tenth : (i m : ℕ) → 0 < i → m < 10 ^ i → m / 10 < 10 ^ (i - 1)
tenth zero m h l = absurd (not-suc-le-zero h)
tenth (suc i) m h l =
    let p : suc i - 1 ≡ i = omega arith in
    let q : m < 10 ^ i * 10 = rw pow-suc at l in
    rw p (omega arith)

-- a number that is left has a place left
pub place_left : (i m : ℕ) → m < 10 ^ i → (m ≡ 0 → ⊥) → 0 < i
place_left zero m h e = absurd (e (omega arith))
place_left (suc i) m h e = omega arith

-- ---- the loop: the digits of m are still to come in front of those from i on, and there is a place for each
pub record Filling (n : ℕ) (buf : Bytes) (i m : ℕ) : Type 0 where
  pub size : length buf ≡ 20
  pub some : 0 < i
  pub within : i ≤ 20
  pub small : m < 10 ^ i
  pub rest : digits i m (drop i buf) ≡ decimal n

pub filling_start : (n : ℕ) (buf : Bytes) → length buf ≡ 20 → n < 2 ^ 64 → Filling n buf 20 n
unfolding decimal
filling_start n buf l h =
    record {
      size = l;
      some = lit< tt;
      within = lit≤ tt;
      small = omega arith;
      rest = ap {B = Bytes} (λ t. digits 20 n t) (drop_of_length-le buf {i = 20} (omega arith));
    }

module _ (n : ℕ) (buf : Bytes) (i m : ℕ) (f : Filling n buf i m) where
  -- the last digit
  pub filled : m / 10 ≡ 0 → take (20 - (i - 1)) (drop (i - 1) (set buf (i - 1) (48 + m % 10))) ≡ decimal n
  filled e =
      let b = set buf (i - 1) (48 + m % 10) in
      let all = take_all (20 - (i - 1)) (drop (i - 1) b) (rw (length-drop, length-set) (omega (arith, f.size))) in
      all ∙ set_front buf i (48 + m % 10) f.some (omega (arith, f.size, f.within)) ∙ sym (digits_last i m (drop i buf) f.some e) ∙ f.rest

  -- another one
  pub filling_more : (m / 10 ≡ 0 → ⊥) → Filling n (set buf (i - 1) (48 + m % 10)) (i - 1) (m / 10)
  filling_more e =
      let front = set_front buf i (48 + m % 10) f.some (omega (arith, f.size, f.within)) in
      let t = tenth i m f.some f.small in
      record {
        size = rw length-set f.size;
        some = place_left (i - 1) (m / 10) t e;
        within = omega (arith, f.within);
        small = t;
        rest = ap {B = Bytes} (λ w. digits (i - 1) (m / 10) w) front ∙ sym (digits_more i m (drop i buf) f.some e) ∙ f.rest;
      }

-- ---- what callers cite

length_digits : (fuel n : ℕ) (acc : Bytes) → length (digits fuel n acc) ≤ fuel + length acc
unfolding digits
length_digits zero n acc = omega arith
length_digits (suc fuel) n acc = on (eqb (n / 10) 0) (length_digits fuel (n / 10) ((48 + n % 10) ∷ acc))
  where
    on : (b : Bool) → length (digits fuel (n / 10) ((48 + n % 10) ∷ acc)) ≤ fuel + suc (length acc) → length (pick b ((48 + n % 10) ∷ acc) (digits fuel (n / 10) ((48 + n % 10) ∷ acc))) ≤ suc fuel + length acc
    on true h = omega arith
    on false h = omega arith

pub length_decimal : (n : ℕ) → length (decimal n) ≤ 20
unfolding decimal
length_decimal n = omega (arith, length_digits 20 n [])

-- what holds of both holds of either
pub pick_each : (P : Bytes → Type 0) (t : Bool) {a b : Bytes} → P a → P b → P (pick t a b)
pick_each P true p q = p
pick_each P false p q = q

-- what putting a digit in front keeps, putting all of them in front keeps
module _ (P : Bytes → Type 0) (digit : (k : ℕ) (b : Bytes) → k < 10 → P b → P ((48 + k) ∷ b)) where
  pub digits_each : (fuel n : ℕ) (acc : Bytes) → P acc → P (digits fuel n acc)
  unfolding digits
  digits_each zero n acc h = h
  digits_each (suc fuel) n acc h =
      let q : P ((48 + n % 10) ∷ acc) = digit (n % 10) acc (omega arith) h in
      pick_each P (eqb (n / 10) 0) q (digits_each fuel (n / 10) ((48 + n % 10) ∷ acc) q)

  pub decimal_each : P [] → (n : ℕ) → P (decimal n)
  unfolding decimal
  decimal_each h n = digits_each 20 n [] h

pub decimal_all_bytes : (n : ℕ) → AllBytes (decimal n)
unfolding AllBytes
decimal_all_bytes = decimal_each AllBytes (λ k b l h. (omega arith, h)) tt

-- there is a digit
pub decimal_some : (n : ℕ) → null? (decimal n) ≡ false
unfolding decimal digits
decimal_some n =
    pick_each (λ b. null? b ≡ false) (eqb (n / 10) 0) refl
    (digits_each (λ b. null? b ≡ false) (λ k b l h. refl) 19 (n / 10) ((48 + n % 10) ∷ []) refl)
