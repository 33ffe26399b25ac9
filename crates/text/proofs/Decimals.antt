-- Digits over a power of ten, written and read back.
-- Main statements: `shortest_means`, the text means the number; `nothing_shorter`, no shorter text does; `one_reading`, a text means one
-- number; `samples`, by computation.
-- Assumes nothing.
use mathlib.Core.Path.{◌≡◌, refl, sym, ap, ◌∙◌, subst}
use mathlib.Core.Bool.{Bool, true, false, true≢false}
use Prim.Native.Nat.{ℕ, zero, suc, ◌+◌, ◌-◌, ◌*◌, ◌/◌, ◌%◌, ◌^◌, ◌≤◌, ◌<◌}
use native.Mathlib.Nat.{pow-suc, one-le-pow, div-one, div-le_self, mul_assoc, mul_right_comm, lt_of_lt_of_le, le_trans, le_of_eq, pow-succ', mul-le-mul_right, mul-lt-mul_of_pos_right, lt_of_mul-lt-mul_right, eq_of_mul-eq-mul_right, div-lt_iff_lt-mul}
use native.Mathlib.Omega.{arith}
use mathlib.Core.List.{[], ◌∷◌, ◌++◌}
use lib.Dec.{eqb}
use lib.Pow.{pow-add}
use lib.ListN.{length, length-append}
use borrow.Author.Tests.{eqb-true, eqb-false}
use Rattle.field.specs.Bytes.{Bytes, ascii, pick, null?}
use Rattle.text.specs.Decimal.{digits, decimal, last_digits, pointed, shortest}
use Rattle.text.specs.DecimalText.{AllDigits, Digits, value, ReadsAs, whole, point, Means}
use Rattle.text.proofs.DecimalLaws.{tenth, place_left, decimal_each, decimal_some}
use Rattle.text.proofs.PlacesLaws.{one_place_less, last_digits_each, length_last_digits, length_pointed}

-- ---- digits read back

value_append : (m : ℕ) (a b : Bytes) → value m (a ++ b) ≡ value (value m a) b
unfolding value
value_append m [] b = refl
value_append m (c ∷ a) b = value_append (10 * m + (c - 48)) a b

-- n's last digit behind the others
value_digit : (n : ℕ) (acc : Bytes) → value (n / 10) ((48 + n % 10) ∷ acc) ≡ value n acc
unfolding value
value_digit n acc = let e : 10 * (n / 10) + ((48 + n % 10) - 48) ≡ n = omega arith in ap (λ (k : ℕ). value k acc) e

value_digits : (fuel n : ℕ) (acc : Bytes) → n < 10 ^ fuel → value 0 (digits fuel n acc) ≡ value n acc
unfolding digits
value_digits zero n acc h = let e : 0 ≡ n = omega arith in ap (λ (k : ℕ). value k acc) e
value_digits (suc fuel) n acc h =
    let p : suc fuel - 1 ≡ fuel = omega arith in
    let t : n / 10 < 10 ^ fuel = rw p at (tenth (suc fuel) n (omega arith) h) in
    on (eqb (n / 10) 0) refl (value_digits fuel (n / 10) ((48 + n % 10) ∷ acc) t ∙ value_digit n acc)
  where
    on : (b : Bool) → eqb (n / 10) 0 ≡ b → value 0 (digits fuel (n / 10) ((48 + n % 10) ∷ acc)) ≡ value n acc →
        value 0 (pick b ((48 + n % 10) ∷ acc) (digits fuel (n / 10) ((48 + n % 10) ∷ acc))) ≡ value n acc
    on true e r = let z : 0 ≡ n / 10 = sym (eqb-true (n / 10) 0 e) in ap (λ (k : ℕ). value k ((48 + n % 10) ∷ acc)) z ∙ value_digit n acc
    on false e r = r

value_last_digits : (k n : ℕ) (acc : Bytes) → value (n / 10 ^ k) (last_digits k n acc) ≡ value n acc
unfolding last_digits
value_last_digits zero n acc = ap (λ (k : ℕ). value k acc) (div-one n)
value_last_digits (suc k) n acc = rw (← one_place_less n k) (value_last_digits k (n / 10) ((48 + n % 10) ∷ acc) ∙ value_digit n acc)

one_more_digit : (k : ℕ) (b : Bytes) → k < 10 → AllDigits b → AllDigits ((48 + k) ∷ b)
unfolding AllDigits
one_more_digit k b l h = ((omega arith, omega arith), h)

decimal_digits : (n : ℕ) → Digits (decimal n)
unfolding AllDigits
decimal_digits n = (some (decimal n) (decimal_some n), decimal_each AllDigits one_more_digit tt n)
  where
    some : (b : Bytes) → null? b ≡ false → 0 < length b
    some [] h = absurd (true≢false h)
    some (c ∷ b) h = omega arith

last_digits_digits : (p n : ℕ) → Digits (last_digits (suc p) n [])
unfolding AllDigits
last_digits_digits p n = (omega (arith, length_last_digits (suc p) n []), last_digits_each AllDigits one_more_digit (suc p) n [] tt)

decimal_reads : (n : ℕ) → n < 10 ^ 20 → ReadsAs (decimal n) n 0
unfolding decimal value
decimal_reads n h = whole (decimal_digits n) (sym (value_digits 20 n [] h)) refl

pointed_reads : (n p : ℕ) → n < 10 ^ 20 → ReadsAs (pointed n (suc p)) n (suc p)
unfolding pointed decimal value
pointed_reads n p h =
    let w = n / 10 ^ suc p in
    let f = last_digits (suc p) n [] in
    let e = value_append 0 (decimal w) f ∙ ap (λ (k : ℕ). value k f) (value_digits 20 w [] (omega (arith, div-le_self n (10 ^ suc p)))) ∙ value_last_digits (suc p) n [] in
    point (decimal w) f refl (decimal_digits w) (last_digits_digits p n) (sym e) (omega (arith, length_last_digits (suc p) n []))

-- ---- ten times as much

ten_left : (m p : ℕ) → m * 10 ^ suc p ≡ m * 10 ^ p * 10
ten_left m p = ap (λ (k : ℕ). m * k) (pow-suc 10 p) ∙ sym (mul_assoc m (10 ^ p) 10)

ten_right : (n q : ℕ) → n % 10 ≡ 0 → n * 10 ^ q ≡ n / 10 * 10 ^ q * 10
ten_right n q e = let d : n ≡ n / 10 * 10 = omega arith in ap (λ (k : ℕ). k * 10 ^ q) d ∙ mul_right_comm (n / 10) 10 (10 ^ q)

-- the text means the number
pub shortest_means : (n p : ℕ) → n < 10 ^ 20 → Means (shortest n p) n p
unfolding shortest
shortest_means n zero h = record { number = n; places = 0; reads = decimal_reads n h; same = refl }
shortest_means n (suc p) h = on (eqb (n % 10) 0) refl (shortest_means (n / 10) p (omega arith))
  where
    on : (b : Bool) → eqb (n % 10) 0 ≡ b → Means (shortest (n / 10) p) (n / 10) p → Means (pick b (shortest (n / 10) p) (pointed n (suc p))) n (suc p)
    on true e f =
        record {
          number = f.number;
          places = f.places;
          reads = f.reads;
          same = ten_left f.number p ∙ ap (λ (k : ℕ). k * 10) f.same ∙ sym (ten_right n f.places (eqb-true (n % 10) 0 e));
        }
    on false e f = record { number = n; places = suc p; reads = pointed_reads n p h; same = refl }

-- ---- nothing shorter

-- digits make less than a power of ten
value_small : (m : ℕ) (w : Bytes) → AllDigits w → value m w < suc m * 10 ^ length w
unfolding AllDigits value
value_small m [] h = omega arith
value_small m (c ∷ w) h =
    let d : suc (10 * m + (c - 48)) ≤ suc m * 10 = omega arith in
    let e : suc m * 10 * 10 ^ length w ≡ suc m * 10 ^ suc (length w) = mul_assoc (suc m) 10 (10 ^ length w) ∙ ap (λ (k : ℕ). suc m * k) (sym (pow-succ' 10 (length w))) in
    lt_of_lt_of_le (value_small (10 * m + (c - 48)) w h.1) (le_trans (mul-le-mul_right (10 ^ length w) d) (le_of_eq e))

-- and a number so small has no more digits
digits_short : (fuel n k : ℕ) (acc : Bytes) → 0 < k → n < 10 ^ k → length (digits fuel n acc) ≤ k + length acc
unfolding digits
digits_short zero n k acc s h = omega arith
digits_short (suc fuel) n k acc s h =
    let t = tenth k n s h in
    on (eqb (n / 10) 0) refl (λ e. digits_short fuel (n / 10) (k - 1) ((48 + n % 10) ∷ acc) (place_left (k - 1) (n / 10) t e) t)
  where
    on : (b : Bool) → eqb (n / 10) 0 ≡ b → ((n / 10 ≡ 0 → ⊥) → length (digits fuel (n / 10) ((48 + n % 10) ∷ acc)) ≤ k - 1 + suc (length acc)) →
        length (pick b ((48 + n % 10) ∷ acc) (digits fuel (n / 10) ((48 + n % 10) ∷ acc))) ≤ k + length acc
    on true e r = omega arith
    on false e r = omega (arith, r (eqb-false (n / 10) 0 e))

decimal_short : (n k : ℕ) → 0 < k → n < 10 ^ k → length (decimal n) ≤ k
unfolding decimal
decimal_short n k s h = omega (arith, digits_short 20 n k [] s h)

all_digits_append : (a b : Bytes) → AllDigits a → AllDigits b → AllDigits (a ++ b)
unfolding AllDigits
all_digits_append [] b g h = h
all_digits_append (c ∷ a) b g h = (g.0, all_digits_append a b g.1 h)

-- what a text that reads as m / 10^q has: digits in front, enough for m with the q others, and a point where there are others
record Parts (t : Bytes) (m q : ℕ) : Type 0 where
  front : ℕ
  some : 0 < front
  small : m < 10 ^ front * 10 ^ q
  fits : front + q ≤ length t
  fits_point : 0 < q → front + suc q ≤ length t

parts_of : {t : Bytes} {m q : ℕ} → ReadsAs t m q → Parts t m q
parts_of {t} {m} {q} (whole d e z) =
    record {
      front = length t;
      some = d.0;
      small = rw (e, z) (omega (arith, value_small 0 t d.1));
      fits = omega arith;
      fits_point = λ h. absurd (omega arith);
    }
parts_of {t} {m} {q} (point w f e d g v l) =
    let n = ap (λ (b : Bytes). length b) e ∙ length-append w (46 ∷ f) in
    record {
      front = length w;
      some = d.0;
      small = rw (v, l) (omega (arith, rw (length-append, pow-add) at (value_small 0 (w ++ f) (all_digits_append w f d.1 g.1))));
      fits = omega (arith, n);
      fits_point = λ h. omega (arith, n);
    }

-- the whole part has no more digits than the text has in front
whole_small : (m n p q k : ℕ) → m * 10 ^ p ≡ n * 10 ^ q → m < 10 ^ k * 10 ^ q → n / 10 ^ p < 10 ^ k
whole_small m n p q k same h =
    let a : m * 10 ^ p < 10 ^ k * 10 ^ q * 10 ^ p = mul-lt-mul_of_pos_right h (one-le-pow p 10 (omega arith)) in
    let b : n * 10 ^ q < 10 ^ k * 10 ^ p * 10 ^ q = rw (same, mul_right_comm (10 ^ k) (10 ^ q) (10 ^ p)) at a in
    (div-lt_iff_lt-mul (one-le-pow p 10 (omega arith))).1 (lt_of_mul-lt-mul_right (10 ^ q) b)

-- a last digit that is not zero needs its place
enough_places : (m n p q : ℕ) → (n % 10 ≡ 0 → ⊥) → m * 10 ^ p ≡ n * 10 ^ q → p ≤ q
enough_places m n zero q e s = omega arith
enough_places m n (suc p) zero e s = absurd (e (omega (arith, ten_left m p)))
enough_places m n (suc p) (suc q) e s =
    let l = enough_places m n p q e (eq_of_mul-eq-mul_right 10 (omega arith) (m * 10 ^ p) (n * 10 ^ q) (sym (ten_left m p) ∙ s ∙ ten_left n q)) in
    omega arith

-- no shorter text means the number
pub nothing_shorter : (n p : ℕ) (t : Bytes) → Means t n p → length (shortest n p) ≤ length t
unfolding shortest
nothing_shorter n zero t r =
    let f = parts_of r.reads in
    let h = rw div-one at (whole_small r.number n 0 r.places f.front r.same f.small) in
    omega (arith, decimal_short n f.front f.some h, f.fits)
nothing_shorter n (suc p) t r = on (eqb (n % 10) 0) refl (λ s. nothing_shorter (n / 10) p t s)
  where
    on : (b : Bool) → eqb (n % 10) 0 ≡ b → (Means t (n / 10) p → length (shortest (n / 10) p) ≤ length t) →
        length (pick b (shortest (n / 10) p) (pointed n (suc p))) ≤ length t
    on true e ih =
        let both = sym (ten_left r.number p) ∙ r.same ∙ ten_right n r.places (eqb-true (n % 10) 0 e) in
        ih (record { number = r.number; places = r.places; reads = r.reads; same = eq_of_mul-eq-mul_right 10 (omega arith) (r.number * 10 ^ p) (n / 10 * 10 ^ r.places) both })
    on false e ih =
        let f = parts_of r.reads in
        let l = enough_places r.number n (suc p) r.places (eqb-false (n % 10) 0 e) r.same in
        let h = whole_small r.number n (suc p) r.places f.front r.same f.small in
        omega (arith, length_pointed n (suc p), decimal_short (n / 10 ^ suc p) f.front f.some h, f.fits_point (omega arith))

-- ---- a text has one reading

-- the point parts its digits in one way
one_point : (w f v g : Bytes) → AllDigits w → AllDigits v → w ++ (46 ∷ f) ≡ v ++ (46 ∷ g) → (w ≡ v) × (f ≡ g)
unfolding AllDigits
one_point [] f [] g a b e = (refl, cc)
one_point [] f (c ∷ v) g a b e = let h : 46 ≡ c = cc in absurd (omega arith)
one_point (c ∷ w) f [] g a b e = let h : c ≡ 46 = cc in absurd (omega arith)
one_point (c ∷ w) f (d ∷ v) g a b e =
    let h : c ≡ d = cc in
    let r = one_point w f v g a.1 b.1 (cc) in
    let t = r.0 in
    (cc, r.1)

no_point : (w f : Bytes) → AllDigits (w ++ (46 ∷ f)) → ⊥
unfolding AllDigits
no_point [] f h = omega arith
no_point (c ∷ w) f h = no_point w f h.1

pub one_reading : (t : Bytes) (m q n p : ℕ) → ReadsAs t m q → ReadsAs t n p → (m ≡ n) × (q ≡ p)
one_reading t m q n p (whole d e z) (whole a b c) = (e ∙ sym b, z ∙ sym c)
one_reading t m q n p (whole d e z) (point w f a b c x y) = absurd (no_point w f (subst AllDigits a d.1))
one_reading t m q n p (point w f e d g x y) (whole a b c) = absurd (no_point w f (subst AllDigits e a.1))
one_reading t m q n p (point w f e d g x y) (point v k a b c i j) =
    let r = one_point w f v k d.1 b.1 (sym e ∙ a) in
    let same_front = r.0 in
    let same_back = r.1 in
    (cc, cc)

-- ---- samples

pub samples :
    (shortest 125 1 ≡ ascii "12.5") × (shortest 5 1 ≡ ascii "0.5") × (shortest 100 2 ≡ ascii "1") × (shortest 1250 2 ≡ ascii "12.5") ×
    (shortest 0 15 ≡ ascii "0") × (shortest 1 15 ≡ ascii "0.000000000000001") ×
    (shortest 999999999999999 0 ≡ ascii "999999999999999") × (shortest 999999999999999 1 ≡ ascii "99999999999999.9") ×
    (shortest 999999999999999 14 ≡ ascii "9.99999999999999") × (shortest 999999999999999 15 ≡ ascii "0.999999999999999")
unfolding shortest pointed decimal digits last_digits
samples = (refl, refl, refl, refl, refl, refl, refl, refl, refl, refl)
