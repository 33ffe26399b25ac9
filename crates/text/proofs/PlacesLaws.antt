-- Laws of digits over a power of ten.
-- Main statements: `placing_more`, `placed` for `put_pointed`; `shortest_whole`, `shortest_less`, `shortest_pointed` for
-- `put_shortest`; `length_shortest`, `shortest_all_bytes`, `shortest_some`, `shortest_escaped`, and `shortest_each`, by which every byte
-- is a digit or the point.
-- Assumes nothing.
use mathlib.Core.Path.{◌≡◌, refl, sym, ap, ◌∙◌, subst}
use mathlib.Core.Bool.{Bool, true, false}
use Prim.Native.Nat.{ℕ, zero, suc, ◌+◌, ◌-◌, ◌/◌, ◌%◌, ◌^◌, ◌≤◌, ◌<◌}
use native.Mathlib.Nat.{pow-succ', div-div-eq-div-mul, div-one}
use native.Mathlib.Omega.{arith}
use mathlib.Core.List.{[], ◌∷◌, ◌++◌}
use lib.Dec.{eqb}
use lib.ListN.{length, set, take, drop, length-set, length-drop, length-append}
use lib.Seq.{take_all}
use borrow.Author.Tests.{eq-eqb, ne_eqb}
use Rattle.field.specs.Bytes.{Bytes, AllBytes, pick, null?}
use Rattle.text.specs.Escape.{escape_html}
use Rattle.text.specs.Runs.{all, plain}
use Rattle.text.specs.Decimal.{digits, decimal, last_digits, pointed, shortest}
use Rattle.text.proofs.EscapeLaws.{escape_plain_run}
use Rattle.text.proofs.DecimalLaws.{set_front, pick_each, digits_each, decimal_each, length_decimal, decimal_some}

-- a tenth of m, and one place less
pub one_place_less : (m k : ℕ) → m / 10 / 10 ^ k ≡ m / 10 ^ suc k
one_place_less m k = div-div-eq-div-mul m 10 (10 ^ k) ∙ ap (λ (d : ℕ). m / d) (sym (pow-succ' 10 k))

-- ---- the loop of `put_pointed`: `left` places of m are still to come in front of those from i on, and the point has a place too
pub record Placing (n places : ℕ) (buf : Bytes) (i m left : ℕ) : Type 0 where
  pub size : length buf ≡ 16
  pub room : left < i
  pub within : i ≤ 16
  pub whole : m / 10 ^ left ≡ n / 10 ^ places
  pub rest : last_digits left m (drop i buf) ≡ last_digits places n []

pub placing_more : {n places i m left : ℕ} {buf : Bytes} (less : ℕ) → Placing n places buf i m left → left ≡ suc less →
    Placing n places (set buf (i - 1) (48 + m % 10)) (i - 1) (m / 10) less
unfolding last_digits
placing_more {n} {places} {i} {m} {left} {buf} less f e =
    let front = set_front buf i (48 + m % 10) (omega (arith, f.room)) (omega (arith, f.size, f.within)) in
    let rest : last_digits (suc less) m (drop i buf) ≡ last_digits places n [] = rw e at f.rest in
    record {
      size = rw length-set f.size;
      room = omega (arith, f.room);
      within = omega (arith, f.within);
      whole = one_place_less m less ∙ ap (λ (k : ℕ). m / 10 ^ k) (sym e) ∙ f.whole;
      rest = ap {B = Bytes} (λ t. last_digits less (m / 10) t) front ∙ rest;
    }

pub placed : {n places i m left : ℕ} {buf : Bytes} (first : ℕ) → Placing n places buf i m left → left ≡ 0 → i ≡ first →
    decimal m ++ take (16 - (first - 1)) (drop (first - 1) (set buf (first - 1) 46)) ≡ pointed n places
unfolding last_digits pointed
placed {n} {places} {i} {m} {left} {buf} first f e q =
    let g = subst (λ (k : ℕ). Placing n places buf k m left) q f in
    let b = set buf (first - 1) 46 in
    let all = take_all (16 - (first - 1)) (drop (first - 1) b) (rw (length-drop, length-set) (omega (arith, g.size))) in
    let front = set_front buf first 46 (omega (arith, g.room)) (omega (arith, g.size, g.within)) in
    let rest : drop first buf ≡ last_digits places n [] = rw e at g.rest in
    let whole : m / 1 ≡ n / 10 ^ places = rw e at g.whole in
    rw (all, front, rest, ← whole, div-one)

-- ---- the loop of `put_shortest`

pub shortest_whole : (m left : ℕ) → left ≡ 0 → shortest m left ≡ decimal m
unfolding shortest
shortest_whole m zero e = refl
shortest_whole m (suc left) e = absurd (omega arith)

-- a zero goes
pub shortest_less : (m left : ℕ) → (left ≡ 0 → ⊥) → m % 10 ≡ 0 → shortest (m / 10) (left - 1) ≡ shortest m left
unfolding shortest
shortest_less m zero some e = absurd (some refl)
shortest_less m (suc left) some e = let p : suc left - 1 ≡ left = omega arith in rw (eq-eqb (m % 10) 0 e, p)

-- any other digit stays, and the point in front of it
pub shortest_pointed : (m left : ℕ) → (left ≡ 0 → ⊥) → (m % 10 ≡ 0 → ⊥) → shortest m left ≡ pointed m left
unfolding shortest
shortest_pointed m zero some e = absurd (some refl)
shortest_pointed m (suc left) some e = rw (ne_eqb (m % 10) 0 e)

-- ---- what callers cite

pub last_digits_each : (P : Bytes → Type 0) (digit : (k : ℕ) (b : Bytes) → k < 10 → P b → P ((48 + k) ∷ b)) (k n : ℕ) (acc : Bytes) → P acc →
    P (last_digits k n acc)
unfolding last_digits
last_digits_each P digit zero n acc h = h
last_digits_each P digit (suc k) n acc h = last_digits_each P digit k (n / 10) ((48 + n % 10) ∷ acc) (digit (n % 10) acc (omega arith) h)

pub length_last_digits : (k n : ℕ) (acc : Bytes) → length (last_digits k n acc) ≡ k + length acc
unfolding last_digits
length_last_digits zero n acc = omega arith
length_last_digits (suc k) n acc = omega (arith, length_last_digits k (n / 10) ((48 + n % 10) ∷ acc))

-- what holds of whole numbers and of pointed ones holds of the shortest
shortest_by : (P : Bytes → Type 0) → ((n : ℕ) → P (decimal n)) → ((n p : ℕ) → P (pointed n (suc p))) → (n p : ℕ) → P (shortest n p)
unfolding shortest
shortest_by P whole point n zero = whole n
shortest_by P whole point n (suc p) = pick_each P (eqb (n % 10) 0) (shortest_by P whole point (n / 10) p) (point n p)

digits_append : (fuel n : ℕ) (acc t : Bytes) → digits fuel n acc ++ t ≡ digits fuel n (acc ++ t)
unfolding digits
digits_append zero n acc t = refl
digits_append (suc fuel) n acc t = on (eqb (n / 10) 0) (digits_append fuel (n / 10) ((48 + n % 10) ∷ acc) t)
  where
    on : (b : Bool) → digits fuel (n / 10) ((48 + n % 10) ∷ acc) ++ t ≡ digits fuel (n / 10) ((48 + n % 10) ∷ (acc ++ t)) →
        pick b ((48 + n % 10) ∷ acc) (digits fuel (n / 10) ((48 + n % 10) ∷ acc)) ++ t ≡ pick b ((48 + n % 10) ∷ (acc ++ t)) (digits fuel (n / 10) ((48 + n % 10) ∷ (acc ++ t)))
    on true h = refl
    on false h = h

-- the whole part's digits stand in front of the point
pointed_is : (n p : ℕ) → pointed n p ≡ digits 20 (n / 10 ^ p) (46 ∷ last_digits p n [])
unfolding pointed decimal
pointed_is n p = digits_append 20 (n / 10 ^ p) [] (46 ∷ last_digits p n [])

-- every byte is a digit or the point: what putting one in front keeps holds of the whole
module _ (P : Bytes → Type 0) (digit : (k : ℕ) (b : Bytes) → k < 10 → P b → P ((48 + k) ∷ b)) (point : (b : Bytes) → P b → P (46 ∷ b)) (none : P []) where
  pointed_each : (n p : ℕ) → P (pointed n p)
  pointed_each n p =
      let places = last_digits_each P digit p n [] none in
      rw pointed_is (digits_each P digit 20 (n / 10 ^ p) (46 ∷ last_digits p n []) (point (last_digits p n []) places))

  pub shortest_each : (n p : ℕ) → P (shortest n p)
  shortest_each = shortest_by P (decimal_each P digit none) (λ n p. pointed_each n (suc p))

pub shortest_all_bytes : (n p : ℕ) → AllBytes (shortest n p)
unfolding AllBytes
shortest_all_bytes = shortest_each AllBytes (λ k b l h. (omega arith, h)) (λ b h. (omega arith, h)) tt

-- nothing to escape
pub shortest_escaped : (n p : ℕ) → escape_html (shortest n p) ≡ shortest n p
unfolding all plain
shortest_escaped n p = escape_plain_run (shortest n p) (shortest_each (λ b. all plain b ≡ true) digit (λ b h. h) refl n p)
  where
    digit : (k : ℕ) (b : Bytes) → k < 10 → all plain b ≡ true → all plain ((48 + k) ∷ b) ≡ true
    digit k b l h =
        rw (ne_eqb (48 + k) 34 (λ e. omega arith), ne_eqb (48 + k) 38 (λ e. omega arith), ne_eqb (48 + k) 39 (λ e. omega arith), ne_eqb (48 + k) 60 (λ e. omega arith), ne_eqb (48 + k) 62 (λ e. omega arith), h)

-- there is a digit
pub shortest_some : (n p : ℕ) → null? (shortest n p) ≡ false
shortest_some = shortest_by (λ b. null? b ≡ false) decimal_some (λ n p. pointed_some n (suc p))
  where
    pointed_some : (n p : ℕ) → null? (pointed n p) ≡ false
    pointed_some n p = rw pointed_is (digits_each (λ b. null? b ≡ false) (λ k b l h. refl) 20 (n / 10 ^ p) (46 ∷ last_digits p n []) refl)

pub length_pointed : (n p : ℕ) → length (pointed n p) ≡ length (decimal (n / 10 ^ p)) + suc p
unfolding pointed
length_pointed n p = omega (arith, length-append (decimal (n / 10 ^ p)) (46 ∷ last_digits p n []), length_last_digits p n [])

pub length_shortest : (n p : ℕ) → length (shortest n p) ≤ 21 + p
unfolding shortest
length_shortest n zero = omega (arith, length_decimal n)
length_shortest n (suc p) =
    pick_each (λ b. length b ≤ 21 + suc p) (eqb (n % 10) 0) (omega (arith, length_shortest (n / 10) p))
    (omega (arith, length_pointed n (suc p), length_decimal (n / 10 ^ suc p)))
