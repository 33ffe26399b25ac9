-- Digits counted one by one, and what they make: a whole number, a decimal, or none. Main statements: `counting_on`, `counting_more`,
-- `counting_stops`, `number_whole`, `number_decimal` and those beside them. Assumes nothing.
use Prim.Native.Nat.{ℕ, ◌+◌, ◌-◌, ◌*◌, ◌^◌, ◌≤◌, ◌<◌}
use mathlib.Core.Path.{◌≡◌, refl, sym, ◌∙◌, ap, ap₂, subst}
use mathlib.Core.Bool.{Bool, true, false, ◌&&◌, ◌||◌, not, false≢true, and-false}
use mathlib.Core.List.{[], ◌∷◌, ◌++◌, append-nil}
use mathlib.Core.Logic.{◌⊎◌, inl, inr}
use native.Mathlib.Omega.{arith}
use native.Mathlib.Numerals.{add-one}
use borrow.Author.Tests.{leb-true, leb-false, lt-ltb, ltb-true, eq-eqb, eqb-true, not-false}
use lib.Dec.{T, leb, ltb, eqb, eqb→eq, nltb→le, not_T}
use lib.ListN.{length, take, drop, get_or, length-drop, drop_of_length-le}
use lib.Seq.{take-suc, take_all, length-take-le, get_or-take}
use Rattle.std.specs.Prelude.{Some, None}
use Rattle.field.specs.Bytes.{Bytes}
use Rattle.grammar.specs.Signs.{choose, each, digit}
use Rattle.grammar.specs.Known.{value_from, is_whole, is_decimal, before_point, after_point, is_empty_text}
use Rattle.grammar.specs.Grammar.{Ends, Run, run_ends, run_on}
use Rattle.grammar.proofs.Tests.{passed, at_eq}
use Rattle.grammar.proofs.Letters.{run_is}
use Rattle.read_tag.specs.Knowns.{Capped, Counted, Numbered}
use Rattle.read_tag.specs.declared.known.Digits.{Digits}
use Rattle.read_tag.specs.declared.known.Numeral.TheVariants as N
use Rattle.read_tag.proofs.RunLaws.{next, Running, running_none, tested_on, tested_stops, ran_out}
use Rattle.read_tag.proofs.TextLaws.{run_end}

-- ---- values

value_append : (n : ℕ) (w v : Bytes) → value_from n (w ++ v) ≡ value_from (value_from n w) v
unfolding value_from
value_append n [] v = refl
value_append n (c ∷ w) v = value_append (n * 10 + (c - 48)) w v

value_grows : (n : ℕ) (w : Bytes) → n ≤ value_from n w
unfolding value_from
value_grows n [] = omega arith
value_grows n (c ∷ w) =
    let h : n * 10 + (c - 48) ≤ value_from (n * 10 + (c - 48)) w = value_grows (n * 10 + (c - 48)) w in
    omega arith

-- digits behind digits that were counted
capped_then : (x v y : ℕ) (w : Bytes) → Capped x v → Capped (value_from v w) y → Capped (value_from x w) y
capped_then x v y w a b =
    record {
      small = λ h.
          let g : v ≤ 9_007_199_254_740_991 = omega (arith, b.small h, value_grows v w) in
          b.small h ∙ ap (λ (z : ℕ). value_from z w) (a.small g);
      large = λ h. on h (leb v 9_007_199_254_740_991) refl;
      low = b.low;
    }
  where
    on : 9_007_199_254_740_991 < y → (t : Bool) → leb v 9_007_199_254_740_991 ≡ t → 9_007_199_254_740_991 < value_from x w
    on h true e = subst (λ (z : ℕ). 9_007_199_254_740_991 < value_from z w) (a.small (leb-true v 9_007_199_254_740_991 e)) (b.large h)
    on h false e =
        let g : 9_007_199_254_740_991 < x = a.large (leb-false v 9_007_199_254_740_991 e) in
        omega (arith, value_grows x w)

-- ---- the loop

pub record Counting (s : Bytes) (n i v : ℕ) : Type 0 where
  pub run : Running digit s 0 i
  pub value : Capped (value_from n (take i s)) v

digit_small : (c : ℕ) (b : Bool) → b ≡ digit c → not b ≡ false → (48 ≤ c) × (c ≤ 57)
unfolding digit
digit_small c b e f = on (leb 48 c) refl (leb c 57) refl (sym e ∙ not-false b f)
  where
    on : (x : Bool) → leb 48 c ≡ x → (y : Bool) → leb c 57 ≡ y → (leb 48 c && leb c 57) ≡ true → (48 ≤ c) × (c ≤ 57)
    on true p true q z = (leb-true 48 c p, leb-true c 57 q)
    on true p false q z = absurd (false≢true (sym (ap₂ ◌&&◌ p q) ∙ z))
    on false p y q z = absurd (false≢true (sym (ap (λ (t : Bool). t && leb c 57) p) ∙ z))

module _ (s : Bytes) (n : ℕ) where
  pub counting_none : n < 2 ^ 60 → Counting s n 0 n
  unfolding value_from
  counting_none l = record { run = running_none digit s 0 (omega arith); value = record { small = λ g. refl; large = λ g. omega arith; low = l } }

  module _ (i v : ℕ) (u : Counting s n i v) (h : i < length s) (b : Bool) (e : b ≡ digit (get_or s i 0)) where
    pub counting_stops : not b ≡ true → Counted s n record { count = i; value = v }
    counting_stops f = record { ran = tested_stops digit s 0 i b u.run h e f; value = u.value }

    module _ (f : not b ≡ false) where
      counting_digit : (48 ≤ get_or s i 0) × (get_or s i 0 ≤ 57)
      counting_digit = digit_small (get_or s i 0) b e f

      grown : value_from n (take (i + 1) s) ≡ value_from n (take i s) * 10 + (get_or s i 0 - 48)
      unfolding value_from
      grown = ap (λ (m : ℕ). value_from n (take m s)) (add-one i) ∙ ap (value_from n) (take-suc s i 0 h) ∙ value_append n (take i s) (get_or s i 0 ∷ [])

      -- past the limit
      pub counting_more : 9_007_199_254_740_991 < v → Counting s n (i + 1) v
      counting_more l =
          let g : 9_007_199_254_740_991 < value_from n (take i s) = u.value.large l in
          record {
            run = tested_on digit s 0 i b u.run h e f;
            value = record { small = λ m. absurd (omega arith); large = λ m. omega (arith, grown); low = u.value.low };
          }

      pub counting_on : v ≤ 9_007_199_254_740_991 → Counting s n (i + 1) (v * 10 + (get_or s i 0 - 48))
      counting_on l =
          let g : v ≡ value_from n (take i s) = u.value.small l in
          let d = counting_digit in
          let w : v * 10 + (get_or s i 0 - 48) ≡ value_from n (take (i + 1) s) = omega (arith, grown) in
          record {
            run = tested_on digit s 0 i b u.run h e f;
            value = record { small = λ m. w; large = λ m. omega arith; low = omega arith };
          }

  pub counting_out : (i v : ℕ) → Counting s n i v → length s ≤ i → Counted s n record { count = i; value = v }
  counting_out i v u l = record { ran = ran_out digit s 0 i u.run l; value = u.value }

  counted_run : (a : Digits) → Counted s n a → Run digit s (take a.count s) (drop a.count s)
  counted_run a u =
      let z : a.count - 0 ≡ a.count = omega arith in
      subst (λ (m : ℕ). Run digit s (take m s) (drop a.count s)) z u.ran.run

-- ---- digits in front of something else

is_true : (b : Bool) → T b → b ≡ true
is_true true t = refl
is_true false t = absurd t

is_false : (b : Bool) → T (not b) → b ≡ false
is_false true t = absurd t
is_false false t = refl

digit_no_point : (c : ℕ) → T (digit c) → T (not (eqb c 46))
unfolding digit
digit_no_point c t = not_T (eqb c 46) (λ u. at_eq (λ (d : ℕ). T (digit d) → ⊥) c 46 u (λ x. x) t)

each_front : {s a r : Bytes} → Run digit s a r → (y : Bytes) → each digit (a ++ y) ≡ each digit y
unfolding each
each_front (run_ends e) y = refl
each_front (run_on {c} t q) y = ap₂ ◌&&◌ (is_true (digit c) t) (each_front q y)

before_front : {s a r : Bytes} → Run digit s a r → before_point s ≡ a ++ before_point r
unfolding before_point
before_front (run_ends e) = refl
before_front (run_on {c} {s} t q) = passed (eqb c 46) [] (c ∷ before_point s) (digit_no_point c t) ∙ ap (λ (z : Bytes). c ∷ z) (before_front q)

after_front : {s a r : Bytes} → Run digit s a r → after_point s ≡ after_point r
unfolding after_point
after_front (run_ends e) = refl
after_front (run_on {c} {s} t q) = passed (eqb c 46) s (after_point s) (digit_no_point c t) ∙ after_front q

-- ---- what is no whole number, and what is

other_each : (c : ℕ) (r : Bytes) → T (not (digit c)) → each digit (c ∷ r) ≡ false
unfolding each
other_each c r t = ap (λ (b : Bool). b && each digit r) (is_false (digit c) t)

whole_each : (w : Bytes) → each digit w ≡ false → is_whole w ≡ false
unfolding is_whole each
whole_each [] e = absurd (false≢true (sym e))
whole_each (c ∷ []) e = on (digit c) e
  where
    on : (b : Bool) → (b && true) ≡ false → b ≡ false
    on true f = f
    on false f = refl
whole_each (c ∷ d ∷ w) e = ap (λ (b : Bool). not (eqb c 48) && b) e ∙ and-false (not (eqb c 48))

no_decimal : (w : Bytes) → is_whole (before_point w) ≡ false → is_decimal w ≡ false
unfolding is_decimal
no_decimal w e = ap (λ (b : Bool). b && not (is_empty_text (after_point w)) && each digit (after_point w)) e

-- a needless zero
zero_whole : (a y : Bytes) → 2 ≤ length a → get_or a 0 0 ≡ 48 → is_whole (a ++ y) ≡ false
unfolding is_whole
zero_whole [] y l e = absurd (omega arith)
zero_whole (c ∷ []) y l e = absurd (omega arith)
zero_whole (c ∷ d ∷ a) y l e = ap (λ (b : Bool). not b && each digit (c ∷ d ∷ (a ++ y))) (eq-eqb c 48 e)

whole_is : (a : Bytes) → each digit a ≡ true → (length a ≡ 0 → ⊥) → (eqb (get_or a 0 0) 48 && ltb 1 (length a)) ≡ false → is_whole a ≡ true
unfolding is_whole
whole_is [] e n z = absurd (n refl)
whole_is (c ∷ []) e n z = on (digit c) (unfold each in e)
  where
    on : (b : Bool) → (b && true) ≡ true → b ≡ true
    on true f = refl
    on false f = f
whole_is (c ∷ d ∷ a) e n z = ap₂ (λ (x y : Bool). not x && y) (on (eqb c 48) (sym (ap (λ (b : Bool). eqb c 48 && b) (lt-ltb 1 (length (c ∷ d ∷ a)) (omega arith))) ∙ z)) e
  where
    on : (b : Bool) → (b && true) ≡ false → b ≡ false
    on true f = f
    on false f = refl

both : (a b : Bool) → (a && b) ≡ true → (a ≡ true) × (b ≡ true)
both true b e = (refl, e)
both false b e = absurd (false≢true e)

-- no digit in front
none_by : (c : ℕ) (r : Bytes) → T (not (digit c)) → (b : Bool) → is_whole (choose b [] (c ∷ before_point r)) ≡ false
unfolding choose is_whole
none_by c r t true = refl
none_by c r t false = whole_each (c ∷ before_point r) (other_each c (before_point r) t)

none_front : (s : Bytes) → Ends digit s → (is_whole s ≡ false) × (is_decimal s ≡ false)
unfolding Ends before_point is_whole is_decimal
none_front [] e = (refl, refl)
none_front (c ∷ s) e = (whole_each (c ∷ s) (other_each c s e), no_decimal (c ∷ s) (none_by c s e (eqb c 46)))

all_three : (x y z : Bool) → (y && z) ≡ false → (x && y && z) ≡ false
all_three true true z e = e
all_three true false z e = refl
all_three false true z e = refl
all_three false false z e = refl

no_digits : (y : Bytes) → Ends digit y → (not (is_empty_text y) && each digit y) ≡ false
unfolding Ends is_empty_text
no_digits [] e = refl
no_digits (c ∷ y) e = other_each c y e

not_empty : (y : Bytes) → 0 < length y → is_empty_text y ≡ false
unfolding is_empty_text
not_empty [] l = absurd (omega arith)
not_empty (c ∷ y) l = refl

some : (a b : Bool) → (a || b) ≡ true → (a ≡ true) ⊎ (b ≡ true)
some true b e = inl refl
some false b e = inr e

neither : (a b : Bool) → (a || b) ≡ false → (a ≡ false) × (b ≡ false)
neither true b e = cc
neither false b e = (refl, e)

module _ (s : Bytes) (a : Digits) (u : Counted s 0 a) where
  front : Bytes
  front = take a.count s

  front_length : length front ≡ a.count
  unfolding front
  front_length = length-take-le a.count s u.ran.inside

  front_run : Run digit s front (drop a.count s)
  unfolding front
  front_run = counted_run s 0 a u

  front_first : (a.count ≡ 0 → ⊥) → get_or front 0 0 ≡ get_or s 0 0
  unfolding front
  front_first n = get_or-take a.count s 0 0 (omega arith)

  pub number_none : a.count ≡ 0 → Numbered s None
  unfolding Numbered
  number_none e = none_front s (subst (λ (k : ℕ). Ends digit (drop k s)) e (run_end u.ran.run))

  pub number_zero : (eqb (get_or s 0 0) 48 && ltb 1 a.count) ≡ true → Numbered s None
  unfolding Numbered
  number_zero z =
      let b = both (eqb (get_or s 0 0) 48) (ltb 1 a.count) z in
      let l : 1 < a.count = ltb-true 1 a.count b.1 in
      let m : 2 ≤ length front = omega (arith, front_length) in
      let e : get_or front 0 0 ≡ 48 = front_first (λ q. omega arith) ∙ eqb-true (get_or s 0 0) 48 b.0 in
      (ap is_whole (run_is front_run) ∙ zero_whole front (drop a.count s) m e, no_decimal s (ap is_whole (before_front front_run) ∙ zero_whole front (before_point (drop a.count s)) m e))

  -- w is what follows them
  module _ (n : a.count ≡ 0 → ⊥) (z : (eqb (get_or s 0 0) 48 && ltb 1 a.count) ≡ false) (w : Bytes) (e : w ≡ drop a.count s) where
    front_whole : is_whole front ≡ true
    unfolding each
    front_whole =
        whole_is front (ap (each digit) (sym (append-nil front)) ∙ each_front front_run []) (λ q. n (sym front_length ∙ q))
        (ap₂ (λ (x y : ℕ). eqb x 48 && ltb 1 y) (front_first n) front_length ∙ z)

    pub number_whole : length w < 1 → Numbered s (Some (N.Whole a.value))
    unfolding Numbered front
    number_whole l =
        let q : front ≡ s = take_all a.count s (omega (arith, length-drop a.count s, ap length e)) in
        (ap is_whole (sym q) ∙ front_whole, subst (λ (v : Bytes). Capped (value_from 0 v) a.value) q u.value)

    module _ (l : 1 ≤ length w) where
      first_apart : w ≡ get_or w 0 0 ∷ drop 1 w
      first_apart = next w 0 (omega arith)

      no_digit : T (not (digit (get_or w 0 0)))
      unfolding Ends
      no_digit = subst (Ends digit) (sym e ∙ first_apart) (run_end front_run)

      no_whole : is_whole s ≡ false
      no_whole = whole_each s (ap (each digit) (run_is front_run ∙ ap (λ (y : Bytes). front ++ y) (sym e ∙ first_apart)) ∙ each_front front_run (get_or w 0 0 ∷ drop 1 w) ∙ other_each (get_or w 0 0) (drop 1 w) no_digit)

      before_is : before_point s ≡ front ++ before_point w
      before_is = before_front front_run ∙ ap (λ (y : Bytes). front ++ before_point y) (sym e)

      pub number_other : (get_or w 0 0 ≡ 46 → ⊥) → Numbered s None
      unfolding Numbered before_point
      number_other m =
          let c : ℕ = get_or w 0 0 in
          let x : Bytes = drop 1 w in
          let t : T (not (eqb c 46)) = not_T (eqb c 46) (λ q. m (eqb→eq c 46 q)) in (
            no_whole,
            no_decimal s
                (ap is_whole (before_is ∙ ap (λ (y : Bytes). front ++ y) (ap before_point first_apart ∙ passed (eqb c 46) [] (c ∷ before_point x) t)) ∙
                whole_each (front ++ (c ∷ before_point x)) (each_front front_run (c ∷ before_point x) ∙ other_each c (before_point x) no_digit)),
          )

      -- p is what follows the point
      module _ (pt : get_or w 0 0 ≡ 46) (p : Bytes) (f : p ≡ drop 1 w) where
        at_point : w ≡ 46 ∷ p
        at_point = first_apart ∙ ap₂ (λ (c : ℕ) (r : Bytes). c ∷ r) pt (sym f)

        before : before_point s ≡ front
        unfolding before_point choose
        before = before_is ∙ ap (λ (y : Bytes). front ++ before_point y) at_point ∙ append-nil front

        after : after_point s ≡ p
        unfolding after_point choose
        after = after_front front_run ∙ ap after_point (sym e ∙ at_point)

        decimal_is : is_decimal s ≡ (is_whole front && not (is_empty_text p) && each digit p)
        unfolding is_decimal
        decimal_is = ap₂ (λ (x y : Bytes). is_whole x && not (is_empty_text y) && each digit y) before after

        module _ (d : Digits) (v : Counted p a.value d) where
          places_run : Run digit p (take d.count p) (drop d.count p)
          places_run = counted_run p a.value d v

          each_place : (y : Bytes) → drop d.count p ≡ y → each digit p ≡ each digit y
          each_place y q = ap (each digit) (run_is places_run) ∙ each_front places_run (drop d.count p) ∙ ap (each digit) q

          no_place : d.count ≡ 0 → (not (is_empty_text p) && each digit p) ≡ false
          no_place q = no_digits p (subst (λ (k : ℕ). Ends digit (drop k p)) q (run_end v.ran.run))

          other_place : d.count < length p → (not (is_empty_text p) && each digit p) ≡ false
          unfolding Ends
          other_place h =
              let nx : drop d.count p ≡ get_or p d.count 0 ∷ drop (d.count + 1) p = next p d.count h in
              let t : T (not (digit (get_or p d.count 0))) = subst (Ends digit) nx (run_end v.ran.run) in
              let q : each digit p ≡ false = each_place (get_or p d.count 0 ∷ drop (d.count + 1) p) nx ∙ other_each (get_or p d.count 0) (drop (d.count + 1) p) t in
              ap (λ (b : Bool). not (is_empty_text p) && b) q ∙ and-false (not (is_empty_text p))

          pub number_broken : (eqb d.count 0 || ltb d.count (length p)) ≡ true → Numbered s None
          unfolding Numbered
          number_broken h = (no_whole, decimal_is ∙ all_three (is_whole front) (not (is_empty_text p)) (each digit p) (on (some (eqb d.count 0) (ltb d.count (length p)) h)))
            where
              on : (eqb d.count 0 ≡ true) ⊎ (ltb d.count (length p) ≡ true) → (not (is_empty_text p) && each digit p) ≡ false
              on (inl q) = no_place (eqb-true d.count 0 q)
              on (inr q) = other_place (ltb-true d.count (length p) q)

          counted : length p ≤ d.count → Capped (value_from a.value p) d.value
          counted h = subst (λ (y : Bytes). Capped (value_from a.value y) d.value) (take_all d.count p h) v.value

          first : Capped (value_from 0 front) a.value
          unfolding front
          first = u.value

          pub number_decimal : (eqb d.count 0 || ltb d.count (length p)) ≡ false → Numbered s (Some (N.Scaled d.value (length p)))
          unfolding Numbered
          number_decimal h =
              let b = neither (eqb d.count 0) (ltb d.count (length p)) h in
              let m : length p ≤ d.count = nltb→le d.count (length p) (subst (λ (x : Bool). T (not x)) (sym b.1) tt) in
              let i = v.ran.inside in
              let k : length p ≡ 0 → ⊥ = λ q. false≢true (sym b.0 ∙ eq-eqb d.count 0 (omega arith)) in
              let ne : is_empty_text p ≡ false = not_empty p (omega arith) in
              let ea : each digit p ≡ true = each_place [] (drop_of_length-le p m) ∙ (unfold each in refl) in
              let q : value_from 0 (before_point s ++ after_point s) ≡ value_from (value_from 0 front) p = ap₂ (λ (x y : Bytes). value_from 0 (x ++ y)) before after ∙ value_append 0 front p in (
                no_whole,
                decimal_is ∙ ap (λ (b : Bool). b && not (is_empty_text p) && each digit p) front_whole ∙ ap (λ (b : Bool). true && not b && each digit p) ne ∙ ap (λ (b : Bool). true && true && b) ea,
                subst (λ (x : ℕ). Capped x d.value) (sym q) (capped_then (value_from 0 front) a.value d.value p first (counted m)),
                ap length (sym after),
              )
