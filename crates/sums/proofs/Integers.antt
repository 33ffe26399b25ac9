-- What a sum comes to, said in integers: it is worked out exactly where no number and no step passes the bound and zero meets no negative, and
-- then it is the number that exact integer arithmetic gives. Main statements: `works_exactly`, `text_exactly`, `plus_exact`, `minus_exact`. Assumes nothing.
use Prim.Native.Nat.{ℕ, zero, suc, ◌+◌, ◌-◌, ◌*◌, ◌≤◌, ◌<◌}
use mathlib.Core.Path.{◌≡◌, refl, sym, ◌∙◌, ap, ap₂}
use mathlib.Core.Bool.{Bool, true, false, cond}
use mathlib.Core.Logic.{◌↔◌}
use native.Mathlib.Omega.{arith}
use native.Mathlib.Decide.{dec_le}
use native.Mathlib.Nat.{one-le-mul}
use lib.Dec.{leb, eqb}
use lib.IntN.{ℤ, pos, negsuc, neg_ℤ, nat_abs, ◌+ℤ◌, ◌-ℤ◌, ◌*ℤ◌}
use borrow.Author.Tests.{lt-ltb, le-ltb, le-leb, leb-true, eqb-false}
use Rattle.field.specs.Bytes.{Bytes}
use Rattle.sums.specs.Choice.{choose}
use Rattle.sums.specs.Grammar.{ReadsAs}
use Rattle.sums.specs.Machine.{sum_of}
use Rattle.sums.proofs.Exact.{sum_exactly}
use Rattle.sums.specs.Tree.{Tree, number, plus, minus, times}
use Rattle.sums.specs.Integer.{integer, signed, zero_negative, Steps}
use Rattle.sums.specs.Value.{most, upward, downward, difference, added, taken, multiplied, value}
use Rattle.sums.specs.Value.{Worked}
use Rattle.sums.specs.declared.value.Sum.TheVariants.{Plus, Minus}
use Rattle.std.specs.Prelude.{Some, None}
use Rattle.sums.proofs.Tests.{takes, leaves}
use Rattle.sums.proofs.Steps.{difference_up, difference_down, added_stays, taken_stays, multiplied_stays}

-- ---- differences

sub_up : (a b : ℕ) → b ≤ a → pos a -ℤ pos b ≡ pos (a - b)
sub_up a zero h = ap pos (omega arith)
sub_up a (suc b) h = ap (λ (t : Bool). cond t (negsuc (suc b - suc a)) (pos (a - suc b))) (le-ltb a (suc b) h)

sub_down : (a b : ℕ) → a < b → pos a -ℤ pos b ≡ neg_ℤ (pos (b - a))
sub_down a zero h = absurd (omega arith)
sub_down a (suc b) h =
    let k : suc (suc b - suc a) ≡ suc b - a = omega arith in
    ap (λ (t : Bool). cond t (negsuc (suc b - suc a)) (pos (a - suc b))) (lt-ltb a (suc b) h) ∙ ap (λ (x : ℕ). neg_ℤ (pos x)) k

-- ---- a step, held to the bound

bounded : ℤ → Worked
bounded z = choose (leb (nat_abs z) most) (signed z) None

up_bounded : (n : ℕ) → upward n ≡ bounded (pos n)
unfolding upward bounded signed
up_bounded n = refl

down_bounded : (n : ℕ) → 0 < n → downward n ≡ bounded (neg_ℤ (pos n))
unfolding downward bounded signed
down_bounded zero h = absurd (omega arith)
down_bounded (suc n) h = refl

difference_bounded : (a b : ℕ) → difference a b ≡ bounded (pos a -ℤ pos b)
difference_bounded a b = on (dec_le b a)
  where
    on : Dec (b ≤ a) → difference a b ≡ bounded (pos a -ℤ pos b)
    on (yes h) = difference_up a b (a - b) (omega arith) ∙ up_bounded (a - b) ∙ ap bounded (sym (sub_up a b h))
    on (no h) = difference_down a b (b - a) (omega arith) (omega arith) ∙ down_bounded (b - a) (omega arith) ∙ ap bounded (sym (sub_down a b (omega arith)))

both_down : (a b : ℕ) → downward (suc a + suc b) ≡ bounded (negsuc (suc (a + b)))
both_down a b =
    let k : suc a + suc b ≡ suc (suc (a + b)) = omega arith in
    ap downward k ∙ down_bounded (suc (suc (a + b))) (omega arith)

added_bounded : (y z : ℤ) → added (signed y) (signed z) ≡ bounded (y +ℤ z)
unfolding added signed
added_bounded (pos a) (pos b) = up_bounded (a + b)
added_bounded (pos a) (negsuc b) = difference_bounded a (suc b)
added_bounded (negsuc a) (pos b) = difference_bounded b (suc a)
added_bounded (negsuc a) (negsuc b) = both_down a b

taken_bounded : (y z : ℤ) → taken (signed y) (signed z) ≡ bounded (y -ℤ z)
unfolding taken signed
taken_bounded (pos a) (pos b) = difference_bounded a b
taken_bounded (pos a) (negsuc b) = up_bounded (a + suc b)
taken_bounded (negsuc a) (pos zero) =
    let k : suc a + 0 ≡ suc a = omega arith in
    ap downward k ∙ sym (difference_down 0 (suc a) (suc a) (omega arith) (omega arith)) ∙ difference_bounded 0 (suc a)
taken_bounded (negsuc a) (pos (suc b)) = both_down a b
taken_bounded (negsuc a) (negsuc b) = difference_bounded (suc b) (suc a)

mixed_bounded : (b : Bool) (n : ℕ) → (b ≡ false → 0 < n) → choose b None (downward n) ≡ choose b None (bounded (neg_ℤ (pos n)))
unfolding choose
mixed_bounded true n h = refl
mixed_bounded false n h = down_bounded n (h refl)

some : (a : ℕ) → eqb a 0 ≡ false → 1 ≤ a
some a e = let n = eqb-false a 0 e in omega arith

multiplied_bounded : (y z : ℤ) → multiplied (signed y) (signed z) ≡ choose (zero_negative y z) None (bounded (y *ℤ z))
unfolding multiplied signed zero_negative choose
multiplied_bounded (pos a) (pos b) = up_bounded (a * b)
multiplied_bounded (pos a) (negsuc b) = mixed_bounded (eqb a 0) (a * suc b) (λ e. one-le-mul (some a e) (omega arith))
multiplied_bounded (negsuc a) (pos b) = mixed_bounded (eqb b 0) (suc a * b) (λ e. one-le-mul (omega arith) (some b e))
multiplied_bounded (negsuc a) (negsuc b) = up_bounded (suc a * suc b)

-- ---- what is within the bound is answered, and only that

within : (z : ℤ) → nat_abs z ≤ most → bounded z ≡ signed z
unfolding bounded
within z h = sym (takes (leb (nat_abs z) most) (signed z) None (le-leb (nat_abs z) most h))

inside : (z : ℤ) → (bounded z ≡ None → ⊥) → nat_abs z ≤ most
unfolding bounded
inside z n = on (leb (nat_abs z) most) refl
  where
    on : (b : Bool) → leb (nat_abs z) most ≡ b → nat_abs z ≤ most
    on true e = leb-true (nat_abs z) most e
    on false e = absurd (n (sym (leaves (leb (nat_abs z) most) (signed z) None e)))

not_mixed : (b : Bool) (x : Worked) → (choose b None x ≡ None → ⊥) → b ≡ false
unfolding choose
not_mixed true x n = absurd (n refl)
not_mixed false x n = refl

pub steps_worked : (t : Tree) → Steps t → value t ≡ signed (integer t)
unfolding Steps value integer
steps_worked (number n) h = up_bounded n ∙ within (pos n) h
steps_worked (plus x y) h = ap₂ added (steps_worked x h.0) (steps_worked y h.1) ∙ added_bounded (integer x) (integer y) ∙ within (integer x +ℤ integer y) h.2
steps_worked (minus x y) h = ap₂ taken (steps_worked x h.0) (steps_worked y h.1) ∙ taken_bounded (integer x) (integer y) ∙ within (integer x -ℤ integer y) h.2
steps_worked (times x y) h =
    ap₂ multiplied (steps_worked x h.0) (steps_worked y h.1) ∙ multiplied_bounded (integer x) (integer y)
    ∙ sym (leaves (zero_negative (integer x) (integer y)) None (bounded (integer x *ℤ integer y)) h.3) ∙ within (integer x *ℤ integer y) h.2

-- a step on what stays stays
module _ (f : Worked → Worked → Worked) (l : (y : Worked) → f None y ≡ None) (r : (x : Worked) → f x None ≡ None) (x y : Worked) (n : f x y ≡ None → ⊥) where
  first_works : x ≡ None → ⊥
  first_works e = n (ap (λ (z : Worked). f z y) e ∙ l y)

  second_works : y ≡ None → ⊥
  second_works e = n (ap (f x) e ∙ r x)

stays_added : (y : Worked) → added None y ≡ None
unfolding added
stays_added y = refl

stays_taken : (y : Worked) → taken None y ≡ None
unfolding taken
stays_taken y = refl

stays_multiplied : (y : Worked) → multiplied None y ≡ None
unfolding multiplied
stays_multiplied y = refl

pub worked_steps : (t : Tree) → (value t ≡ None → ⊥) → Steps t
unfolding Steps value integer
worked_steps (number n) h = inside (pos n) (λ e. h (up_bounded n ∙ e))
worked_steps (plus x y) h =
    let p = worked_steps x (first_works added stays_added added_stays (value x) (value y) h) in
    let q = worked_steps y (second_works added stays_added added_stays (value x) (value y) h) in
    let e : value (plus x y) ≡ bounded (integer x +ℤ integer y) = ap₂ added (steps_worked x p) (steps_worked y q) ∙ added_bounded (integer x) (integer y) in
    (p, q, inside (integer x +ℤ integer y) (λ z. h (e ∙ z)))
worked_steps (minus x y) h =
    let p = worked_steps x (first_works taken stays_taken taken_stays (value x) (value y) h) in
    let q = worked_steps y (second_works taken stays_taken taken_stays (value x) (value y) h) in
    let e : value (minus x y) ≡ bounded (integer x -ℤ integer y) = ap₂ taken (steps_worked x p) (steps_worked y q) ∙ taken_bounded (integer x) (integer y) in
    (p, q, inside (integer x -ℤ integer y) (λ z. h (e ∙ z)))
worked_steps (times x y) h =
    let p = worked_steps x (first_works multiplied stays_multiplied multiplied_stays (value x) (value y) h) in
    let q = worked_steps y (second_works multiplied stays_multiplied multiplied_stays (value x) (value y) h) in
    let b : Bool = zero_negative (integer x) (integer y) in
    let z : ℤ = integer x *ℤ integer y in
    let e : value (times x y) ≡ choose b None (bounded z) = ap₂ multiplied (steps_worked x p) (steps_worked y q) ∙ multiplied_bounded (integer x) (integer y) in
    let m : b ≡ false = not_mixed b (bounded z) (λ k. h (e ∙ k)) in
    (p, q, inside z (λ k. h (e ∙ sym (leaves b None (bounded z) m) ∙ k)), m)

-- ---- exactly

pub works_exactly : (t : Tree) (w : Worked) → (w ≡ None → ⊥) → (value t ≡ w) ↔ (Steps t × (signed (integer t) ≡ w))
works_exactly t w n =
    (λ e. let s = worked_steps t (λ z. n (sym e ∙ z)) in (s, sym (steps_worked t s) ∙ e), λ p. steps_worked t p.0 ∙ p.1)

signed_plus : (z : ℤ) (n : ℕ) → signed z ≡ Some (Plus n) → z ≡ pos n
unfolding signed
signed_plus (pos m) n e = let k : m ≡ n = cc in ap pos k
signed_plus (negsuc m) n e = let k : ◌≡◌ {A = ℕ} 0 1 = cc in absurd (omega arith)

signed_minus : (z : ℤ) (n : ℕ) → signed z ≡ Some (Minus n) → z ≡ neg_ℤ (pos n)
unfolding signed
signed_minus (pos m) n e = let k : ◌≡◌ {A = ℕ} 0 1 = cc in absurd (omega arith)
signed_minus (negsuc m) n e = let k : suc m ≡ n = cc in ap (λ (x : ℕ). neg_ℤ (pos x)) k

pub plus_exact : (t : Tree) (n : ℕ) → value t ≡ Some (Plus n) → integer t ≡ pos n
plus_exact t n e = signed_plus (integer t) n ((works_exactly t (Some (Plus n)) (λ z. let k : ◌≡◌ {A = ℕ} 0 1 = cc in omega arith)).0 e).1

pub minus_exact : (t : Tree) (n : ℕ) → value t ≡ Some (Minus n) → integer t ≡ neg_ℤ (pos n)
minus_exact t n e = signed_minus (integer t) n ((works_exactly t (Some (Minus n)) (λ z. let k : ◌≡◌ {A = ℕ} 0 1 = cc in omega arith)).0 e).1

-- the same of a text: it comes to a number exactly where it reads as a sum whose steps are within the bound, and to that sum's integer
pub text_exactly : (s : Bytes) (w : Worked) → (w ≡ None → ⊥) → (sum_of s ≡ w) ↔ ((t : Tree) × ReadsAs s t × Steps t × (signed (integer t) ≡ w))
text_exactly s w n = (
  λ e. let p = (sum_exactly s w n).0 e in let q = (works_exactly p.0 w n).0 p.2 in (p.0, p.1, q.0, q.1),
  λ p. (sum_exactly s w n).1 (p.0, p.1, (works_exactly p.0 w n).1 (p.2, p.3)),
)
