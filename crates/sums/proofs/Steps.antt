-- Sizes and signs: what passes the bound stays, and what stays makes all stay. Main statements: `bounded_is`, `up_passes`, `down_passes`,
-- `difference_up`, `difference_down`, `taken_as`, `up_capped`, `down_capped`, `none_added`, `none_multiplied`. Assumes nothing.
use Prim.Native.Nat.{ℕ, ◌+◌, ◌-◌, ◌^◌, ◌≤◌, ◌<◌, min}
use mathlib.Core.Bool.{Bool, true, false}
use mathlib.Core.Path.{◌≡◌, refl, sym, ◌∙◌, ap}
use mathlib.Core.Logic.{◌⊎◌, inl, inr}
use native.Mathlib.Omega.{arith}
use native.Mathlib.Decide.{dec_le}
use lib.Dec.{leb, eqb}
use native.Mathlib.Nat.{mul_comm}
use Rattle.sums.specs.Choice.{choose}
use Rattle.sums.specs.Small.{size, bounded, opposite, mixed_product}
use borrow.Author.Tests.{le-leb, lt-leb}
use Rattle.sums.specs.Value.{most, upward, downward, difference, added, taken, multiplied}
use Rattle.sums.proofs.Tests.{takes, leaves}
use Rattle.sums.specs.Value.{Worked}
use Rattle.sums.specs.declared.value.Sum.{Sum}
use Rattle.sums.specs.declared.value.Sum.TheVariants.{Plus, Minus}
use Rattle.std.specs.Prelude.{Some, None}
use Rattle.std.specs.Bool.{then_some}
use Rattle.std.specs.Option.{MatchOption, IsSomeAnd}

-- ---- a size and its sign

pub up_passes : (n : ℕ) → most < n → None ≡ upward n
unfolding upward
up_passes n h = leaves (leb n most) (Some (Plus n)) None (lt-leb n most h)

pub down_passes : (n : ℕ) → most < n → None ≡ downward n
unfolding downward
down_passes n h = leaves (leb n most) (Some (Minus n)) None (lt-leb n most h)

in_bound : (b : Bool) (n : Sum) → then_some b n ≡ choose b (Some n) None
unfolding choose
in_bound true n = refl
in_bound false n = refl

pub bounded_is : (n : Sum) → then_some (leb (size n) most) n ≡ bounded n
unfolding upward downward
bounded_is (Plus n) = in_bound (leb n most) (Plus n)
bounded_is (Minus n) = in_bound (leb n most) (Minus n)

pub difference_up : (a b n : ℕ) → a ≡ b + n → difference a b ≡ upward n
unfolding difference
difference_up a b n e =
    let k : a - b ≡ n = omega arith in
    sym (takes (leb b a) (upward (a - b)) (downward (b - a)) (le-leb b a (omega arith))) ∙ ap upward k

pub difference_down : (a b n : ℕ) → b ≡ a + n → 0 < n → difference a b ≡ downward n
unfolding difference
difference_down a b n e h =
    let k : b - a ≡ n = omega arith in
    sym (leaves (leb b a) (upward (a - b)) (downward (b - a)) (lt-leb b a (omega arith))) ∙ ap downward k

pub added_stays : (x : Worked) → added x None ≡ None
unfolding added
added_stays None = refl
added_stays (Some (Plus a)) = refl
added_stays (Some (Minus a)) = refl

pub taken_stays : (x : Worked) → taken x None ≡ None
unfolding taken
taken_stays None = refl
taken_stays (Some (Plus a)) = refl
taken_stays (Some (Minus a)) = refl

pub multiplied_stays : (x : Worked) → multiplied x None ≡ None
unfolding multiplied
multiplied_stays None = refl
multiplied_stays (Some (Plus a)) = refl
multiplied_stays (Some (Minus a)) = refl

-- a less b is a and the opposite of b together
pub taken_as : (a b m : Worked) → MatchOption b (m ≡ None) (λ x. IsSomeAnd m (λ y. y ≡ opposite x)) → added a m ≡ taken a b
unfolding added taken
taken_as None b m h = refl
taken_as (Some (Plus a)) None m h = ap (added (Some (Plus a))) h
taken_as (Some (Minus a)) None m h = ap (added (Some (Minus a))) h
taken_as (Some (Plus a)) (Some (Plus b)) None h = absurd h
taken_as (Some (Plus a)) (Some (Plus b)) (Some y) h = ap (λ (z : Sum). added (Some (Plus a)) (Some z)) h
taken_as (Some (Plus a)) (Some (Minus b)) None h = absurd h
taken_as (Some (Plus a)) (Some (Minus b)) (Some y) h = ap (λ (z : Sum). added (Some (Plus a)) (Some z)) h
taken_as (Some (Minus a)) (Some (Plus b)) None h = absurd h
taken_as (Some (Minus a)) (Some (Plus b)) (Some y) h = ap (λ (z : Sum). added (Some (Minus a)) (Some z)) h
taken_as (Some (Minus a)) (Some (Minus b)) None h = absurd h
taken_as (Some (Minus a)) (Some (Minus b)) (Some y) h = ap (λ (z : Sum). added (Some (Minus a)) (Some z)) h

-- ---- sizes past 64 bits are past the bound

pub up_capped : (n : ℕ) → upward (min n (2 ^ 64 - 1)) ≡ upward n
up_capped n = on (dec_le n most)
  where
    on : Dec (n ≤ most) → upward (min n (2 ^ 64 - 1)) ≡ upward n
    on (yes h) = let e : min n (2 ^ 64 - 1) ≡ n = omega arith in ap upward e
    on (no h) = sym (up_passes (min n (2 ^ 64 - 1)) (omega arith)) ∙ up_passes n (omega arith)

pub down_capped : (n : ℕ) → downward (min n (2 ^ 64 - 1)) ≡ downward n
down_capped n = on (dec_le n most)
  where
    on : Dec (n ≤ most) → downward (min n (2 ^ 64 - 1)) ≡ downward n
    on (yes h) = let e : min n (2 ^ 64 - 1) ≡ n = omega arith in ap downward e
    on (no h) = sym (down_passes (min n (2 ^ 64 - 1)) (omega arith)) ∙ down_passes n (omega arith)

-- ---- what stays makes all stay

pub none_added : (x y : Worked) → (x ≡ None) ⊎ (y ≡ None) → None ≡ added x y
unfolding added
none_added x y (inl e) = ap (λ (z : Worked). added z y) (sym e)
none_added x y (inr e) = sym (ap (added x) e ∙ added_stays x)

pub none_multiplied : (x y : Worked) → (x ≡ None) ⊎ (y ≡ None) → None ≡ multiplied x y
unfolding multiplied
none_multiplied x y (inl e) = ap (λ (z : Worked). multiplied z y) (sym e)
none_multiplied x y (inr e) = sym (ap (multiplied x) e ∙ multiplied_stays x)

-- ---- zero and a negative

pub mixed_right : (x y : ℕ) → mixed_product x y ≡ multiplied (Some (Plus x)) (Some (Minus y))
unfolding mixed_product multiplied
mixed_right x y = refl

pub mixed_left : (x y : ℕ) → mixed_product y x ≡ multiplied (Some (Minus x)) (Some (Plus y))
unfolding mixed_product multiplied
mixed_left x y = ap (λ (z : ℕ). choose (eqb y 0) None (downward z)) (mul_comm y x)
