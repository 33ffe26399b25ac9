-- The small machine answers as the machine over trees does. Assumes nothing.
use Prim.Native.Nat.{ℕ, ◌+◌, ◌-◌, ◌*◌, ◌≤◌, ◌<◌}
use mathlib.Core.Path.{◌≡◌, refl, sym, ◌∙◌, ap}
use mathlib.Core.Bool.{Bool, true, false, ◌&&◌}
use mathlib.Core.List.{[], ◌∷◌}
use native.Mathlib.Omega.{arith}
use lib.Dec.{T, leb, eqb}
use borrow.Author.Tests.{le-leb, lt-leb, leb-true, leb-false}
use Rattle.sums.specs.Choice.{choose, digit}
use Rattle.field.specs.Bytes.{Bytes}
use Rattle.sums.specs.Tree.{Tree, number}
use Rattle.sums.specs.Value.{most, upward, value}
use Rattle.sums.specs.Machine.{found, sum_of, outcome, at_end, whole, start, sum_with, product_with, closed, step_behind, step}
use Rattle.sums.specs.Machine as M
use Rattle.sums.proofs.Tests.{takes, leaves}
use Rattle.sums.specs.Value.{Worked}
use Rattle.sums.specs.declared.value.Sum.TheVariants as W
use Rattle.std.specs.Prelude.{Some, None}
use Rattle.sums.specs.declared.reader.Before.{Before}
use Rattle.sums.specs.declared.reader.Before.TheVariants.{NoSum, SumPlus, SumMinus}
use Rattle.sums.specs.Small.{Factor, Waiting, State, Awaits, Digits, Behind, Act, Close}
use Rattle.sums.specs.Small.{finished, times_by, capped, grown, act_behind, act_awaits, act_digits, act, awaits, Stack, Small, stands, stopped, moved, small_step, ended, small_end, result}

before_worked : M.Before → Before
before_worked M.no_sum = NoSum
before_worked (M.sum_plus x) = SumPlus (value x)
before_worked (M.sum_minus x) = SumMinus (value x)

factor_worked : M.Factor → Factor
factor_worked M.no_product = None
factor_worked (M.product_times x) = Some (value x)

frames_worked : M.Stack → Stack
frames_worked [] = []
frames_worked (M.frame b f ∷ K) = (record { before = before_worked b; factor = factor_worked f }) ∷ frames_worked K

erase : M.State → Small
erase (M.awaits b f K) = stands (Awaits (record { before = before_worked b; factor = factor_worked f })) (frames_worked K)
erase (M.in_digits n b f K) = stands (Digits (capped n) (record { before = before_worked b; factor = factor_worked f })) (frames_worked K)
erase (M.behind b y K) = stands (Behind (before_worked b) (value y)) (frames_worked K)
erase M.refused = stopped

-- two choices by one test, seen alike
alike : {A C D : Type 0} (e : A → D) (m : C → D) (b : Bool) (x y : A) (p q : C) → (T b → e x ≡ m p) → e y ≡ m q → e (choose b x y) ≡ m (choose b p q)
unfolding choose
alike e m true x y p q f g = f tt
alike e m false x y p q f g = g

sum_worked : (b : M.Before) (y : Tree) → value (sum_with b y) ≡ finished (before_worked b) (value y)
unfolding sum_with finished value before_worked
sum_worked M.no_sum y = refl
sum_worked (M.sum_plus x) y = refl
sum_worked (M.sum_minus x) y = refl

product_worked : (f : M.Factor) (y : Tree) → value (product_with f y) ≡ times_by (factor_worked f) (value y)
unfolding product_with times_by value factor_worked
product_worked M.no_product y = refl
product_worked (M.product_times x) y = refl

-- ---- sizes past the bound are alike
capped_fits : (n : ℕ) → n ≤ most → capped n ≡ n
unfolding capped
capped_fits n h = sym (takes (leb n most) n 9007199254740992 (le-leb n most h))

capped_past : (n : ℕ) → most < n → capped n ≡ 9007199254740992
unfolding capped
capped_past n h = sym (leaves (leb n most) n 9007199254740992 (lt-leb n most h))

grown_capped : (n c : ℕ) → capped (n * 10 + (c - 48)) ≡ grown (capped n) c
unfolding grown
grown_capped n c = on (leb n most) refl
  where
    on : (b : Bool) → leb n most ≡ b → capped (n * 10 + (c - 48)) ≡ capped (capped n * 10 + (c - 48))
    on true e = ap (λ (k : ℕ). capped (k * 10 + (c - 48))) (sym (capped_fits n (leb-true n most e)))
    on false e =
        let h : most < n = leb-false n most e in
        let k : capped n ≡ 9007199254740992 = capped_past n h in
        capped_past (n * 10 + (c - 48)) (omega arith) ∙ sym (capped_past (capped n * 10 + (c - 48)) (omega arith))

upward_capped : (n : ℕ) → upward n ≡ upward (capped n)
unfolding upward
upward_capped n = on (leb n most) refl
  where
    on : (b : Bool) → leb n most ≡ b → upward n ≡ upward (capped n)
    on true e = ap upward (sym (capped_fits n (leb-true n most e)))
    on false e =
        let h : most < n = leb-false n most e in
        let k : capped n ≡ 9007199254740992 = capped_past n h in
        sym (leaves (leb n most) (Some (W.Plus n)) None e) ∙ leaves (leb (capped n) most) (Some (W.Plus (capped n))) None (lt-leb (capped n) most (omega arith))

digit_fits : (c : ℕ) → T (digit c) → capped (c - 48) ≡ c - 48
unfolding digit
digit_fits c t = on (leb 48 c) (leb c 57) refl t
  where
    on : (a b : Bool) → leb c 57 ≡ b → T (a && b) → capped (c - 48) ≡ c - 48
    on true true e u = let h : c ≤ 57 = leb-true c 57 e in capped_fits (c - 48) (omega arith)
    on true false e u = absurd u
    on false b e u = absurd u

-- ---- a step
closed_worked : (x : Tree) (K : M.Stack) → erase (closed x K) ≡ moved (Close (value x)) (frames_worked K)
unfolding closed moved erase frames_worked
closed_worked x [] = refl
closed_worked x (M.frame b f ∷ K) = ap (λ (w : Worked). stands (Behind (before_worked b) w) (frames_worked K)) (product_worked f x)

behind_worked : (b : M.Before) (y : Tree) (K : M.Stack) (c : ℕ) → erase (step_behind b y K c) ≡ moved (act_behind (before_worked b) (value y) c) (frames_worked K)
unfolding step_behind act_behind erase moved before_worked factor_worked
behind_worked b y K c =
    let m : Act → Small = λ a. moved a (frames_worked K) in
    alike erase m (eqb c 32) _ _ _ _ (λ _. refl)
    (alike erase m (eqb c 43) _ _ _ _ (λ _. ap (λ (w : Worked). stands (awaits (SumPlus w)) (frames_worked K)) (sum_worked b y))
    (alike erase m (eqb c 45) _ _ _ _ (λ _. ap (λ (w : Worked). stands (awaits (SumMinus w)) (frames_worked K)) (sum_worked b y))
    (alike erase m (eqb c 42) _ _ _ _ (λ _. refl)
    (alike erase m (eqb c 41) _ _ _ _ (λ _. closed_worked (sum_with b y) K ∙ ap (λ (w : Worked). moved (Close w) (frames_worked K)) (sum_worked b y)) refl))))

number_worked : (f : M.Factor) (n : ℕ) → value (product_with f (number n)) ≡ times_by (factor_worked f) (upward n)
unfolding value
number_worked f n = product_worked f (number n)

step_worked : (x : M.State) (c : ℕ) → erase (step x c) ≡ small_step (erase x) c
unfolding step small_step act act_awaits act_digits erase moved before_worked factor_worked frames_worked
step_worked (M.awaits b f K) c =
    let m : Act → Small = λ a. moved a (frames_worked K) in
    alike erase m (eqb c 32) _ _ _ _ (λ _. refl)
    (alike erase m (eqb c 48) _ _ _ _ (λ _. ap (λ (w : Worked). stands (Behind (before_worked b) w) (frames_worked K)) (number_worked f 0))
    (alike erase m (digit c) _ _ _ _ (λ u. ap (λ (n : ℕ). stands (Digits n (record { before = before_worked b; factor = factor_worked f })) (frames_worked K)) (digit_fits c u))
    (alike erase m (eqb c 40) _ _ _ _ (λ _. refl) refl)))
step_worked (M.in_digits n b f K) c =
    let m : Act → Small = λ a. moved a (frames_worked K) in
    alike erase m (digit c) _ _ _ _ (λ u. ap (λ (k : ℕ). stands (Digits k (record { before = before_worked b; factor = factor_worked f })) (frames_worked K)) (grown_capped n c))
    (behind_worked b (product_with f (number n)) K c ∙ ap (λ (w : Worked). moved (act_behind (before_worked b) w c) (frames_worked K)) (number_worked f n ∙ ap (times_by (factor_worked f)) (upward_capped n)))
step_worked (M.behind b y K) c = behind_worked b y K c
step_worked M.refused c = refl

-- ---- the end, and all
whole_worked : (x : Tree) (K : M.Stack) (y : State) → value x ≡ ended y → found (whole x K) ≡ small_end (stands y (frames_worked K))
unfolding found whole small_end frames_worked
whole_worked x [] y e = e
whole_worked x (M.frame b f ∷ K) y e = refl

await_worked : (w : Waiting) (K : Stack) → None ≡ small_end (stands (Awaits w) K)
unfolding small_end ended
await_worked w [] = refl
await_worked w (g ∷ K) = refl

end_worked : (x : M.State) → found (at_end x) ≡ small_end (erase x)
unfolding at_end erase ended found small_end
end_worked (M.awaits b f K) = await_worked (record { before = before_worked b; factor = factor_worked f }) (frames_worked K)
end_worked (M.in_digits n b f K) =
    whole_worked _ K (Digits (capped n) (record { before = before_worked b; factor = factor_worked f }))
    (sum_worked b (product_with f (number n)) ∙ ap (finished (before_worked b)) (number_worked f n ∙ ap (times_by (factor_worked f)) (upward_capped n)))
end_worked (M.behind b y K) = whole_worked _ K (Behind (before_worked b) (value y)) (sum_worked b y)
end_worked M.refused = refl

all_worked : (x : M.State) (s : Bytes) → found (outcome x s) ≡ result (erase x) s
unfolding outcome result
all_worked x [] = end_worked x
all_worked x (c ∷ s) = all_worked (step x c) s ∙ ap (λ (z : Small). result z s) (step_worked x c)

pub result_is : (s : Bytes) → result (stands (awaits NoSum) []) s ≡ sum_of s
unfolding sum_of erase before_worked factor_worked frames_worked
result_is s = sym (all_worked start s)
