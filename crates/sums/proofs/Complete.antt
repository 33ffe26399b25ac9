-- Whatever the grammar has is read, and read as the grammar has it: by induction on derivations, for every stack. Assumes nothing.
use Prim.Native.Nat.{ℕ, ◌+◌, ◌-◌, ◌*◌}
use mathlib.Core.Path.{◌≡◌, refl, ◌∙◌, ap}
use mathlib.Core.List.{[], ◌∷◌}
use lib.Dec.{eqb}
use Rattle.sums.specs.Choice.{choose, digit}
use Rattle.field.specs.Bytes.{Bytes}
use Rattle.sums.specs.Tree.{Tree, number}
use Rattle.sums.specs.Grammar.{Spaces, no_space, one_more, Ends, Digits, first, next, Number, zero_alone, digits, IsOperand, is_number, is_bracketed, IsProduct, is_operand, is_times, IsSum, is_product, is_plus, is_minus, ReadsAs, reads}
use Rattle.sums.specs.Machine.{Before, no_sum, sum_plus, sum_minus, Factor, no_product, product_times, frame, Stack, State, awaits, in_digits, behind, sum_with, product_with, closed, step_behind, step, read, whole, at_end, outcome, start}
use Rattle.sums.proofs.Tests.{chose, passed, digit_no_space}

go : (x y : State) (c : ℕ) (s : Bytes) → step x c ≡ y → outcome x (c ∷ s) ≡ outcome y s
unfolding outcome
go x y c s e = ap (λ (z : State). outcome z s) e

skip : (x : State) → step x 32 ≡ x → {s r : Bytes} → Spaces s r → outcome x s ≡ outcome x r
skip x k no_space = refl
skip x k (one_more {r = r} p) = skip x k p ∙ go x x 32 r k

skip_awaits : (b : Before) (f : Factor) (K : Stack) {s r : Bytes} → Spaces s r → outcome (awaits b f K) s ≡ outcome (awaits b f K) r
unfolding step choose
skip_awaits b f K = skip (awaits b f K) refl

skip_behind : (b : Before) (y : Tree) (K : Stack) {s r : Bytes} → Spaces s r → outcome (behind b y K) s ≡ outcome (behind b y K) r
unfolding step step_behind choose
skip_behind b y K = skip (behind b y K) refl

-- ---- single bytes
module _ (b : Before) (K : Stack) (s : Bytes) where
  at_zero : (f : Factor) → outcome (awaits b f K) (48 ∷ s) ≡ outcome (behind b (product_with f (number 0)) K) s
  unfolding outcome step choose
  at_zero f = refl

  at_open : (f : Factor) → outcome (awaits b f K) (40 ∷ s) ≡ outcome (awaits no_sum no_product (frame b f ∷ K)) s
  unfolding outcome step choose digit
  at_open f = refl

  at_plus : (y : Tree) → outcome (behind b y K) (43 ∷ s) ≡ outcome (awaits (sum_plus (sum_with b y)) no_product K) s
  unfolding outcome step step_behind choose
  at_plus y = refl

  at_minus : (y : Tree) → outcome (behind b y K) (45 ∷ s) ≡ outcome (awaits (sum_minus (sum_with b y)) no_product K) s
  unfolding outcome step step_behind choose
  at_minus y = refl

  at_times : (y : Tree) → outcome (behind b y K) (42 ∷ s) ≡ outcome (awaits b (product_times y) K) s
  unfolding outcome step step_behind choose
  at_times y = refl

  at_close : (y : Tree) → outcome (behind b y K) (41 ∷ s) ≡ outcome (closed (sum_with b y) K) s
  unfolding outcome step step_behind choose
  at_close y = refl

-- ---- numbers
digits_read : {s r : Bytes} {n : ℕ} → Digits s n r → (b : Before) (f : Factor) (K : Stack) → outcome (awaits b f K) s ≡ outcome (in_digits n b f K) r
unfolding step
digits_read (first {c} {s} u z) b f K = go (awaits b f K) (in_digits (c - 48) b f K) c s (passed (eqb c 32) _ _ (digit_no_space c u) ∙ passed (eqb c 48) _ _ z ∙ chose (digit c) _ _ u)
digits_read (next {s} {r} {n} {c} p u) b f K = digits_read p b f K ∙ go (in_digits n b f K) (in_digits (n * 10 + (c - 48)) b f K) c r (chose (digit c) _ _ u)

digits_end : (s : Bytes) → Ends s → (n : ℕ) (b : Before) (f : Factor) (K : Stack) → outcome (in_digits n b f K) s ≡ outcome (behind b (product_with f (number n)) K) s
unfolding Ends outcome at_end step
digits_end [] e n b f K = refl
digits_end (c ∷ s) e n b f K = ap (λ (z : State). outcome z s) (passed (digit c) _ _ e)

number_read : {s r : Bytes} {n : ℕ} → Number s n r → (b : Before) (f : Factor) (K : Stack) → outcome (awaits b f K) s ≡ outcome (behind b (product_with f (number n)) K) r
number_read (zero_alone {s}) b f K = at_zero b K s f
number_read (digits {s} {r} {n} p e) b f K = digits_read p b f K ∙ digits_end r e n b f K

-- ---- the grammar
-- where a sum that reads as x has ended: some of it waits, and y is the product so far
pub record Summed (x : Tree) (s r : Bytes) (K : Stack) : Type 0 where
  pub before : Before
  pub now : Tree
  pub is : sum_with before now ≡ x
  pub goes : outcome (awaits no_sum no_product K) s ≡ outcome (behind before now K) r

mutual
  unfolding closed product_with sum_with

  operand_read : {s r : Bytes} {x : Tree} → IsOperand s x r → (b : Before) (f : Factor) (K : Stack) → outcome (awaits b f K) s ≡ outcome (behind b (product_with f x) K) r
  operand_read (is_number p q) b f K = skip_awaits b f K p ∙ number_read q b f K
  operand_read (is_bracketed {s₁ = s₁} {s₂ = s₂} {r = r} {x = x} p q e) b f K =
      let i : Summed x s₁ s₂ (frame b f ∷ K) = sum_read q (frame b f ∷ K) in
      skip_awaits b f K p ∙ at_open b K s₁ f ∙ i.goes ∙ skip_behind i.before i.now (frame b f ∷ K) e ∙ at_close i.before (frame b f ∷ K) r i.now
      ∙ ap (λ (z : Tree). outcome (closed z (frame b f ∷ K)) r) i.is

  product_read : {s r : Bytes} {x : Tree} → IsProduct s x r → (b : Before) (K : Stack) → outcome (awaits b no_product K) s ≡ outcome (behind b x K) r
  product_read (is_operand p) b K = operand_read p b no_product K
  product_read (is_times {s₂ = s₂} {x = x} p e q) b K = product_read p b K ∙ skip_behind b x K e ∙ at_times b K s₂ x ∙ operand_read q b (product_times x) K

  sum_read : {s r : Bytes} {x : Tree} → IsSum s x r → (K : Stack) → Summed x s r K
  sum_read (is_product {x = x} p) K = record { before = no_sum; now = x; is = refl; goes = product_read p no_sum K }
  sum_read (is_plus {s} {s₁} {s₂ = s₂} {r = r} {x = x} {y = y} p e q) K =
      let i : Summed x s s₁ K = sum_read p K in
      record {
        before = sum_plus x;
        now = y;
        is = refl;
        goes = i.goes ∙ skip_behind i.before i.now K e ∙ at_plus i.before K s₂ i.now ∙ ap (λ (z : Tree). outcome (awaits (sum_plus z) no_product K) s₂) i.is ∙ product_read q (sum_plus x) K;
      }
  sum_read (is_minus {s} {s₁} {s₂ = s₂} {r = r} {x = x} {y = y} p e q) K =
      let i : Summed x s s₁ K = sum_read p K in
      record {
        before = sum_minus x;
        now = y;
        is = refl;
        goes = i.goes ∙ skip_behind i.before i.now K e ∙ at_minus i.before K s₂ i.now ∙ ap (λ (z : Tree). outcome (awaits (sum_minus z) no_product K) s₂) i.is ∙ product_read q (sum_minus x) K;
      }

pub complete : {s : Bytes} {t : Tree} → ReadsAs s t → outcome start s ≡ read t
unfolding outcome at_end whole
complete {s} {t} (reads {r} p e) =
    let i : Summed t s r [] = sum_read p [] in
    i.goes ∙ skip_behind i.before i.now [] e ∙ ap read i.is
