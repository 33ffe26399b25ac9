-- Whatever is read the grammar has. `Holds S x s`: the text S has been read up to s, and the state x says, in the grammar's own words, what stood
-- in front of s. A step keeps this, without induction. Assumes nothing.
use Prim.Native.Nat.{ℕ}
use mathlib.Core.Path.{◌≡◌, subst}
use mathlib.Core.List.{[], ◌∷◌}
use native.Mathlib.Omega.{arith}
use lib.Dec.{T, eqb}
use Rattle.sums.specs.Choice.{digit}
use Rattle.field.specs.Bytes.{Bytes}
use Rattle.sums.specs.Tree.{Tree, number}
use Rattle.sums.specs.Grammar.{Spaces, no_space, one_more, Ends, Digits, first, next, zero_alone, digits, IsOperand, is_number, is_bracketed, IsProduct, is_operand, is_times, IsSum, is_product, is_plus, is_minus, ReadsAs, reads}
use Rattle.sums.specs.Machine.{Before, no_sum, sum_plus, sum_minus, Factor, no_product, product_times, frame, Stack, State, awaits, in_digits, behind, refused, sum_with, product_with, closed, step_behind, step, read, whole, at_end, outcome, start}
use Rattle.sums.proofs.Tests.{either, at_eq}

-- from s up to r stands what waits for a product
pub data Befores : Before → Bytes → Bytes → Type 0 where
  nothing_before : {s : Bytes} → Befores no_sum s s
  plus_before : {s s₁ r : Bytes} {x : Tree} → IsSum s x s₁ → Spaces s₁ (43 ∷ r) → Befores (sum_plus x) s r
  minus_before : {s s₁ r : Bytes} {x : Tree} → IsSum s x s₁ → Spaces s₁ (45 ∷ r) → Befores (sum_minus x) s r

-- and what waits for an operand
pub data Factors : Factor → Bytes → Bytes → Type 0 where
  no_factor : {s : Bytes} → Factors no_product s s
  a_factor : {s s₁ r : Bytes} {x : Tree} → IsProduct s x s₁ → Spaces s₁ (42 ∷ r) → Factors (product_times x) s r

-- from S up to s stand the open brackets
pub data Opens (S : Bytes) : Stack → Bytes → Type 0 where
  nothing_open : Opens S [] S
  opens : {b : Before} {f : Factor} {K : Stack} {s s₁ s₂ r : Bytes} → Opens S K s → Befores b s s₁ → Factors f s₁ s₂ → Spaces s₂ (40 ∷ r) → Opens S (frame b f ∷ K) r

pub data Holds (S : Bytes) : State → Bytes → Type 0 where
  waiting : {b : Before} {f : Factor} {K : Stack} {s s₁ s₂ r : Bytes} → Opens S K s → Befores b s s₁ → Factors f s₁ s₂ → Spaces s₂ r → Holds S (awaits b f K) r
  counting : {n : ℕ} {b : Before} {f : Factor} {K : Stack} {s s₁ s₂ s₃ r : Bytes} → Opens S K s → Befores b s s₁ → Factors f s₁ s₂ → Spaces s₂ s₃ → Digits s₃ n r → Holds S (in_digits n b f K) r
  done : {b : Before} {y : Tree} {K : Stack} {s s₁ s₂ r : Bytes} → Opens S K s → Befores b s s₁ → IsProduct s₁ y s₂ → Spaces s₂ r → Holds S (behind b y K) r
  stopped : {r : Bytes} → Holds S refused r

product_joins : {f : Factor} {y : Tree} {s s₁ r : Bytes} → Factors f s s₁ → IsOperand s₁ y r → IsProduct s (product_with f y) r
unfolding product_with
product_joins no_factor p = is_operand p
product_joins (a_factor q e) p = is_times q e p

sum_joins : {b : Before} {y : Tree} {s s₁ r : Bytes} → Befores b s s₁ → IsProduct s₁ y r → IsSum s (sum_with b y) r
unfolding sum_with
sum_joins nothing_before p = is_product p
sum_joins (plus_before q e) p = is_plus q e p
sum_joins (minus_before q e) p = is_minus q e p

module _ (S : Bytes) where
  closed_holds : (x : Tree) (K : Stack) {s s₁ r : Bytes} → Opens S K s → IsSum s x s₁ → Spaces s₁ (41 ∷ r) → Holds S (closed x K) r
  unfolding closed
  closed_holds x [] o p e = stopped
  closed_holds x (frame b f ∷ K) (opens o q g z) p e = done o q (product_joins g (is_bracketed z p e)) no_space

  behind_on : (b : Before) (y : Tree) (K : Stack) (c : ℕ) {s s₁ s₂ r : Bytes} → Opens S K s → Befores b s s₁ → IsProduct s₁ y s₂ → Spaces s₂ (c ∷ r) → Holds S (step_behind b y K c) r
  unfolding step_behind
  behind_on b y K c {s₂ = s₂} {r = r} o q p e =
      either (λ z. Holds S z r) (eqb c 32) _ _ (λ u. done o q p (one_more (is 32 u)))
      (λ _. either (λ z. Holds S z r) (eqb c 43) _ _ (λ u. waiting o (plus_before (sum_joins q p) (is 43 u)) no_factor no_space)
      (λ _. either (λ z. Holds S z r) (eqb c 45) _ _ (λ u. waiting o (minus_before (sum_joins q p) (is 45 u)) no_factor no_space)
      (λ _. either (λ z. Holds S z r) (eqb c 42) _ _ (λ u. waiting o q (a_factor p (is 42 u)) no_space)
      (λ _. either (λ z. Holds S z r) (eqb c 41) _ _ (λ u. closed_holds (sum_with b y) K o (sum_joins q p) (is 41 u))
      (λ _. stopped)))))
    where
      is : (d : ℕ) → T (eqb c d) → Spaces s₂ (d ∷ r)
      is d u = at_eq (λ (z : ℕ). Spaces s₂ (z ∷ r)) c d u e

  step_on : (x : State) (c : ℕ) (r : Bytes) → Holds S x (c ∷ r) → Holds S (step x c) r
  unfolding step Ends
  step_on (awaits b f K) c r (waiting {s₂ = s₂} o q g e) =
      either (λ z. Holds S z r) (eqb c 32) _ _ (λ u. waiting o q g (one_more (is 32 u)))
      (λ _. either (λ z. Holds S z r) (eqb c 48) _ _ (λ u. done o q (product_joins g (is_number (is 48 u) zero_alone)) no_space)
      (λ z. either (λ z. Holds S z r) (digit c) _ _ (λ u. counting o q g e (first u z))
      (λ _. either (λ z. Holds S z r) (eqb c 40) _ _ (λ u. waiting (opens o q g (is 40 u)) nothing_before no_factor no_space)
      (λ _. stopped))))
    where
      is : (d : ℕ) → T (eqb c d) → Spaces s₂ (d ∷ r)
      is d u = at_eq (λ (z : ℕ). Spaces s₂ (z ∷ r)) c d u e
  step_on (in_digits n b f K) c r (counting o q g e p) =
      either (λ z. Holds S z r) (digit c) _ _ (λ u. counting o q g e (next p u))
      (λ u. behind_on b (product_with f (number n)) K c o q (product_joins g (is_number e (digits p u))) no_space)
  step_on (behind b y K) c r (done o q p e) = behind_on b y K c o q p e
  step_on refused c r h = stopped

  whole_holds : (x : Tree) (K : Stack) (t : Tree) {s r : Bytes} → Opens S K s → IsSum s x r → Spaces r [] → whole x K ≡ read t → ReadsAs S t
  unfolding whole
  whole_holds x [] t {r = r} nothing_open p e q =
      let h : x ≡ t = cc in
      subst (λ (z : Tree). ReadsAs S z) h (reads p e)
  whole_holds x (g ∷ K) t o p e q = let z : ◌≡◌ {A = ℕ} 0 1 = cc in absurd (omega arith)

  end_on : (x : State) (t : Tree) → Holds S x [] → at_end x ≡ read t → ReadsAs S t
  unfolding at_end Ends
  end_on (awaits b f K) t h q = let z : ◌≡◌ {A = ℕ} 0 1 = cc in absurd (omega arith)
  end_on (in_digits n b f K) t (counting o p g e d) q = whole_holds _ K t o (sum_joins p (product_joins g (is_number e (digits d tt)))) no_space q
  end_on (behind b y K) t (done o p d e) q = whole_holds _ K t o (sum_joins p d) e q
  end_on refused t h q = let z : ◌≡◌ {A = ℕ} 0 1 = cc in absurd (omega arith)

  all_on : (x : State) (s : Bytes) (t : Tree) → Holds S x s → outcome x s ≡ read t → ReadsAs S t
  unfolding outcome
  all_on x [] t h q = end_on x t h q
  all_on x (c ∷ s) t h q = all_on (step x c) s t (step_on x c s h) q

pub sound : (s : Bytes) (t : Tree) → outcome start s ≡ read t → ReadsAs s t
sound s t q = all_on s start s t (waiting nothing_open nothing_before no_factor no_space) q
