-- 02, A12, the grammar of sums: whole numbers, spaces, `+`, `-`, `*` between two operands and round brackets under the usual precedence,
-- left first among equals. `IsX s x r`: the text s begins with an X that reads as x, and r is what follows it. The left operand is of the
-- same level, the right one of the level above. Assumes nothing: these are definitions.
use Rattle.std.specs.Prelude.{ℕ, ◌+◌, ◌-◌, ◌*◌, not, [], ◌∷◌, T, eqb}
use Rattle.sums.specs.Choice.{digit}
use Rattle.field.specs.Bytes.{Bytes}
use Rattle.sums.specs.Tree.{Tree, number, plus, minus, times}

-- spaces, hex 20, or nothing
pub data Spaces : Bytes → Bytes → Type 0 where
  no_space : {s : Bytes} → Spaces s s
  one_more : {s r : Bytes} → Spaces s (32 ∷ r) → Spaces s r

-- no digit follows
unfoldable pub Ends : Bytes → Type 0
Ends [] = Unit {0}
Ends (c ∷ s) = T (not (digit c))

-- digits, the first not 0, with their value
pub data Digits : Bytes → ℕ → Bytes → Type 0 where
  first : {c : ℕ} {s : Bytes} → T (digit c) → T (not (eqb c 48)) → Digits (c ∷ s) (c - 48) s
  next : {s r : Bytes} {n c : ℕ} → Digits s n (c ∷ r) → T (digit c) → Digits s (n * 10 + (c - 48)) r

-- 0, or digits as long as they run: a number with a needless zero in front is none
pub data Number : Bytes → ℕ → Bytes → Type 0 where
  zero_alone : {s : Bytes} → Number (48 ∷ s) 0 s
  digits : {s r : Bytes} {n : ℕ} → Digits s n r → Ends r → Number s n r

mutual
  -- a number, or a sum in round brackets
  pub data IsOperand : Bytes → Tree → Bytes → Type 0 where
    is_number : {s s₁ r : Bytes} {n : ℕ} → Spaces s s₁ → Number s₁ n r → IsOperand s (number n) r
    is_bracketed : {s s₁ s₂ r : Bytes} {x : Tree} → Spaces s (40 ∷ s₁) → IsSum s₁ x s₂ → Spaces s₂ (41 ∷ r) → IsOperand s x r

  -- operands with `*` between them
  pub data IsProduct : Bytes → Tree → Bytes → Type 0 where
    is_operand : {s r : Bytes} {x : Tree} → IsOperand s x r → IsProduct s x r
    is_times : {s s₁ s₂ r : Bytes} {x y : Tree} → IsProduct s x s₁ → Spaces s₁ (42 ∷ s₂) → IsOperand s₂ y r → IsProduct s (times x y) r

  -- products with `+` or `-` between them
  pub data IsSum : Bytes → Tree → Bytes → Type 0 where
    is_product : {s r : Bytes} {x : Tree} → IsProduct s x r → IsSum s x r
    is_plus : {s s₁ s₂ r : Bytes} {x y : Tree} → IsSum s x s₁ → Spaces s₁ (43 ∷ s₂) → IsProduct s₂ y r → IsSum s (plus x y) r
    is_minus : {s s₁ s₂ r : Bytes} {x y : Tree} → IsSum s x s₁ → Spaces s₁ (45 ∷ s₂) → IsProduct s₂ y r → IsSum s (minus x y) r

-- the whole text is a sum, with spaces around it; one number alone is such a sum
pub data ReadsAs (s : Bytes) (t : Tree) : Type 0 where
  reads : {r : Bytes} → IsSum s t r → Spaces r [] → ReadsAs s t
