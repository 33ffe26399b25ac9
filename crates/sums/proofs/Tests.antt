-- Facts about tests and choices. Assumes nothing.
use Prim.Native.Nat.{ℕ}
use mathlib.Core.Path.{◌≡◌, refl, subst}
use mathlib.Core.Bool.{Bool, true, false, not}
use native.Mathlib.Omega.{arith}
use lib.Dec.{T, eqb, eqb→eq, not_T}
use Rattle.sums.specs.Choice.{choose, digit}

pub chose : {A : Type 0} (b : Bool) (x y : A) → T b → choose b x y ≡ x
unfolding choose
chose true x y t = refl
chose false x y t = absurd t

pub passed : {A : Type 0} (b : Bool) (x y : A) → T (not b) → choose b x y ≡ y
unfolding choose
passed true x y t = absurd t
passed false x y t = refl

pub takes : {A : Type 0} (b : Bool) (x y : A) → b ≡ true → x ≡ choose b x y
unfolding choose
takes true x y e = refl
takes false x y e = let z : ◌≡◌ {A = ℕ} 0 1 = cc in absurd (omega arith)

pub leaves : {A : Type 0} (b : Bool) (x y : A) → b ≡ false → y ≡ choose b x y
unfolding choose
leaves false x y e = refl
leaves true x y e = let z : ◌≡◌ {A = ℕ} 0 1 = cc in absurd (omega arith)

-- what holds of either choice holds of what is chosen
pub either : {A : Type 0} (P : A → Type 0) (b : Bool) (x y : A) → (T b → P x) → (T (not b) → P y) → P (choose b x y)
unfolding choose
either P true x y f g = f tt
either P false x y f g = g tt

pub at_eq : (P : ℕ → Type 0) (c d : ℕ) → T (eqb c d) → P c → P d
at_eq P c d t p = subst P (eqb→eq c d t) p

pub clash : (b : Bool) {A : Type 0} → T b → T (not b) → A
clash true s t = absurd t
clash false s t = absurd s

pub digit_no_space : (c : ℕ) → T (digit c) → T (not (eqb c 32))
unfolding digit
digit_no_space c t = not_T (eqb c 32) (λ u. at_eq (λ d. T (digit d)) c 32 u t)
