-- Facts about tests and choices. Assumes nothing.
use Prim.Native.Nat.{ℕ}
use mathlib.Core.Path.{◌≡◌, refl}
use mathlib.Core.Bool.{Bool, true, false, ◌&&◌, ◌||◌}
use native.Mathlib.Omega.{arith}
use Rattle.page.specs.Tree.{choose}

pub chosen : {A : Type 0} (b : Bool) (x y : Unit {0} → A) → b ≡ true → choose b x y ≡ x tt
unfolding choose
chosen true x y e = refl
chosen false x y e = absurd (let z : ◌≡◌ {A = ℕ} 0 1 = cc in omega arith)

pub passed : {A : Type 0} (b : Bool) (x y : Unit {0} → A) → b ≡ false → choose b x y ≡ y tt
unfolding choose
passed true x y e = absurd (let z : ◌≡◌ {A = ℕ} 0 1 = cc in omega arith)
passed false x y e = refl

-- the first that holds, or the others
pub or_true : {A : Type 0} (a b : Bool) → (a || b) ≡ true → (a ≡ true → A) → (a ≡ false → b ≡ true → A) → A
or_true true b e f g = f refl
or_true false b e f g = g refl e
