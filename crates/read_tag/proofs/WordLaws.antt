-- A word that is read letter by letter is no other. Main statement: `head_other`. Assumes nothing.
use mathlib.Core.Path.{◌≡◌, refl, ap}
use mathlib.Core.Bool.{Bool, false, ◌&&◌}
use mathlib.Core.List.{[], ◌∷◌}
use Prim.Native.Nat.{ℕ}
use lib.ListN.{get_or}
use borrow.Author.Tests.{ne_eqb}
use Rattle.field.specs.Bytes.{Bytes, same}

pub head_other : (x : Bytes) (k : ℕ) (w : Bytes) → (get_or x 0 0 ≡ k → ⊥) → same x (k ∷ w) ≡ false
unfolding same
head_other [] k w h = refl
head_other (c ∷ cs) k w h = ap (λ (b : Bool). b && same cs w) (ne_eqb c k h)
