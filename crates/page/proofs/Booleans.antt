-- Tests that hold and that fail: both of two, one of two, neither. Main statements: `and_both`, `both_and`, `or_left`, `or_either`, `not_either`. Assumes nothing.
use mathlib.Core.Path.{◌≡◌, refl}
use mathlib.Core.Bool.{Bool, true, false, ◌||◌, not}
use lib.Dec.{T}
pub use Rattle.std.proofs.Math.Facts.{and_yes as and_both, yes_and as both_and}

pub or_left : (a b : Bool) → T a → T (a || b)
or_left true b t = tt
or_left false b t = absurd t

pub or_either : {C : Type 0} (a b : Bool) → T (a || b) → (T a → C) → (T b → C) → C
or_either true b t p q = p t
or_either false b t p q = q t

pub is_true : (b : Bool) → T b → b ≡ true
is_true true t = refl
is_true false t = absurd t

pub is_false : (b : Bool) → T (not b) → b ≡ false
is_false true t = absurd t
is_false false t = refl

pub or_right : (a b : Bool) → T b → T (a || b)
or_right true b t = tt
or_right false b t = t

pub not_either : (a b : Bool) → T (not a) → T (not b) → T (not (a || b))
not_either true b t u = absurd t
not_either false b t u = u
