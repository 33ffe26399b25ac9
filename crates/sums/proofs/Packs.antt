-- Words of open brackets and what they are read back as, and the growing number. Assumes nothing.
use Prim.Native.Nat.{ℕ, ◌+◌, ◌-◌, ◌*◌, ◌≤◌, min}
use mathlib.Core.Path.{◌≡◌, refl, ◌∙◌, ap₂}
use mathlib.Core.Bool.{Bool, true, false}
use native.Mathlib.Omega.{arith}
use native.Mathlib.Decide.{dec_le}
use lib.Dec.{leb, eqb}
use borrow.Author.Tests.{le-leb, lt-leb}
use Rattle.std.specs.Prelude.{Some, None}
use Rattle.sums.specs.Choice.{choose}
use Rattle.sums.specs.Value.{Worked, most}
use Rattle.sums.specs.declared.value.Sum.TheVariants.{Plus, Minus}
use Rattle.sums.specs.declared.reader.Before.{Before}
use Rattle.sums.specs.declared.reader.Before.TheVariants.{NoSum, SumPlus, SumMinus}
use Rattle.sums.specs.Small.{Factor, capped, grown}
use Rattle.sums.specs.Packed.{worked_kind, worked_from, before_tag, before_size, before_of, factor_tag, factor_size, factor_of, words}
use Rattle.sums.proofs.Tests.{takes, leaves}

pub grown_fits : (n c : ℕ) → min (n * 10 + (c - 48)) 9007199254740992 ≡ grown n c
unfolding grown capped
grown_fits n c = on (dec_le (n * 10 + (c - 48)) most)
  where
    on : Dec (n * 10 + (c - 48) ≤ most) → min (n * 10 + (c - 48)) 9007199254740992 ≡ choose (leb (n * 10 + (c - 48)) most) (n * 10 + (c - 48)) 9007199254740992
    on (yes h) = let e : min (n * 10 + (c - 48)) 9007199254740992 ≡ n * 10 + (c - 48) = omega arith in e ∙ takes _ _ _ (le-leb (n * 10 + (c - 48)) most h)
    on (no h) = let e : min (n * 10 + (c - 48)) 9007199254740992 ≡ 9007199254740992 = omega arith in e ∙ leaves _ _ _ (lt-leb (n * 10 + (c - 48)) most (omega arith))

pub kind_low : (w : Worked) → worked_kind w ≤ 2
kind_low None = omega arith
kind_low (Some (Plus n)) = omega arith
kind_low (Some (Minus n)) = omega arith

pub factor_low : (f : Factor) → factor_tag f ≤ 3
unfolding factor_tag
factor_low None = omega arith
factor_low (Some w) = omega (arith, kind_low w)

pub words_low : (t : ℕ) → words t ≤ 1
unfolding words choose
words_low t = on (eqb t 0)
  where
    on : (b : Bool) → choose b 0 1 ≤ 1
    on true = omega arith
    on false = omega arith

-- what is stored is read back
pub before_back : (b : Before) → before_of (before_tag b) (before_size b) ≡ b
unfolding before_of before_tag before_size worked_from choose
before_back NoSum = refl
before_back (SumPlus None) = refl
before_back (SumPlus (Some (Plus n))) = refl
before_back (SumPlus (Some (Minus n))) = refl
before_back (SumMinus None) = refl
before_back (SumMinus (Some (Plus n))) = refl
before_back (SumMinus (Some (Minus n))) = refl

pub factor_back : (f : Factor) → factor_of (factor_tag f) (factor_size f) ≡ f
unfolding factor_of factor_tag factor_size worked_from choose
factor_back None = refl
factor_back (Some None) = refl
factor_back (Some (Some (Plus n))) = refl
factor_back (Some (Some (Minus n))) = refl

-- of nothing no size is asked
pub before_none : (n m : ℕ) → before_of 0 n ≡ before_of 0 m
unfolding before_of choose
before_none n m = refl

pub factor_none : (n m : ℕ) → factor_of 0 n ≡ factor_of 0 m
unfolding factor_of choose
factor_none n m = refl

-- the same, as the code has its numbers
pub before_read : {t v : ℕ} {b : Before} → t ≡ before_tag b → v ≡ before_size b → before_of t v ≡ b
before_read {b = b} p q = ap₂ before_of p q ∙ before_back b

pub factor_read : {t v : ℕ} {f : Factor} → t ≡ factor_tag f → v ≡ factor_size f → factor_of t v ≡ f
factor_read {f = f} p q = ap₂ factor_of p q ∙ factor_back f
