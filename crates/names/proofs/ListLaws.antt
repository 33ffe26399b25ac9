-- Rules of a list of names, proved by one test that is computed over the whole list.
-- Main statements: `every_at`, `upto_at`, `among_within`.
-- Assumes nothing.
use mathlib.Core.Path.{◌≡◌, refl, sym, ap, ◌∙◌}
use mathlib.Core.Bool.{Bool, true, false, ◌&&◌, ◌||◌, false≢true, and-eq-true_iff}
use mathlib.Core.List.{List, [], ◌∷◌}
use Prim.Native.Nat.{ℕ, zero, suc, ◌<◌}
use native.Mathlib.Nat.{not-suc-le-zero, eq-or-lt_of_le, le_of_suc-le-suc}
use mathlib.Core.Logic.{⊎_elim}
use Rattle.field.specs.Bytes.{Bytes, same, among}
use Rattle.names.proofs.CompareLaws.{same_eq}

pub and_left : (a b : Bool) → (a && b) ≡ true → a ≡ true
and_left a b h = ((and-eq-true_iff a b).0 h).0

pub and_right : (a b : Bool) → (a && b) ≡ true → b ≡ true
and_right a b h = ((and-eq-true_iff a b).0 h).1

pub or_left : (a b : Bool) → (a || b) ≡ false → a ≡ false
or_left true b h = h
or_left false b h = refl

pub or_right : (a b : Bool) → (a || b) ≡ false → b ≡ false
or_right true b h = absurd (false≢true (sym h))
or_right false b h = h

-- two answers that follow from each other are the same
pub both_ways : (a b : Bool) → (a ≡ true → b ≡ true) → (b ≡ true → a ≡ true) → a ≡ b
both_ways true b f g = sym (f refl)
both_ways false true f g = g refl
both_ways false false f g = refl

pub refuted : (b : Bool) → (b ≡ true → ⊥) → b ≡ false
refuted true h = absurd (h refl)
refuted false h = refl

-- ---- a list of names

abbrev pub every : (Bytes → Bool) → List Bytes → Bool
every f [] = true
every f (x ∷ xs) = f x && every f xs

at_head : (f : Bytes → Bool) (n x : Bytes) (b : Bool) (r : Bool) → same n x ≡ b → f x ≡ true → (b || r) ≡ true → (r ≡ true → f n ≡ true) → f n ≡ true
at_head f n x true r e t h k = ap f (same_eq n x e) ∙ t
at_head f n x false r e t h k = k h

-- what passes at each name of the list holds of a name that is among them
pub every_at : (f : Bytes → Bool) (xs : List Bytes) → every f xs ≡ true → (n : Bytes) → among n xs ≡ true → f n ≡ true
unfolding among
every_at f [] t n h = absurd (false≢true h)
every_at f (x ∷ xs) t n h =
    at_head f n x (same n x) (among n xs) refl (and_left (f x) (every f xs) t) h
    (λ k. every_at f xs (and_right (f x) (every f xs) t) n k)

-- a list within another
pub among_within : (xs ys : List Bytes) → every (λ w. among w ys) xs ≡ true → (n : Bytes) → among n xs ≡ true → among n ys ≡ true
among_within xs ys t n h = every_at (λ w. among w ys) xs t n h

-- ---- numbers up to a bound

abbrev pub upto : (ℕ → Bool) → ℕ → Bool
upto f zero = true
upto f (suc k) = f k && upto f k

pub upto_at : (f : ℕ → Bool) (k : ℕ) → upto f k ≡ true → (i : ℕ) → i < k → f i ≡ true
upto_at f zero t i h = absurd (not-suc-le-zero h)
upto_at f (suc k) t i h =
    ⊎_elim (λ e. ap f e ∙ and_left (f k) (upto f k) t) (λ l. upto_at f k (and_right (f k) (upto f k) t) i l) (eq-or-lt_of_le (le_of_suc-le-suc h))
