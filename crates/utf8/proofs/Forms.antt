-- Which form a byte begins, read off the table for all bytes from l to h at once. Main statement: utf8-begun.
-- Assumes nothing.
use mathlib.Core.Path.{◌≡◌, refl, ap, ◌∙◌}
use Prim.Native.Nat.{ℕ, ◌≤◌}
use native.Mathlib.Omega.{arith}
use mathlib.Core.Bool.{Bool, true, false, ◌&&◌, ◌||◌, cond, and-false, and-eq-true_iff}
use mathlib.Core.List.{List, [], ◌∷◌}
use mathlib.Core.Option.{Option, none, some}
use borrow.Author.Tests.{le-leb, lt-leb, leb-true, ltb-true}
use lib.Dec.{leb, ltb}
use Rattle.utf8.specs.Utf8.{Range, ◌to◌, within, Form, ◌then◌, forms, begun, utf8_behind, utf8}

-- the range holds all of l to h, or none of it
abbrev covers : Range → ℕ → ℕ → Bool
covers (a to z) l h = leb a l && leb h z

abbrev misses : Range → ℕ → ℕ → Bool
misses (a to z) l h = ltb h a || ltb z l

-- no first range of the table parts l to h
abbrev pub whole : ℕ → ℕ → List Form → Bool
whole l h [] = true
whole l h (r then rs ∷ fs) = (covers r l h || misses r l h) && whole l h fs

-- the ranges behind any first byte from l to h
abbrev pub begun_by : ℕ → ℕ → List Form → Option (List Range)
begun_by l h [] = none
begun_by l h (r then rs ∷ fs) = cond (covers r l h) (some rs) (begun_by l h fs)

abbrev pub goes_on : List ℕ → Option (List Range) → Bool
goes_on t none = false
goes_on t (some rs) = utf8_behind rs t

module _ (b l h : ℕ) (low : l ≤ b) (high : b ≤ h) where
  inside : (a z : ℕ) → covers (a to z) l h ≡ true → within (a to z) b ≡ true
  inside a z e =
      let p = (and-eq-true_iff (leb a l) (leb h z)).0 e in
      rw (le-leb a b (omega (arith, leb-true a l p.0)), le-leb b z (omega (arith, leb-true h z p.1)))

  outside : (a z : ℕ) → misses (a to z) l h ≡ true → within (a to z) b ≡ false
  outside a z = on (ltb h a) refl
    where
      on : (v : Bool) → ltb h a ≡ v → (v || ltb z l) ≡ true → within (a to z) b ≡ false
      on true q e = rw (lt-leb a b (omega (arith, ltb-true h a q)))
      on false q e = rw (lt-leb b z (omega (arith, ltb-true z l e))) (and-false (leb a b))

  settled : (r : Range) → (covers r l h || misses r l h) ≡ true → within r b ≡ covers r l h
  settled (a to z) = on (covers (a to z) l h) refl
    where
      on : (v : Bool) → covers (a to z) l h ≡ v → (v || misses (a to z) l h) ≡ true → within (a to z) b ≡ v
      on true q e = inside a z q
      on false q e = outside a z e

  begun_is : (fs : List Form) → whole l h fs ≡ true → begun b fs ≡ begun_by l h fs
  unfolding begun
  begun_is [] e = refl
  begun_is (r then rs ∷ fs) e =
      let p = (and-eq-true_iff (covers r l h || misses r l h) (whole l h fs)).0 e in
      rw (settled r p.0, begun_is fs p.1)

  pub utf8_begun : (t : List ℕ) → whole l h forms ≡ true → utf8 (b ∷ t) ≡ goes_on t (begun_by l h forms)
  unfolding utf8 utf8_behind
  utf8_begun t e = ap (λ (o : Option (List Range)). elim o [ none ↦ false | some rs ↦ utf8_behind rs t ]) (begun_is forms e) ∙ same (begun_by l h forms)
    where
      same : (o : Option (List Range)) → elim o as (λ _. Bool) [ none ↦ false | some rs ↦ utf8_behind rs t ] ≡ goes_on t o
      same none = refl
      same (some rs) = refl
