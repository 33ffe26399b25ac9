-- Expressions between the two passes, and first passes: the predicates of `Good` are closed under what both are made of.
-- Main statements: `still_append`, `good_both`.
-- Assumes nothing.
use Prim.Native.Nat.{ℕ, ◌+◌, ◌≤◌}
use native.Mathlib.Omega.{arith}
use lib.Dec.{T}
use Rattle.field.specs.Bytes.{Bytes}
use Rattle.field.specs.Row.{inside}
use Rattle.spec.specs.declared.Flags.{Flags}
use Rattle.spec.specs.Pass.{Pass, pure, both, raise, Raw, Mid, none, node, raw, ◌+++◌}
use Rattle.spec.proofs.Good.{GoodRaw, Clean, Still, GoodPass, FormedBy, no_tag}
use Rattle.spec.proofs.Ledger.{kept_pure, kept_raised, kept_then}

module _ (Fragments : Type 0) where
  -- ---- expressions

  pub clean_weaken : (m : Mid) {v w : ℕ} → v ≤ w → Clean Fragments m v → Clean Fragments m w
  unfolding Clean
  clean_weaken none h c = tt
  clean_weaken (node t f i r) h c = (c.0, c.1, (c.2.0, c.2.1, omega arith, c.2.3, c.2.4))
  clean_weaken (raw q r) h c = (c.0, c.1, omega arith, c.3, c.4)

  clean_append : (x y : Mid) (a b : ℕ) → Clean Fragments x a → Clean Fragments y b → Clean Fragments (x +++ y) (a + b)
  unfolding Clean ◌+++◌
  clean_append none y a b c d = clean_weaken y (omega arith) d
  clean_append (node t f i r) y a b c d = (c.0, c.1, (c.2.0, c.2.1 + b, omega arith, c.2.3, clean_append r y c.2.1 b c.2.4 d))
  clean_append (raw q r) y a b c d = (c.0, c.1 + b, omega arith, c.3, clean_append r y c.1 b c.4 d)

  pub still_weaken : {m : Mid} {v w : ℕ} → v ≤ w → Still Fragments v m → Still Fragments w m
  still_weaken {m} h s = record { clean = clean_weaken m h s.clean }

  pub still_none : (w : ℕ) → Still Fragments w none
  unfolding Clean
  still_none w = record { clean = tt }

  pub still_node : {i r : Mid} {a b : ℕ} (t : ℕ) (f : Bytes) → T (no_tag t) → FormedBy (inside t) f i → Still Fragments a i → Still Fragments b r → Still Fragments (a + b) (node t f i r)
  unfolding Clean
  still_node {i} {r} {a} {b} t f h g x y = record { clean = (h, g, (a, b, omega arith, x.clean, y.clean)) }

  pub still_raw : {q : Raw} {r : Mid} {a b : ℕ} → GoodRaw Fragments a q → Still Fragments b r → Still Fragments (a + b) (raw q r)
  unfolding Clean
  still_raw {q} {r} {a} {b} g y = record { clean = (a, b, omega arith, g, y.clean) }

  pub still_append : {x y : Mid} {a b : ℕ} → Still Fragments a x → Still Fragments b y → Still Fragments (a + b) (x +++ y)
  still_append {x} {y} {a} {b} s u = record { clean = clean_append x y a b s.clean u.clean }

  -- ---- first passes

  pub good_weaken : {p : Pass Mid} {v w : ℕ} → v ≤ w → GoodPass Fragments v p → GoodPass Fragments w p
  good_weaken h g n =
      let d = g n in
      record { kept = d.kept; left_over = d.left_over; bound = omega arith; clean = d.clean }

  pub good_pure : {m : Mid} {w : ℕ} → Still Fragments w m → GoodPass Fragments w (pure m)
  unfolding pure
  good_pure {m} {w} s n = record { kept = kept_pure Fragments m n; left_over = w; bound = omega arith; clean = s.clean }

  pub good_both : {p q : Pass Mid} {a b : ℕ} → GoodPass Fragments a p → GoodPass Fragments b q → GoodPass Fragments (a + b) (both ◌+++◌ p q)
  unfolding both
  good_both {p} {q} {a} {b} g h n =
      let d = p n in
      let e = q (n + d.taken) in
      let x = g n in
      let y = h (n + d.taken) in
      record {
        kept = kept_then Fragments (d.value +++ e.value) d e x.kept y.kept;
        left_over = x.left_over + y.left_over;
        bound = omega arith;
        clean = clean_append d.value e.value x.left_over y.left_over x.clean y.clean;
      }

  pub good_raise : {p : Pass Mid} {w : ℕ} (f : Flags) → (T f.left → Fragments) → GoodPass Fragments w p → GoodPass Fragments w (raise f p)
  unfolding raise
  good_raise {p} f r g n =
      let d = g n in
      record { kept = kept_raised Fragments f (p n) r d.kept; left_over = d.left_over; bound = d.bound; clean = d.clean }
