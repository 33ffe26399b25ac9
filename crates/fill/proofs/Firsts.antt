-- The first index of a number among sorted ones, as a search finds it. Main statements: `first_found`, `first_missing`, `first_here`, `index_below`.
-- Assumes nothing.
use mathlib.Core.Path.{◌≡◌, refl, sym}
use mathlib.Core.Bool.{Bool, true, false}
use Prim.Native.Nat.{ℕ, zero, suc, ◌-◌, ◌≤◌, ◌<◌}
use native.Mathlib.Omega.{arith}
use native.Mathlib.Decide.{dec_le}
use mathlib.Core.List.{List, [], ◌∷◌}
use lib.Dec.{eqb, ltb}
use lib.ListN.{length, get_or}
use borrow.Author.Tests.{eqb-false, ltb-true, ltb-false}
use Rattle.std.specs.List.Sorted.{IsNonDecreasing, IsPartitionPoint}
use Rattle.field.specs.Bytes.{pick}
use Rattle.find.specs.Find.{index_of}
use Rattle.find.proofs.SearchLaws.{index_present, index_missing}

-- a number that stands somewhere has a first index
pub index_below : (ns : List ℕ) (n i : ℕ) → i < length ns → get_or ns i 0 ≡ n → index_of n ns < length ns
unfolding index_of
index_below [] n i l e = absurd (omega arith)
index_below (m ∷ ns) n i l e = on (eqb m n) refl i l e (index_below ns n)
  where
    behind : (j : ℕ) → j < length (m ∷ ns) → get_or (m ∷ ns) j 0 ≡ n → (m ≡ n → ⊥) → ((k : ℕ) → k < length ns → get_or ns k 0 ≡ n → index_of n ns < length ns) → index_of n ns < length ns
    behind zero l e d h = absurd (d e)
    behind (suc j) l e d h = h j (omega arith) e

    on : (b : Bool) → eqb m n ≡ b → (j : ℕ) → j < length (m ∷ ns) → get_or (m ∷ ns) j 0 ≡ n → ((k : ℕ) → k < length ns → get_or ns k 0 ≡ n → index_of n ns < length ns) → pick b 0 (suc (index_of n ns)) < suc (length ns)
    on true q j l e h = omega arith
    on false q j l e h = omega (arith, behind j l e (eqb-false m n q) h)

module _ (ns : List ℕ) (n i : ℕ) (up : IsNonDecreasing ns) (p : IsPartitionPoint (λ y. ltb y n ≡ true) (λ y. ltb y n ≡ false) ns i) where
  pub first_found : i < length ns → get_or ns i 0 ≡ n → (i < length ns) × (i ≡ index_of n ns)
  first_found l e =
      (l, sym (index_present ns n i l e (λ j k q. let z : get_or ns j 0 < n = ltb-true (get_or ns j 0) n (p.0 j 0 (omega arith) k) in omega (arith, q))))

  pub first_missing : (i < length ns → get_or ns i 0 ≡ n → ⊥) → length ns ≤ index_of n ns
  first_missing f = omega (arith, index_missing ns n (λ j l q. on j l q (dec_le i j)))
    where
      on : (j : ℕ) → j < length ns → get_or ns j 0 ≡ n → Dec (i ≤ j) → ⊥
      on j l q (yes k) =
          let a : get_or ns i 0 ≤ get_or ns j 0 = up i j 0 k l in
          let b : n ≤ get_or ns i 0 = ltb-false (get_or ns i 0) n (p.1 i 0 (omega arith) (omega arith)) in
          f (omega arith) (omega (arith, q))
      on j l q (no k) = let z : get_or ns j 0 < n = ltb-true (get_or ns j 0) n (p.0 j 0 (omega arith) (omega arith)) in omega (arith, q)

-- a number that stands at an index, and a less one before
pub first_here : (ns : List ℕ) (n i : ℕ) → IsNonDecreasing ns → i < length ns → get_or ns i 0 ≡ n → (0 < i → get_or ns (i - 1) 0 < n) → (i < length ns) × (i ≡ index_of n ns)
first_here ns n i up l e f = (l, sym (index_present ns n i l e (λ j k q. let z : get_or ns j 0 ≤ get_or ns (i - 1) 0 = up j (i - 1) 0 (omega arith) (omega arith) in omega (arith, f (omega arith), z, q))))
