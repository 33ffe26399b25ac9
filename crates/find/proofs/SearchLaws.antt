-- A search among numbers that rise finds what stands there; whether numbers rise. Main statements: `index_found`, `index_none`, `rising_is`.
-- Assumes nothing.
use mathlib.Core.Path.{◌≡◌, refl, sym, ap, ◌∙◌, subst}
use Prim.Native.Nat.{ℕ, zero, suc, ◌+◌, ◌-◌, ◌^◌, ◌≤◌, ◌<◌}
use native.Mathlib.Omega.{arith}
use native.Mathlib.Decide.{dec_le}
use mathlib.Core.Bool.{Bool, true, false, ◌&&◌}
use mathlib.Core.List.{List, [], ◌∷◌, ◌++◌}
use lib.Dec.{T, eqb, ltb, ltb→lt, eqb_refl}
use lib.ListN.{length, get_or, replicate, length-append, length-replicate, get_or-replicate}
use borrow.Author.Tests.{ne_eqb, lt-ltb, ltb-true, ltb-false}
use Rattle.std.specs.Prelude.{IsTrue}
use Rattle.std.specs.List.Sorted.{IsNonDecreasingBy, IsPartitionedBy, IsPartitionPoint}
use Rattle.std.proofs.lemmas.List.{get_or_append_left, get_or-append_right}
use Rattle.std.proofs.lemmas.List.Sorted.{IsNonDecreasingBy-from_default}
use Rattle.find.specs.Find.{rising, index_of}
use Rattle.find.specs.Search.{padded}

-- ---- rising numbers

and_left : (a b : Bool) → (a && b) ≡ true → T a
and_left true b e = tt
and_left false b e = subst T (sym e) tt

and_right : (a b : Bool) → (a && b) ≡ true → b ≡ true
and_right true b e = e
and_right false b e = absurd (subst T (sym e) tt)

pub rising_rest : (n : ℕ) (ns : List ℕ) → rising (n ∷ ns) ≡ true → rising ns ≡ true
unfolding rising
rising_rest n [] e = refl
rising_rest n (m ∷ ns) e = and_right (ltb n m) (rising (m ∷ ns)) e

-- the first is less than any behind it
first_less : (n : ℕ) (ns : List ℕ) → rising (n ∷ ns) ≡ true → (k : ℕ) → k < length ns → n < get_or ns k 0
unfolding rising
first_less n [] e k h = absurd (omega arith)
first_less n (m ∷ ns) e zero h = ltb→lt n m (and_left (ltb n m) (rising (m ∷ ns)) e)
first_less n (m ∷ ns) e (suc k) h =
    let a : n < m = ltb→lt n m (and_left (ltb n m) (rising (m ∷ ns)) e) in
    let b : m < get_or ns k 0 = first_less m ns (and_right (ltb n m) (rising (m ∷ ns)) e) k (omega arith) in
    omega arith

pub rises : (ns : List ℕ) → rising ns ≡ true → (j k : ℕ) → j < k → k < length ns → get_or ns j 0 < get_or ns k 0
rises [] e j k h l = absurd (omega arith)
rises (n ∷ ns) e j zero h l = absurd (omega arith)
rises (n ∷ ns) e zero (suc k) h l = first_less n ns e k (omega arith)
rises (n ∷ ns) e (suc j) (suc k) h l = rises ns (rising_rest n ns e) j k (omega arith) (omega arith)

-- ---- the search

pub index_present : (ns : List ℕ) (n i : ℕ) → i < length ns → get_or ns i 0 ≡ n → ((j : ℕ) → j < i → get_or ns j 0 ≡ n → ⊥) → index_of n ns ≡ i
unfolding index_of
index_present [] n i h e f = absurd (omega arith)
index_present (m ∷ ns) n zero h e f = rw (ap (λ (x : ℕ). eqb x n) e ∙ same n)
  where
    same : (x : ℕ) → eqb x x ≡ true
    same x = on (eqb x x) (eqb_refl x)
      where
        on : (b : Bool) → T b → b ≡ true
        on true t = refl
        on false t = absurd t
index_present (m ∷ ns) n (suc i) h e f = rw (ne_eqb m n (f zero (omega arith))) (ap suc (index_present ns n i (omega arith) e (λ j l. f (suc j) (omega arith))))

pub index_missing : (ns : List ℕ) (n : ℕ) → ((j : ℕ) → j < length ns → get_or ns j 0 ≡ n → ⊥) → index_of n ns ≡ length ns
unfolding index_of
index_missing [] n f = refl
index_missing (m ∷ ns) n f = rw (ne_eqb m n (f zero (omega arith))) (ap suc (index_missing ns n (λ j l. f (suc j) (omega arith))))

module _ (ns : List ℕ) (r : rising ns ≡ true) where
  ordered : (j k : ℕ) → j ≤ k → k < length ns → get_or ns j 0 ≤ get_or ns k 0
  ordered j k l m = on (dec_le (suc j) k)
    where
      on : Dec (suc j ≤ k) → get_or ns j 0 ≤ get_or ns k 0
      on (yes s) = omega (arith, rises ns r j k s m)
      on (no s) = let z : j ≡ k = omega arith in omega (arith, ap (λ (x : ℕ). get_or ns x 0) z)

  up : IsNonDecreasingBy (λ (x : ℕ). x) ns
  up = IsNonDecreasingBy-from_default (λ (x : ℕ). x) ns 0 ordered

  -- the table: the numbers, and none less than another behind them
  module _ (m : length ns ≤ 256) (n : ℕ) (b : n < 2 ^ 32) where
    in_front : (k d : ℕ) → k < length ns → get_or (padded ns) k d ≡ get_or ns k d
    in_front k d l = get_or_append_left ns (replicate (256 - length ns) (2 ^ 32 - 1)) d k l

    behind : (k d : ℕ) → length ns ≤ k → k < length (padded ns) → get_or (padded ns) k d ≡ 2 ^ 32 - 1
    behind k d l h =
        let w = length-append ns (replicate (256 - length ns) (2 ^ 32 - 1)) in
        let v = length-replicate (256 - length ns) (2 ^ 32 - 1) in
        get_or-append_right ns (replicate (256 - length ns) (2 ^ 32 - 1)) (length ns) k d refl l ∙ get_or-replicate (256 - length ns) (k - length ns) (2 ^ 32 - 1) d (omega (arith, w, v))

    pub table_parts : IsPartitionedBy (λ y. ltb y n) (padded ns)
    table_parts i j d le lt e = on (dec_le (suc j) (length ns))
      where
        less : get_or (padded ns) j d < n
        less = ltb-true (get_or (padded ns) j d) n e

        on : Dec (suc j ≤ length ns) → ltb (get_or (padded ns) i d) n ≡ true
        on (yes s) =
            let a = in_front i d (omega arith) in
            let c = in_front j d s in
            let o = up i j d le s in
            lt-ltb (get_or (padded ns) i d) n (omega (arith, a, c, o, less))
        on (no s) = absurd (omega (arith, behind j d (omega arith) lt, less))

    -- what a search in it answers
    module _ (i : ℕ) (p : IsPartitionPoint (λ y. ltb y n ≡ true) (λ y. ltb y n ≡ false) (padded ns) i) where
      before : (j : ℕ) → j < length ns → j < i → get_or ns j 0 < n
      before j l k = omega (arith, in_front j 0 l, ltb-true (get_or (padded ns) j 0) n (p.0 j 0 (omega arith) k))

      not_before : (j : ℕ) → j < length ns → i ≤ j → n ≤ get_or ns j 0
      not_before j l k =
          let w = length-append ns (replicate (256 - length ns) (2 ^ 32 - 1)) in
          omega (arith, in_front j 0 l, ltb-false (get_or (padded ns) j 0) n (p.1 j 0 k (omega (arith, w))))

      pub index_found : i < length ns → get_or ns i 0 ≡ n → (i < length ns) × (i ≡ index_of n ns)
      index_found l e = (l, sym (index_present ns n i l e (λ j k q. omega (arith, before j (omega arith) k, q))))

      pub index_none : (i < length ns → get_or ns i 0 ≡ n → ⊥) → length ns ≤ index_of n ns
      index_none f = omega (arith, index_missing ns n (λ j l q. on j l q (dec_le i j)))
        where
          on : (j : ℕ) → j < length ns → get_or ns j 0 ≡ n → Dec (i ≤ j) → ⊥
          on j l q (yes k) =
              let a : get_or ns i 0 ≤ get_or ns j 0 = ordered i j k l in
              let b : n ≤ get_or ns i 0 = not_before i (omega arith) (omega arith) in
              f (omega arith) (omega (arith, q))
          on j l q (no k) = omega (arith, before j l (omega arith), q)

-- ---- whether numbers rise, one after the other

abbrev pub Rises : List ℕ → Type 0
Rises ns = (k : ℕ) → k + 1 < length ns → get_or ns k 0 < get_or ns (k + 1) 0

each_rising : (ns : List ℕ) → Rises ns → rising ns ≡ true
unfolding rising
each_rising [] f = refl
each_rising (n ∷ []) f = refl
each_rising (n ∷ m ∷ ns) f = rw (lt-ltb n m (f 0 (omega arith))) (each_rising (m ∷ ns) (λ k l. behind k (f (suc k) (omega arith))))
  where
    behind : (k : ℕ) → get_or (m ∷ ns) k 0 < get_or (n ∷ m ∷ ns) (suc k + 1) 0 → get_or (m ∷ ns) k 0 < get_or (m ∷ ns) (k + 1) 0
    behind k g = let q : suc k + 1 ≡ suc (k + 1) = omega arith in omega (arith, ap (λ (j : ℕ). get_or (n ∷ m ∷ ns) j 0) q)

rising_each : (ns : List ℕ) → rising ns ≡ true → Rises ns
rising_each ns e k l = rises ns e k (k + 1) (omega arith) l

pub rising_is : (ns : List ℕ) (b : Bool) → (IsTrue b → Rises ns) × (Rises ns → IsTrue b) → b ≡ rising ns
rising_is ns true t = sym (each_rising ns (t.0 refl))
rising_is ns false t = on (rising ns) refl
  where
    on : (v : Bool) → rising ns ≡ v → false ≡ rising ns
    on true e = absurd (let z : false ≡ true = t.1 (rising_each ns e) in let k : ◌≡◌ {A = ℕ} 0 1 = cc in omega arith)
    on false e = sym e
