-- Names are told apart a batch at a time. Main statements: `apart`, `differ_moved`, `none_moved`, `looked_up`, `none_stopped`,
-- `none_passed`, `none_ended`, `neighbours`. Assumes nothing.
use Prim.Native.Nat.{ℕ, zero, suc, ◌+◌, ◌≤◌, ◌<◌}
use mathlib.Core.Path.{◌≡◌, refl, sym, ap, ap₂, ◌∙◌, subst}
use mathlib.Core.Bool.{Bool, true, false, ◌&&◌, ◌||◌, not, true≢false}
use mathlib.Core.List.{List, [], ◌∷◌, ◌++◌}
use mathlib.Core.Logic.{◌⊎◌, inl, inr}
use native.Mathlib.Omega.{arith}
use native.Mathlib.Decide.{dec_le}
use lib.Dec.{eqb}
use lib.ListN.{length, get_or}
use Rattle.std.specs.Prelude.{Result, Ok, Err, MatchResult, IsTrue, is_ok}
use Rattle.std.specs.List.{sum_by, list_any}
use Rattle.std.specs.List.Sorted.{IsPermutation, IsNonDecreasing, IsBinarySearchResult}
use Rattle.std.specs.Ordering.{nat_cmp}
use Rattle.std.proofs.lemmas.List.Sums.{sum_by-cons}
use Rattle.std.proofs.lemmas.List.Sorted.{sum_by-IsPermutation, list_any-IsPermutation, searched}
use Rattle.std.proofs.lemmas.Bool.{and_from, not-true, not_from_false, cases_Bool}
use borrow.Author.Tests.{eq-eqb, eqb-true, ne_eqb}
use Rattle.field.specs.Bytes.{pick}
use Rattle.catalogue.proofs.Tests.{and_left, and_right, eq_flip, not_both}
use Rattle.catalogue_calls.specs.Standing.{among, all_differ}
use Rattle.catalogue_calls.specs.Differ.{none_among}

-- ---- a batch, and what is behind it

among_both : (n : ℕ) (xs ys : List ℕ) → among n (xs ++ ys) ≡ (among n xs || among n ys)
unfolding among
among_both n [] ys = refl
among_both n (x ∷ xs) ys = on (eqb n x) (among_both n xs ys)
  where
    on : (b : Bool) → among n (xs ++ ys) ≡ (among n xs || among n ys) → pick b true (among n (xs ++ ys)) ≡ (pick b true (among n xs) || among n ys)
    on true e = refl
    on false e = e

and_swap : (a b c : Bool) → (a && (b && c)) ≡ (b && (a && c))
and_swap true b c = refl
and_swap false true c = refl
and_swap false false c = refl

-- x is not among ys, nor are any of xs
none_more : (x : ℕ) (xs ys : List ℕ) → none_among ys (x ∷ xs) ≡ (not (among x ys) && none_among ys xs)
unfolding none_among among
none_more x xs [] = refl
none_more x xs (y ∷ ys) = rw (eq_flip y x, none_more x xs ys) (on (eqb x y))
  where
    on : (b : Bool) → (not (pick b true (among y xs)) && (not (among x ys) && none_among ys xs)) ≡ (not (pick b true (among x ys)) && (not (among y xs) && none_among ys xs))
    on true = refl
    on false = and_swap (not (among y xs)) (not (among x ys)) (none_among ys xs)

regroup : (a b d n e : Bool) → (not (a || b) && (d && (n && e))) ≡ ((not a && d) && ((not b && n) && e))
regroup true b d n e = refl
regroup false true true n e = refl
regroup false true false n e = refl
regroup false false d n e = refl

none_of_none : (ys : List ℕ) → none_among ys [] ≡ true
unfolding none_among among
none_of_none [] = refl
none_of_none (y ∷ ys) = none_of_none ys

pub apart : (xs ys : List ℕ) → all_differ (xs ++ ys) ≡ (all_differ xs && (none_among ys xs && all_differ ys))
unfolding all_differ
apart [] ys = ap (λ (b : Bool). b && all_differ ys) (sym (none_of_none ys))
apart (x ∷ xs) ys = rw (among_both x xs ys, apart xs ys, none_more x xs ys) (regroup (among x xs) (among x ys) (all_differ xs) (none_among ys xs) (all_differ ys))

-- ---- the same names in another order

is : ℕ → ℕ → ℕ
is n m = pick (eqb n m) 1 0

absent : (n : ℕ) (ns : List ℕ) → among n ns ≡ false → sum_by (is n) ns ≡ 0
unfolding among is
absent n [] e = refl
absent n (m ∷ ns) e = sum_by-cons (is n) m ns ∙ on (eqb n m) e (absent n ns)
  where
    on : (b : Bool) → pick b true (among n ns) ≡ false → (among n ns ≡ false → sum_by (is n) ns ≡ 0) → pick b 1 0 + sum_by (is n) ns ≡ 0
    on true q h = absurd (true≢false q)
    on false q h = omega (arith, h q)

present : (n : ℕ) (ns : List ℕ) → among n ns ≡ true → 1 ≤ sum_by (is n) ns
unfolding among is
present n [] e = absurd (true≢false (sym e))
present n (m ∷ ns) e = let z = on (eqb n m) e (present n ns) in omega (arith, sum_by-cons (is n) m ns)
  where
    on : (b : Bool) → pick b true (among n ns) ≡ true → (among n ns ≡ true → 1 ≤ sum_by (is n) ns) → 1 ≤ pick b 1 0 + sum_by (is n) ns
    on true q h = omega arith
    on false q h = omega (arith, h q)

differ_once : (ns : List ℕ) → all_differ ns ≡ true → (n : ℕ) → sum_by (is n) ns ≤ 1
unfolding all_differ is
differ_once [] e n = omega arith
differ_once (m ∷ ns) e n = let z = on (cases_Bool (eqb n m)) (differ_once ns (and_right (not (among m ns)) (all_differ ns) e) n) in omega (arith, sum_by-cons (is n) m ns)
  where
    on : (eqb n m ≡ true) ⊎ (eqb n m ≡ false) → sum_by (is n) ns ≤ 1 → pick (eqb n m) 1 0 + sum_by (is n) ns ≤ 1
    on (inl t) h =
        let q : n ≡ m = eqb-true n m t in
        let z : sum_by (is n) ns ≡ 0 = absent n ns (ap (λ (x : ℕ). among x ns) q ∙ not-true (among m ns) (and_left (not (among m ns)) (all_differ ns) e)) in
        rw t (omega arith)
    on (inr t) h = rw t (omega arith)

once_differ : (ns : List ℕ) → ((n : ℕ) → sum_by (is n) ns ≤ 1) → all_differ ns ≡ true
unfolding all_differ is
once_differ [] f = refl
once_differ (m ∷ ns) f =
    and_from (not (among m ns)) (all_differ ns) (not_from_false (among m ns) (on (cases_Bool (among m ns)))) (once_differ ns (λ n. omega (arith, f n, sum_by-cons (is n) m ns)))
  where
    on : (among m ns ≡ true) ⊎ (among m ns ≡ false) → among m ns ≡ false
    on (inl t) =
        let one : is m m ≡ 1 = ap (λ (b : Bool). pick {A = ℕ} b 1 0) (eq-eqb m m refl) in
        absurd (omega (arith, present m ns t, f m, sum_by-cons (is m) m ns, one))
    on (inr t) = t

alike : (a b : Bool) → (a ≡ true → b ≡ true) → (b ≡ true → a ≡ true) → a ≡ b
alike true b f g = sym (f refl)
alike false true f g = g refl
alike false false f g = refl

pub differ_moved : (xs ys : List ℕ) → IsPermutation xs ys → all_differ xs ≡ all_differ ys
differ_moved xs ys p =
    alike (all_differ xs) (all_differ ys)
    (λ e. once_differ ys (λ n. omega (arith, differ_once xs e n, sum_by-IsPermutation (is n) xs ys p)))
    (λ e. once_differ xs (λ n. omega (arith, differ_once ys e n, sum_by-IsPermutation (is n) xs ys p)))

among_any : (n : ℕ) (ns : List ℕ) → among n ns ≡ list_any (eqb n) ns
unfolding among
among_any n [] = refl
among_any n (m ∷ ns) = on (eqb n m) (among_any n ns)
  where
    on : (b : Bool) → among n ns ≡ list_any (eqb n) ns → pick b true (among n ns) ≡ (b || list_any (eqb n) ns)
    on true e = refl
    on false e = e

among_moved : (n : ℕ) (xs ys : List ℕ) → IsPermutation xs ys → among n xs ≡ among n ys
among_moved n xs ys p = among_any n xs ∙ list_any-IsPermutation (eqb n) xs ys p ∙ sym (among_any n ys)

pub none_moved : (ns xs ys : List ℕ) → IsPermutation xs ys → none_among ns xs ≡ none_among ns ys
unfolding none_among
none_moved [] xs ys p = refl
none_moved (n ∷ ns) xs ys p = ap₂ (λ (a b : Bool). not a && b) (among_moved n xs ys p) (none_moved ns xs ys p)

-- ---- by places

nowhere : (n : ℕ) (ns : List ℕ) → ((k : ℕ) → k < length ns → get_or ns k 0 ≡ n → ⊥) → among n ns ≡ false
unfolding among
nowhere n [] f = refl
nowhere n (m ∷ ns) f = rw (ne_eqb n m (λ e. f 0 (omega arith) (sym e))) (nowhere n ns (λ k l e. f (suc k) (omega arith) e))

somewhere : (n : ℕ) (ns : List ℕ) (k : ℕ) → k < length ns → get_or ns k 0 ≡ n → among n ns ≡ true
unfolding among
somewhere n [] k l e = absurd (omega arith)
somewhere n (m ∷ ns) zero l e = rw (eq-eqb n m (sym e)) refl
somewhere n (m ∷ ns) (suc k) l e = on (eqb n m) (somewhere n ns k (omega arith) e)
  where
    on : (b : Bool) → among n ns ≡ true → pick b true (among n ns) ≡ true
    on true h = refl
    on false h = h

-- what a search for n among sorted numbers says
module _ (ns : List ℕ) (up : IsNonDecreasing ns) (n : ℕ) (v : Result ℕ ℕ) (b : IsBinarySearchResult (λ y. nat_cmp y n) ns v) where
  abbrev Asked : Result ℕ ℕ → Type 0
  Asked u = MatchResult u (λ i. (i < length ns) × (get_or ns i 0 ≡ n)) (λ i. (i ≤ length ns) × ((k : ℕ) → k < i → get_or ns k 0 < n) × ((k : ℕ) → i ≤ k → k < length ns → n < get_or ns k 0))

  asked : Asked v
  asked = searched ns n v b (λ i j l m. up i j 0 l m)

  beside : {i : ℕ} → v ≡ Err i → (k : ℕ) → k < length ns → get_or ns k 0 ≡ n → ⊥
  beside {i} q k l e = on (dec_le i k)
    where
      around : (i ≤ length ns) × ((j : ℕ) → j < i → get_or ns j 0 < n) × ((j : ℕ) → i ≤ j → j < length ns → n < get_or ns j 0)
      around = subst Asked q asked

      on : Dec (i ≤ k) → ⊥
      on (yes m) = omega (arith, around.2 k m l)
      on (no m) = omega (arith, around.1 k (omega arith))

  pub looked_up : is_ok v ≡ among n ns
  looked_up = on v refl
    where
      on : (u : Result ℕ ℕ) → v ≡ u → is_ok v ≡ among n ns
      on (Ok i) q = let there : (i < length ns) × (get_or ns i 0 ≡ n) = subst Asked q asked in ap is_ok q ∙ sym (somewhere n ns i there.0 there.1)
      on (Err i) q = ap is_ok q ∙ sym (nowhere n ns (beside q))

-- ---- a walk over the names behind

module _ {ms ns : List ℕ} {n : ℕ} (e : ms ≡ n ∷ ns) (xs : List ℕ) where
  pub none_stopped : among n xs ≡ true → none_among ms xs ≡ false
  unfolding none_among
  none_stopped q = ap (λ (x : List ℕ). none_among x xs) e ∙ ap (λ (b : Bool). not b && none_among ns xs) q

  pub none_passed : among n xs ≡ false → none_among ms xs ≡ none_among ns xs
  unfolding none_among
  none_passed q = ap (λ (x : List ℕ). none_among x xs) e ∙ ap (λ (b : Bool). not b && none_among ns xs) q

pub none_ended : {ms : List ℕ} → ms ≡ [] → (xs : List ℕ) → none_among ms xs ≡ true
unfolding none_among
none_ended e xs = ap (λ (x : List ℕ). none_among x xs) e

-- ---- sorted numbers, one after the other

abbrev pub Rises : List ℕ → Type 0
Rises ns = (k : ℕ) → k + 1 < length ns → get_or ns k 0 < get_or ns (k + 1) 0

rises_behind : (n : ℕ) (ns : List ℕ) → Rises (n ∷ ns) → Rises ns
rises_behind n ns f k l = let q : suc k + 1 ≡ suc (k + 1) = omega arith in omega (arith, f (suc k) (omega arith), ap (λ (j : ℕ). get_or (n ∷ ns) j 0) q)

above : (n : ℕ) (ns : List ℕ) → Rises (n ∷ ns) → (k : ℕ) → k < length ns → n < get_or ns k 0
above n ns f zero l = f 0 (omega arith)
above n ns f (suc k) l = let q : suc k + 1 ≡ suc (suc k) = omega arith in omega (arith, above n ns f k (omega arith), f (suc k) (omega arith), ap (λ (j : ℕ). get_or (n ∷ ns) j 0) q)

rises_differ : (ns : List ℕ) → Rises ns → all_differ ns ≡ true
unfolding all_differ
rises_differ [] f = refl
rises_differ (n ∷ ns) f =
    and_from (not (among n ns)) (all_differ ns) (not_from_false (among n ns) (nowhere n ns (λ k l e. omega (arith, above n ns f k l)))) (rises_differ ns (rises_behind n ns f))

differ_at : (ns : List ℕ) → all_differ ns ≡ true → (j k : ℕ) → j < k → k < length ns → get_or ns j 0 ≡ get_or ns k 0 → ⊥
unfolding all_differ
differ_at [] d j k l m e = absurd (omega arith)
differ_at (n ∷ ns) d j zero l m e = absurd (omega arith)
differ_at (n ∷ ns) d zero (suc k) l m e = not_both (among n ns) (somewhere n ns k (omega arith) (sym e)) (not-true (among n ns) (and_left (not (among n ns)) (all_differ ns) d))
differ_at (n ∷ ns) d (suc j) (suc k) l m e = differ_at ns (and_right (not (among n ns)) (all_differ ns) d) j k (omega arith) (omega arith) e

differ_rises : (ns : List ℕ) → IsNonDecreasing ns → all_differ ns ≡ true → Rises ns
differ_rises ns up d k l =
    let a : get_or ns k 0 ≤ get_or ns (k + 1) 0 = up k (k + 1) 0 (omega arith) l in
    let b : get_or ns k 0 ≡ get_or ns (k + 1) 0 → ⊥ = differ_at ns d k (k + 1) (omega arith) l in
    omega arith

pub neighbours : (ns : List ℕ) (b : Bool) → IsNonDecreasing ns → (IsTrue b → Rises ns) × (Rises ns → IsTrue b) → b ≡ all_differ ns
neighbours ns b up t = alike b (all_differ ns) (λ e. rises_differ ns (t.0 e)) (λ e. t.1 (differ_rises ns up e))
