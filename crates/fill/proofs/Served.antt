-- The whole index: an order that is checked is a row of fillings, and each number that it asks for is served. Main statements: `checked_whole`,
-- `gathered`, `index_is`. Assumes nothing.
use mathlib.Core.Path.{◌≡◌, sym, ap, ◌∙◌, subst}
use Prim.Native.Nat.{ℕ, ◌+◌, ◌≤◌, ◌<◌}
use native.Mathlib.Omega.{arith}
use mathlib.Core.List.{List, ◌++◌}
use lib.Seq.{take_at}
use lib.ListN.{length, take, drop, get_or, length-append, get_or-append}
use Rattle.std.specs.Prelude.{Option, Some, None, Result, Ok, Err, IsErr, IsErrAnd}
use Rattle.refusal.specs.declared.Refusal.{Refusal}
use Rattle.std.specs.List.{Contains}
use Rattle.std.specs.List.Sorted.{IsNonDecreasing, IsPermutation}
use Rattle.std.proofs.lemmas.Grind.{get_or_default_zero}
use Rattle.std.proofs.lemmas.List.Sorted.{IsPermutation-sym, Contains-permutation}
use Rattle.field.specs.Bytes.{Bytes}
use Rattle.field.specs.Put.{Wrote}
use Rattle.field.proofs.PutLaws.{put_fits}
use Rattle.refusal.specs.Refusal.{Fine}
use Rattle.find.specs.Find.{index_of}
use Rattle.find.proofs.Firsts.{index_hits}
use Rattle.fill.specs.Order.{read_order, check_order, asked}
use Rattle.fill.specs.Indexed.{Checked, Placed, Located, Served, Indexed}
use Rattle.fill.specs.declared.index.Index.{Index}
use Rattle.fill.proofs.AskedLaws.{order_fillings}
use Rattle.fill.proofs.Firsts.{index_below}

-- ---- the order

-- what a `?` returns for a refusal
pub err_is : {A : Type 0} (x : Result A Refusal) {n : Refusal} → IsErr x × IsErrAnd x (λ m. m ≡ n) → x ≡ Err n
err_is (Ok a) h = absurd h.1
err_is (Err m) h = ap Err h.1

pub checked_whole : {o : Bytes} → check_order (read_order o) ≡ Fine → Checked o
checked_whole {o} e = record { depth = 1; fine = order_fillings (read_order o) e }

-- what is gathered stands at the front
pub gathered : {o w o' : List ℕ} {n : ℕ} → 0 + length w ≤ length o → Wrote o 0 w o' n → (n ≡ length w) × (take n o' ≡ w)
gathered {o} {w} {o'} {n} l h =
    let e : n ≡ length w = omega (arith, h.end_is) in
    (e, ap (take n) (h.out_is ∙ put_fits o 0 w l) ∙ take_at w (drop (0 + length w) o) n (sym e))

-- ---- each number is served

module _ {ns sorted : List ℕ} (p : IsPermutation ns sorted) where
  -- what is asked for stands among the sorted ones, and nothing else does
  stands : (n : ℕ) → Contains ns n → index_of n sorted < length sorted
  stands n c =
      let d : Contains sorted n = Contains-permutation ns sorted n p c in
      index_below sorted n d.0 d.1 (sym (get_or_default_zero sorted d.0 n d.1) ∙ d.2)

  was_asked : (n : ℕ) → index_of n sorted < length sorted → Contains ns n
  was_asked n l =
      let d : Contains sorted n = (index_of n sorted, l, get_or_default_zero sorted (index_of n sorted) n l ∙ index_hits n sorted l) in
      Contains-permutation sorted ns n (IsPermutation-sym ns sorted p) d

stands_in : (ns : List ℕ) (k d : ℕ) → k < length ns → Contains ns (get_or ns k d)
stands_in ns k d l = (k, l, get_or_default_zero ns k (get_or ns k d) l ∙ sym (get_or_default_zero ns k d l))

module _ (N : ℕ) (t o : Bytes) (sorted ps ns ps₂ : List ℕ) (count : ℕ) (p : IsPermutation (asked (read_order o)) sorted) (e : count ≡ length sorted) (up : IsNonDecreasing sorted) (room : length sorted ≤ length ps) where
  abbrev whole : Index N
  whole = record { numbers = sorted ++ ns; places = ps ++ ps₂; count = count }

  front : take count (sorted ++ ns) ≡ sorted
  front = take_at sorted ns count (sym e)

  one_served : ((n : ℕ) → index_of n sorted < length sorted → Placed t n (get_or ps (index_of n sorted) 0)) → (n : ℕ) → index_of n sorted < length sorted → Served t (take count (sorted ++ ns)) (ps ++ ps₂) n
  one_served h n l =
      let i : index_of n (take count (sorted ++ ns)) ≡ index_of n sorted = ap (index_of n) front in
      let q : get_or (ps ++ ps₂) (index_of n (take count (sorted ++ ns))) 0 ≡ get_or ps (index_of n sorted) 0 = ap (λ (j : ℕ). get_or (ps ++ ps₂) j 0) i ∙ get_or-append ps ps₂ 0 (index_of n sorted) (omega arith) in
      record {
        sorted = subst IsNonDecreasing (sym front) up;
        asked_for = omega (arith, ap length front, i);
        has_place = omega (arith, ap length front, length-append ps ps₂);
        place = subst (Placed t n) (sym q) (h n l);
      }

  pub index_is : (r : Option (Unit {0})) → Located t sorted ps r → Indexed t o whole r
  index_is None h = (h.0, was_asked p h.0 h.1, h.2)
  index_is (Some u) h = (omega (arith, length-append sorted ns), λ k d l. one_served h (get_or (asked (read_order o)) k d) (stands p (get_or (asked (read_order o)) k d) (stands_in (asked (read_order o)) k d l)))
