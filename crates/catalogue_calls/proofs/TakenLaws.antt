-- Names that are taken into a batch one by one, and what the batch tells of all names once it is sorted. Main statements: `taken_one`, `taken_full`,
-- `taken_all`, `taken_nothing`, `one_twice`, `one_behind`, `all_behind`. Assumes nothing.
use Prim.Native.Nat.{ℕ, ◌+◌, ◌≤◌, ◌<◌}
use mathlib.Core.Path.{◌≡◌, sym, ap, ap₂, ◌∙◌}
use mathlib.Core.Bool.{Bool, true, false, ◌&&◌}
use mathlib.Core.List.{List, [], ◌∷◌, ◌++◌}
use native.Mathlib.Omega.{arith}
use lib.ListN.{length, take, set}
use Rattle.std.proofs.Common.{append_assoc}
use Rattle.std.proofs.Math.ListN.{length-set}
use Rattle.std.proofs.lemmas.List.{take_more_set}
use Rattle.std.specs.List.Sorted.{IsPermutation}
use Rattle.field.specs.Bytes.{Bytes}
use Rattle.catalogue_calls.specs.Standing.{names_in, all_differ, framed, IsPage}
use Rattle.catalogue_calls.specs.Differ.{none_among, Taken}
use Rattle.catalogue_calls.proofs.FrameLaws.{names_next, names_end}
use Rattle.catalogue_calls.proofs.DifferLaws.{apart, differ_moved, none_moved}

-- so far; the batch has room for m
pub record Taking (s : Bytes) (m : ℕ) (batch : List ℕ) (count : ℕ) (r : Bytes) : Type 0 where
  pub within : count ≤ m
  pub room : length batch ≡ m
  pub names_are : names_in s ≡ take count batch ++ names_in r
  pub shorter : count + length r ≤ length s

pub taken_one : {s : Bytes} {m : ℕ} {batch : List ℕ} {count : ℕ} {rest t p r : Bytes} {name house : ℕ} → Taking s m batch count rest → count < length batch → IsPage rest name house t p r
    → Taking s m (set batch count name) (count + 1) r
taken_one {s} {m} {batch} {count} {rest} {t} {p} {r} {name} {house} k l i =
    record {
      within = omega (arith, k.room);
      room = length-set batch count name ∙ k.room;
      names_are =
          k.names_are
          ∙ ap (λ (ns : List ℕ). take count batch ++ ns) (names_next i)
          ∙ sym (append_assoc (take count batch) (name ∷ []) (names_in r))
          ∙ ap (λ (ns : List ℕ). ns ++ names_in r) (sym (take_more_set batch count name l));
      shorter = omega (arith, k.shorter, i.sizes);
    }

pub taken_full : {s : Bytes} {m : ℕ} {batch : List ℕ} {count : ℕ} {r : Bytes} → Taking s m batch count r → length batch ≤ count → Taken s m batch count r
taken_full k l = record { within = k.within; names_are = k.names_are; all_taken = λ h. absurd (omega (arith, k.room)); shorter = k.shorter }

pub taken_all : {s : Bytes} {m : ℕ} {batch : List ℕ} {count : ℕ} {r : Bytes} → Taking s m batch count r → framed r ≡ false → Taken s m batch count r
taken_all {s} {m} {batch} {count} {r} k e = record { within = k.within; names_are = k.names_are; all_taken = λ h. names_end r e; shorter = k.shorter }

-- ---- a batch that is sorted

module _ {s : Bytes} {m : ℕ} {batch : List ℕ} {count : ℕ} {r : Bytes} (t : Taken s m batch count r) where
  pub taken_nothing : count ≡ 0 → 0 < m → all_differ (names_in s) ≡ true
  unfolding all_differ
  taken_nothing e l = ap all_differ (t.names_are ∙ ap₂ (λ (k : ℕ) (ns : List ℕ). take k batch ++ ns) e (t.all_taken (omega arith)))

  module _ {sorted : List ℕ} (p : IsPermutation (take count batch) sorted) where
    whole : all_differ (names_in s) ≡ (all_differ sorted && (none_among (names_in r) sorted && all_differ (names_in r)))
    whole =
        ap all_differ t.names_are
        ∙ apart (take count batch) (names_in r)
        ∙ ap₂ (λ (a b : Bool). a && (b && all_differ (names_in r))) (differ_moved _ _ p) (none_moved (names_in r) _ _ p)

    pub one_twice : all_differ sorted ≡ false → all_differ (names_in s) ≡ false
    one_twice e = whole ∙ ap (λ (b : Bool). b && (none_among (names_in r) sorted && all_differ (names_in r))) e

    pub one_behind : all_differ sorted ≡ true → none_among (names_in r) sorted ≡ false → all_differ (names_in s) ≡ false
    one_behind e f = whole ∙ ap₂ (λ (a b : Bool). a && (b && all_differ (names_in r))) e f

    pub all_behind : all_differ sorted ≡ true → none_among (names_in r) sorted ≡ true → all_differ (names_in s) ≡ all_differ (names_in r)
    all_behind e f = whole ∙ ap₂ (λ (a b : Bool). a && (b && all_differ (names_in r))) e f
