-- What `read_up_to` says: the largest position of those asked for, and all records if one of them is absent. Main statements: `position_is_first`,
-- `absent_reads_all`, `reads_to_one`. Assumes nothing.
use mathlib.Core.Path.{◌≡◌, refl, ap, ◌∙◌}
use mathlib.Core.Bool.{Bool, true, false}
use Prim.Native.Nat.{ℕ, zero, suc, ◌≤◌, ◌<◌, max}
use native.Mathlib.Omega.{arith}
use mathlib.Core.List.{List, [], ◌∷◌}
use lib.Dec.{eqb, ltb}
use lib.ListN.{length, take, get_or}
use borrow.Author.Tests.{ltb-true, ltb-false, eq-eqb, ne_eqb}
use Rattle.field.specs.Bytes.{Bytes, pick}
use Rattle.field.specs.Number.{number_of}
use Rattle.field.specs.Row.{Row, end, loose, field}
use Rattle.find.specs.Words.{numbers_of, Missing, position_of, read_up_to}

-- ---- the position of one number

pub position_here : (n t : ℕ) (f : Bytes) (i r : Row) → number_of (take 4 f) ≡ n → position_of n (field t f i r) ≡ 1
unfolding position_of
position_here n t f i r e = ap (λ (y : Bool). pick y 1 (suc (position_of n r))) (eq-eqb (number_of (take 4 f)) n e)

pub position_further : (n t : ℕ) (f : Bytes) (i r : Row) → (number_of (take 4 f) ≡ n → ⊥) → position_of n (field t f i r) ≡ suc (position_of n r)
unfolding position_of
position_further n t f i r e = ap (λ (y : Bool). pick y 1 (suc (position_of n r))) (ne_eqb (number_of (take 4 f)) n e)

pub position_is_first : (n : ℕ) (x : Row) (j : ℕ) → j < length (numbers_of x) → get_or (numbers_of x) j 0 ≡ n → ((i : ℕ) → i < j → get_or (numbers_of x) i 0 ≡ n → ⊥) → position_of n x ≡ suc j
unfolding numbers_of
position_is_first n end j h e b = absurd (omega arith)
position_is_first n (loose c) j h e b = absurd (omega arith)
position_is_first n (field t f i r) zero h e b = position_here n t f i r e
position_is_first n (field t f i r) (suc j) h e b = position_further n t f i r (b 0 (omega arith)) ∙ ap suc (position_is_first n r j (omega arith) e (λ k l. b (suc k) (omega arith)))

position_missing : (n : ℕ) (x : Row) → Missing n x → position_of n x ≡ length (numbers_of x)
unfolding numbers_of position_of
position_missing n end b = refl
position_missing n (loose c) b = refl
position_missing n (field t f i r) b = position_further n t f i r (b 0 (omega arith)) ∙ ap suc (position_missing n r (λ k l. b (suc k) (omega arith)))

position_within : (n : ℕ) (x : Row) → position_of n x ≤ length (numbers_of x)
unfolding numbers_of position_of
position_within n end = omega arith
position_within n (loose c) = omega arith
position_within n (field t f i r) = on (eqb (number_of (take 4 f)) n) (position_within n r)
  where
    on : (b : Bool) → position_of n r ≤ length (numbers_of r) → pick b 1 (suc (position_of n r)) ≤ suc (length (numbers_of r))
    on true l = omega arith
    on false l = omega arith

-- ---- the largest position

pub reads_each : (ns : List ℕ) (x : Row) (k : ℕ) → k < length ns → position_of (get_or ns k 0) x ≤ read_up_to ns x
unfolding read_up_to
reads_each [] x k h = absurd (omega arith)
reads_each (n ∷ ns) x zero h = omega arith
reads_each (n ∷ ns) x (suc k) h = let a : position_of (get_or ns k 0) x ≤ read_up_to ns x = reads_each ns x k (omega arith) in omega arith

pub reads_below : (ns : List ℕ) (x : Row) (c : ℕ) → ((k : ℕ) → k < length ns → position_of (get_or ns k 0) x ≤ c) → read_up_to ns x ≤ c
unfolding read_up_to
reads_below [] x c f = omega arith
reads_below (n ∷ ns) x c f =
    let a : position_of n x ≤ c = f 0 (omega arith) in
    let b : read_up_to ns x ≤ c = reads_below ns x c (λ k h. f (suc k) (omega arith)) in
    omega arith

-- all records, if one that is asked for is absent
pub absent_reads_all : (ns : List ℕ) (x : Row) (k : ℕ) → k < length ns → Missing (get_or ns k 0) x → read_up_to ns x ≡ length (numbers_of x)
absent_reads_all ns x k h b =
    let l : position_of (get_or ns k 0) x ≡ length (numbers_of x) = position_missing (get_or ns k 0) x b in
    let u : read_up_to ns x ≤ length (numbers_of x) = reads_below ns x (length (numbers_of x)) (λ j i. position_within (get_or ns j 0) x) in
    let v : position_of (get_or ns k 0) x ≤ read_up_to ns x = reads_each ns x k h in
    omega arith

-- the position of one that is asked for, none of which stands behind it (`reads_each`)
pub reads_to_one : (ns : List ℕ) (x : Row) → 1 ≤ length ns → (k : ℕ) × (k < length ns) × (read_up_to ns x ≡ position_of (get_or ns k 0) x)
unfolding read_up_to
reads_to_one [] x h = absurd (omega arith)
reads_to_one (n ∷ []) x h = (0, omega arith, omega arith)
reads_to_one (n ∷ m ∷ ns) x h = on (ltb (position_of n x) (read_up_to (m ∷ ns) x)) refl (reads_to_one (m ∷ ns) x (omega arith))
  where
    on : (b : Bool) → ltb (position_of n x) (read_up_to (m ∷ ns) x) ≡ b → (k : ℕ) × (k < length (m ∷ ns)) × (read_up_to (m ∷ ns) x ≡ position_of (get_or (m ∷ ns) k 0) x) →
        (k : ℕ) × (k < length (n ∷ m ∷ ns)) × (max (position_of n x) (read_up_to (m ∷ ns) x) ≡ position_of (get_or (n ∷ m ∷ ns) k 0) x)
    on true e z =
        let l : position_of n x < read_up_to (m ∷ ns) x = ltb-true (position_of n x) (read_up_to (m ∷ ns) x) e in
        (suc z.0, omega (arith, z.1), omega (arith, l, z.2))
    on false e z =
        let l : read_up_to (m ∷ ns) x ≤ position_of n x = ltb-false (position_of n x) (read_up_to (m ∷ ns) x) e in
        (0, omega arith, omega (arith, l))
