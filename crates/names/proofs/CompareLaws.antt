-- Laws of bytes compared, and of a name read letter by letter, as it stands or in small letters.
-- Main statements: `same_eq`, `same_step`, `same_other`, `letter_at`, `letters_all`.
-- Assumes nothing.
use mathlib.Core.Path.{◌≡◌, refl, sym, ap, ap₂}
use mathlib.Core.Bool.{Bool, true, false, ◌&&◌, false≢true, and-eq-true_iff, and-false}
use mathlib.Core.List.{[], ◌∷◌}
use Prim.Native.Nat.{ℕ, zero, suc, ◌+◌, ◌≤◌, ◌<◌}
use native.Mathlib.Nat.{not-suc-le-zero, le_of_suc-le-suc}
use native.Mathlib.Numerals.{add-one}
use native.Mathlib.Omega.{arith}
use lib.Pointwise.{pointwise}
use lib.Dec.{leb, eqb}
use lib.ListN.{length, get_or, drop}
use lib.Seq.{drop-cons, drop-length}
use borrow.Author.Tests.{eqb-true, eq-eqb, ne_eqb, lt-leb, le-leb, ltb-true, ltb-false}
use Rattle.std.specs.Char.{to_ascii_lowercase}
use Rattle.std.specs.List.{zip, list_all}
use Rattle.std.specs.Prelude.{cond, nat_lt}
use Rattle.field.specs.Bytes.{Bytes, pick, same}
use Rattle.names.specs.Names.{capital, small_letter, small_letters}
use Rattle.names.specs.Table.{read_as}

pub same_eq : (x y : Bytes) → same x y ≡ true → x ≡ y
unfolding same
same_eq [] [] h = refl
same_eq [] (d ∷ ds) h = absurd (false≢true h)
same_eq (c ∷ cs) [] h = absurd (false≢true h)
same_eq (c ∷ cs) (d ∷ ds) h =
    let p = (and-eq-true_iff (eqb c d) (same cs ds)).0 h in
    ap₂ (λ (a : ℕ) (l : Bytes). a ∷ l) (eqb-true c d p.0) (same_eq cs ds p.1)

pub same_refl : (x : Bytes) → same x x ≡ true
unfolding same
same_refl [] = refl
same_refl (c ∷ cs) = rw (eq-eqb c c refl) (same_refl cs)

-- one letter further on
-- the library's comparison
pub pointwise_same : (x y : Bytes) → pointwise eqb x y ≡ same x y
unfolding same
pointwise_same [] [] = refl
pointwise_same [] (d ∷ ds) = refl
pointwise_same (c ∷ cs) [] = refl
pointwise_same (c ∷ cs) (d ∷ ds) = ap (λ (b : Bool). eqb c d && b) (pointwise_same cs ds)

pub same_step : (x y : Bytes) (i : ℕ) → i < length x → i < length y → same (drop i x) (drop i y) ≡ (eqb (get_or x i 0) (get_or y i 0) && same (drop (suc i) x) (drop (suc i) y))
unfolding same
same_step x y i h k = rw (drop-cons x i 0 h, drop-cons y i 0 k)

-- a turn that finds the letters at i the same goes on
pub same_on : (x y : Bytes) (i : ℕ) → i < length x → i < length y → get_or x i 0 ≡ get_or y i 0 → same (drop i x) (drop i y) ≡ same x y → same (drop (i + 1) x) (drop (i + 1) y) ≡ same x y
same_on x y i h k e p =
    let q : eqb (get_or x i 0) (get_or y i 0) ≡ true = eq-eqb (get_or x i 0) (get_or y i 0) e in
    rw add-one (rw (same_step x y i h k, q) at p)

-- one that finds them to differ is the last
pub same_off : (x y : Bytes) (i : ℕ) → i < length x → i < length y → (get_or x i 0 ≡ get_or y i 0 → ⊥) → same (drop i x) (drop i y) ≡ same x y → same x y ≡ false
same_off x y i h k e p =
    let q : eqb (get_or x i 0) (get_or y i 0) ≡ false = ne_eqb (get_or x i 0) (get_or y i 0) e in
    sym (rw (same_step x y i h k, q) at p)

-- all letters passed
pub same_end : (x y : Bytes) (i : ℕ) → length x ≡ i → length y ≡ i → same (drop i x) (drop i y) ≡ true
unfolding same
same_end x y i p q = rw (← p, drop-length x, p, ← q, drop-length y)

pub same_other : (x y : Bytes) → (length x ≡ length y → ⊥) → same x y ≡ false
unfolding same
same_other [] [] h = absurd (h refl)
same_other [] (d ∷ ds) h = refl
same_other (c ∷ cs) [] h = refl
same_other (c ∷ cs) (d ∷ ds) h = rw (same_other cs ds (λ e. h (ap suc e))) (and-false (eqb c d))

-- ---- capitals and small letters

pub capital_below : (c : ℕ) → c < 65 → capital c ≡ false
capital_below c h = rw (lt-leb 65 c h)

pub capital_above : (c : ℕ) → 90 < c → capital c ≡ false
capital_above c h = rw (lt-leb c 90 h) (and-false (leb 65 c))

pub capital_within : (c : ℕ) → 65 ≤ c → c ≤ 90 → capital c ≡ true
capital_within c h k = rw (le-leb 65 c h, le-leb c 90 k)

-- std's small letter
pub lower_is : (c : ℕ) → to_ascii_lowercase c ≡ small_letter c
unfolding small_letter
lower_is c = on (nat_lt c 65) refl (nat_lt c 91) refl
  where
    on : (a : Bool) → nat_lt c 65 ≡ a → (b : Bool) → nat_lt c 91 ≡ b → cond a c (cond b (c + 32) c) ≡ pick (capital c) (c + 32) c
    on true e b f = rw (capital_below c (ltb-true c 65 e))
    on false e true f = rw (capital_within c (ltb-false c 65 e) (omega (arith, ltb-true c 91 f)))
    on false e false f = rw (capital_above c (omega (arith, ltb-false c 91 f)))

pub length_small : (n : Bytes) → length (small_letters n) ≡ length n
unfolding small_letters
length_small [] = refl
length_small (c ∷ cs) = ap suc (length_small cs)

pub length_read_as : (s : Bool) (n : Bytes) → length (read_as s n) ≡ length n
length_read_as true n = length_small n
length_read_as false n = refl

small_at : (n : Bytes) (i : ℕ) → i < length n → get_or (small_letters n) i 0 ≡ small_letter (get_or n i 0)
unfolding small_letters
small_at [] i h = absurd (not-suc-le-zero h)
small_at (c ∷ cs) zero h = refl
small_at (c ∷ cs) (suc i) h = small_at cs i (le_of_suc-le-suc h)

pub letter_at : (s : Bool) (n : Bytes) (i : ℕ) → i < length n → get_or (read_as s n) i 0 ≡ pick s (small_letter (get_or n i 0)) (get_or n i 0)
letter_at true n i h = small_at n i h
letter_at false n i h = refl

-- ---- two names side by side

-- as `all` asks of each pair
pub letters_all : (x y : Bytes) → length x ≡ length y → list_all (λ p. eqb (small_letter p.0) p.1) (zip x y) ≡ same (small_letters x) y
unfolding same small_letters
letters_all [] [] h = refl
letters_all [] (d ∷ y) h = absurd (omega arith)
letters_all (c ∷ x) [] h = absurd (omega arith)
letters_all (c ∷ x) (d ∷ y) h = ap (λ (b : Bool). eqb (small_letter c) d && b) (letters_all x y (omega arith))
