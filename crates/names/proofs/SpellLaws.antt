-- Laws of a name copied letter by letter, and of a name that is copied as it stands.
-- Main statements: `spelled_next`, `spelled_bound`, `spelled_least`, `spelled_most`, `plain_on`, `plain_off`.
-- Assumes nothing.
use mathlib.Core.Path.{◌≡◌, refl, sym, ap, ◌∙◌}
use mathlib.Core.Bool.{Bool, true, false, ◌&&◌, ◌||◌, or-true}
use mathlib.Core.Logic.{◌⊎◌, ⊎_elim}
use mathlib.Core.List.{[], ◌∷◌, ◌++◌, append-nil, append_assoc}
use Prim.Native.Nat.{ℕ, suc, ◌+◌, ◌≤◌, ◌<◌}
use native.Mathlib.Numerals.{add-one}
use native.Mathlib.Omega.{arith}
use lib.Dec.{leb, eqb}
use lib.ListN.{length, get_or, take, drop, length-append, take-append-drop}
use lib.Seq.{take-suc, drop-cons, drop-length}
use borrow.Author.Tests.{eq-eqb, ne_eqb, le-leb, lt-leb}
use Rattle.std.specs.Prelude.{Option, Some, None}
use Rattle.field.specs.Bytes.{Bytes, pick}
use Rattle.names.specs.Names.{capital, small_letter}
use Rattle.names.specs.Table.{signed, spelled_letter, spelled, plain_name}

-- ---- one letter

pub letter_none : (c : ℕ) → small_letter c ∷ [] ≡ spelled_letter None c
unfolding spelled_letter small_letter
letter_none c = on (capital c)
  where
    on : (b : Bool) → pick b (c + 32) c ∷ [] ≡ pick b ((c + 32) ∷ []) (c ∷ [])
    on true = refl
    on false = refl

pub letter_other : (s : Option ℕ) (c : ℕ) → capital c ≡ false → small_letter c ∷ [] ≡ spelled_letter s c
unfolding spelled_letter small_letter
letter_other s c h = rw h

pub letter_signed : (s c : ℕ) → capital c ≡ true → s ∷ small_letter c ∷ [] ≡ spelled_letter (Some s) c
unfolding spelled_letter small_letter
letter_signed s c h = rw h

-- ---- a name

pub spelled_append : (s : Option ℕ) (a b : Bytes) → spelled s (a ++ b) ≡ spelled s a ++ spelled s b
unfolding spelled
spelled_append s [] b = refl
spelled_append s (c ∷ a) b = ap (λ (l : Bytes). spelled_letter s c ++ l) (spelled_append s a b) ∙ sym (append_assoc (spelled_letter s c) (spelled s a) (spelled s b))

-- one letter more
pub spelled_next : (s : Option ℕ) (n : Bytes) (i : ℕ) → i < length n → spelled s (take i n) ++ spelled_letter s (get_or n i 0) ≡ spelled s (take (i + 1) n)
unfolding spelled
spelled_next s n i h =
    sym
    (rw (add-one, take-suc n i 0 h, spelled_append s (take i n) (get_or n i 0 ∷ []))
    (ap (λ (l : Bytes). spelled s (take i n) ++ l) (append-nil (spelled_letter s (get_or n i 0)))))

-- the letters so far are no longer than all
pub spelled_bound : (s : Option ℕ) (n : Bytes) (i : ℕ) → length (spelled s (take i n)) ≤ length (spelled s n)
spelled_bound s n i =
    let e = ap (λ (l : Bytes). length (spelled s l)) (take-append-drop i n) in
    let f = ap length (spelled_append s (take i n) (drop i n)) in
    let g = length-append (spelled s (take i n)) (spelled s (drop i n)) in
    omega (arith, e, f, g)

-- a letter becomes one byte or two
letter_bounds : (s : Option ℕ) (c : ℕ) → (1 ≤ length (spelled_letter s c)) × (length (spelled_letter s c) ≤ 2)
unfolding spelled_letter
letter_bounds s c = on (capital c) s
  where
    on : (b : Bool) (s : Option ℕ) → (1 ≤ length (pick b (signed s (c + 32)) (c ∷ []))) × (length (pick b (signed s (c + 32)) (c ∷ [])) ≤ 2)
    on true None = (omega arith, omega arith)
    on true (Some x) = (omega arith, omega arith)
    on false s = (omega arith, omega arith)

pub spelled_least : (s : Option ℕ) (n : Bytes) → length n ≤ length (spelled s n)
unfolding spelled
spelled_least s [] = omega arith
spelled_least s (c ∷ cs) = omega (arith, (letter_bounds s c).0, spelled_least s cs, length-append (spelled_letter s c) (spelled s cs))

pub spelled_most : (s : Option ℕ) (n : Bytes) → length (spelled s n) ≤ length n + length n
unfolding spelled
spelled_most s [] = omega arith
spelled_most s (c ∷ cs) = omega (arith, (letter_bounds s c).1, spelled_most s cs, length-append (spelled_letter s c) (spelled s cs))

-- ---- a plain name

plain_step : (n : Bytes) (i : ℕ) → i < length n → plain_name (drop i n) ≡ ((eqb (get_or n i 0) 45 || leb 91 (get_or n i 0)) && plain_name (drop (suc i) n))
unfolding plain_name
plain_step n i h = rw (drop-cons n i 0 h)

-- a byte that may stand in a plain name
pub plain_on : (n : Bytes) (i : ℕ) → i < length n → ((get_or n i 0 ≡ 45) ⊎ (90 < get_or n i 0)) → plain_name (drop i n) ≡ plain_name n → plain_name (drop (i + 1) n) ≡ plain_name n
plain_on n i h o p =
    let c = get_or n i 0 in
    let q : (eqb c 45 || leb 91 c) ≡ true = ⊎_elim (λ u. rw (eq-eqb c 45 u)) (λ u. rw (le-leb 91 c u) (or-true (eqb c 45))) o in
    rw add-one (rw (plain_step n i h, q) at p)

pub plain_off : (n : Bytes) (i : ℕ) → i < length n → get_or n i 0 ≤ 90 → (get_or n i 0 ≡ 45 → ⊥) → plain_name (drop i n) ≡ plain_name n → plain_name n ≡ false
plain_off n i h u v p =
    let c = get_or n i 0 in
    let q : (eqb c 45 || leb 91 c) ≡ false = rw (ne_eqb c 45 v, lt-leb 91 c (omega arith)) in
    sym (rw (plain_step n i h, q) at p)

pub plain_end : (n : Bytes) → plain_name (drop (length n) n) ≡ true
unfolding plain_name
plain_end n = rw (drop-length n)
