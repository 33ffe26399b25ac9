-- Laws of strings in quotes and of names: bytes are quoted one by one, and a name goes on byte by byte.
-- Main statements: `quoted_more`, `quoted_le`; `name_by`; `quoted_escaped`, `quoted_hex`, `quoted_plain`. Assumes nothing.
use mathlib.Core.Path.{◌≡◌, refl, sym, ap, ◌∙◌}
use mathlib.Core.Bool.{Bool, true, false, ◌&&◌, ◌||◌}
use Prim.Native.Nat.{ℕ, ◌+◌, ◌/◌, ◌%◌, ◌≤◌, ◌<◌}
use native.Mathlib.Numerals.{add-one}
use native.Mathlib.Omega.{arith}
use mathlib.Core.List.{[], ◌∷◌, ◌++◌, append_assoc, append-nil}
use lib.Dec.{leb, ltb, eqb}
use lib.ListN.{length, get_or, take, drop, length-append, take-append-drop}
use lib.Seq.{take-suc}
use mathlib.Core.Logic.{◌⊎◌, inl, inr}
use borrow.Author.Tests.{ne_eqb}
use Rattle.std.proofs.lemmas.Bool.Decides.{nat_tests}
use Rattle.std.specs.Char.{is_ascii_control}
use Rattle.std.specs.Prelude.{Option, None, Some}
use Rattle.std.specs.Option.{MatchOption}
use Rattle.std.specs.List.{list_all, IsFirstAndRest}
use denote.Ref.{Bor}
use Rattle.field.specs.Bytes.{Bytes}
use Rattle.page.specs.Check.{name_start}
use Rattle.printing.specs.Card.{hex_digit, quoted_byte, quoted_bytes, goes_on, is_identifier}

-- ---- bytes, one by one

pub quoted_append : (a b : Bytes) → quoted_bytes (a ++ b) ≡ quoted_bytes a ++ quoted_bytes b
unfolding quoted_bytes
quoted_append [] b = refl
quoted_append (c ∷ a) b = rw (quoted_append a b) (sym (append_assoc (quoted_byte c) (quoted_bytes a) (quoted_bytes b)))

quoted_one : (c : ℕ) → quoted_bytes (c ∷ []) ≡ quoted_byte c
unfolding quoted_bytes
quoted_one c = append-nil (quoted_byte c)

-- ---- the loop of `put_quoted_bytes`: i bytes are written, and go on

pub quoted_more : (s : Bytes) (i : ℕ) → i < length s → quoted_bytes (take i s) ++ quoted_byte (get_or s i 0) ≡ quoted_bytes (take (i + 1) s)
quoted_more s i h = rw (add-one, take-suc s i 0) (sym (quoted_append (take i s) (get_or s i 0 ∷ []) ∙ ap {B = Bytes} (λ w. quoted_bytes (take i s) ++ w) (quoted_one (get_or s i 0))))

-- what is written so far is no longer than the whole
pub quoted_le : (s : Bytes) (i : ℕ) → length (quoted_bytes (take i s)) ≤ length (quoted_bytes s)
quoted_le s i =
    let whole = ap (λ (t : Bytes). length (quoted_bytes t)) (take-append-drop i s) in
    let parts = ap (λ (t : Bytes). length t) (quoted_append (take i s) (drop i s)) in
    omega (arith, length-append (quoted_bytes (take i s)) (quoted_bytes (drop i s)))

-- ---- a name: its first byte, and those behind it

goes_on_all : (s : Bytes) → list_all (λ c. name_start c || (leb 48 c && leb c 57)) s ≡ goes_on s
unfolding goes_on
goes_on_all [] = refl
goes_on_all (c ∷ s) = ap (λ (b : Bool). (name_start c || (leb 48 c && leb c 57)) && b) (goes_on_all s)

name_none : (s : Bytes) → length s ≡ 0 → false ≡ is_identifier s
unfolding is_identifier
name_none [] h = refl
name_none (c ∷ s) h = absurd (omega arith)

name_first : (s : Bytes) (c : ℕ) (r : Bytes) → s ≡ c ∷ r → (name_start c && list_all (λ c. name_start c || (leb 48 c && leb c 57)) r) ≡ is_identifier s
unfolding is_identifier
name_first s c r e = ap (λ (b : Bool). name_start c && b) (goes_on_all r) ∙ sym (ap is_identifier e)

pub name_by : (s : Bytes) {o : Option (Bor ℕ × Bor Bytes)} {r : Bool} → MatchOption o (length s ≡ 0) (λ p. IsFirstAndRest s p.0.now p.1.now) → (o ≡ None → r ≡ false) → ((p : Bor ℕ × Bor Bytes) → o ≡ Some p → r ≡ (name_start p.0.now && list_all (λ c. name_start c || (leb 48 c && leb c 57)) p.1.now)) → r ≡ is_identifier s
name_by s {o = None} m h k = h refl ∙ name_none s m
name_by s {o = Some p} m h k = k p refl ∙ name_first s p.0.now p.1.now m.0

-- ---- a byte in a string, by the tests that its writer makes

pub quoted_escaped : (c : ℕ) → (c ≡ 34) ⊎ (c ≡ 92) → 92 ∷ c ∷ [] ≡ quoted_byte c
unfolding quoted_byte
quoted_escaped c (inl e) = rw e refl
quoted_escaped c (inr e) = rw e refl

control_is : (c : ℕ) → (ltb c 32 || eqb c 127) ≡ is_ascii_control c
control_is c = grind (arith, nat_tests)

module _ (c : ℕ) (a : c ≡ 34 → ⊥) (b : c ≡ 92 → ⊥) (d : c ≡ 10 → ⊥) (e : c ≡ 13 → ⊥) where
  pub quoted_hex : is_ascii_control c ≡ true → 92 ∷ 120 ∷ hex_digit (c / 16) ∷ hex_digit (c % 16) ∷ [] ≡ quoted_byte c
  unfolding quoted_byte
  quoted_hex h = rw (ne_eqb c 34 a, ne_eqb c 92 b, ne_eqb c 10 d, ne_eqb c 13 e, control_is c, h) refl

  pub quoted_plain : is_ascii_control c ≡ false → c ∷ [] ≡ quoted_byte c
  unfolding quoted_byte
  quoted_plain h = rw (ne_eqb c 34 a, ne_eqb c 92 b, ne_eqb c 10 d, ne_eqb c 13 e, control_is c, h) refl
