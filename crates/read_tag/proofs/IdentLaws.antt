-- A name of one identifier, found again from its end: the white space behind it is dropped. Main statement: `ident_name`. Assumes nothing.
use Prim.Native.Nat.{ℕ, ◌+◌, ◌-◌, ◌≤◌}
use mathlib.Core.Path.{◌≡◌, refl, sym, ◌∙◌, ap}
use mathlib.Core.Bool.{◌||◌, not}
use mathlib.Core.List.{[], ◌∷◌, ◌++◌, append_assoc}
use mathlib.Core.Logic.{◌⊎◌, inl, inr}
use native.Mathlib.Omega.{arith}
use lib.Dec.{T, eqb, not_T}
use lib.ListN.{length, take, drop, length-append, length-drop}
use lib.Seq.{take_at}
use Rattle.field.specs.Bytes.{Bytes}
use Rattle.field.specs.Row.{field_bytes}
use Rattle.grammar.specs.Signs.{letter, digit, name_byte, space}
use Rattle.grammar.specs.Known.{kept, trimmed_end}
use Rattle.grammar.specs.Syntax.{part, Name, tag_name_fits}
use Rattle.grammar.specs.Grammar.{Run, run_ends, run_on, Spaces, no_space, space_on, IsIdent, ident, no_parts, one_part, IsName, is_name}
use Rattle.grammar.proofs.Tests.{chose, passed, or_cases, at_eq, clash, letter_no_space}
use Rattle.read_tag.specs.Progress.{name_bytes}
use Rattle.read_tag.specs.Shapes.{name_tag}
use Rattle.read_tag.proofs.NameFieldLaws.{name_alone, one_part_bytes, name_one}

-- ---- white space behind bytes of a name

space_no_name : (c : ℕ) → T (space c) → T (not (name_byte c))
unfolding space name_byte letter digit
space_no_name c t = on₁ (or_cases (eqb c 9 || eqb c 10 || eqb c 13) (eqb c 32) t)
  where
    P : ℕ → Type 0
    P d = T (not (name_byte d))

    on₃ : T (eqb c 9) ⊎ T (eqb c 10) → P c
    on₃ (inl u) = at_eq P c 9 u tt
    on₃ (inr u) = at_eq P c 10 u tt

    on₂ : T (eqb c 9 || eqb c 10) ⊎ T (eqb c 13) → P c
    on₂ (inl u) = on₃ (or_cases (eqb c 9) (eqb c 10) u)
    on₂ (inr u) = at_eq P c 13 u tt

    on₁ : T (eqb c 9 || eqb c 10 || eqb c 13) ⊎ T (eqb c 32) → P c
    on₁ (inl u) = on₂ (or_cases (eqb c 9 || eqb c 10) (eqb c 13) u)
    on₁ (inr u) = at_eq P c 32 u tt

name_no_space : (c : ℕ) → T (name_byte c) → T (not (space c))
name_no_space c t = not_T (space c) (λ u. clash (name_byte c) t (space_no_name c u))

kept_other : (c : ℕ) (w : Bytes) → T (not (space c)) → kept c w ≡ c ∷ w
unfolding kept
kept_other c [] t = passed (space c) [] (c ∷ []) t
kept_other c (d ∷ w) t = refl

-- white space in front of r
record Blank (s r : Bytes) : Type 0 where
  blank : Bytes
  is : s ≡ blank ++ r
  drops : trimmed_end blank ≡ []

spaces_blank : {s r : Bytes} → Spaces s r → Blank s r
unfolding trimmed_end kept
spaces_blank no_space = record { blank = []; is = refl; drops = refl }
spaces_blank (space_on {c} t u) =
    let b = spaces_blank u in
    record { blank = c ∷ b.blank; is = ap (λ (w : Bytes). c ∷ w) b.is; drops = ap (kept c) b.drops ∙ chose (space c) [] (c ∷ []) t }

run_front : {s w r : Bytes} → Run name_byte s w r → s ≡ w ++ r
run_front (run_ends e) = refl
run_front (run_on {c} t q) = ap (λ (w : Bytes). c ∷ w) (run_front q)

run_kept : {s w r : Bytes} (v : Bytes) → Run name_byte s w r → trimmed_end v ≡ [] → trimmed_end (w ++ v) ≡ w
unfolding trimmed_end
run_kept v (run_ends e) h = h
run_kept v (run_on {c} {w = w} t q) h = ap (kept c) (run_kept v q h) ∙ kept_other c w (name_no_space c t)

ident_front : {s w r : Bytes} → IsIdent s w r → s ≡ w ++ r
ident_front (ident {c} t q) = ap (λ (w : Bytes). c ∷ w) (run_front q)

ident_kept : {s w r : Bytes} (v : Bytes) → IsIdent s w r → trimmed_end v ≡ [] → trimmed_end (w ++ v) ≡ w
unfolding trimmed_end
ident_kept v (ident {c} {w = w} t q) h = ap (kept c) (run_kept v q h) ∙ kept_other c w (letter_no_space c t)

-- ---- the identifier from i to e

-- what stands in front of e
front_is : (s x : Bytes) (i e : ℕ) → i ≤ e → e ≤ length s → drop i s ≡ x ++ drop e s → take (e - i) (drop i s) ≡ x
front_is s x i e l m q =
    let n : length x ≡ e - i = omega (arith, ap length q, length-append x (drop e s), length-drop i s, length-drop e s) in
    ap (take (e - i)) q ∙ take_at x (drop e s) (e - i) n

ident_word : (s w y : Bytes) (i e : ℕ) → i ≤ e → e ≤ length s → IsIdent (drop i s) w y → Spaces y (drop e s) → trimmed_end (take (e - i) (drop i s)) ≡ w
ident_word s w y i e l m u p =
    let b = spaces_blank p in
    let q : drop i s ≡ (w ++ b.blank) ++ drop e s = ident_front u ∙ ap (λ (z : Bytes). w ++ z) b.is ∙ sym (append_assoc w b.blank (drop e s)) in
    ap trimmed_end (front_is s (w ++ b.blank) i e l m q) ∙ ident_kept b.blank u b.drops

-- v is what stands there without the white space
pub ident_name : (s v : Bytes) (i e t : ℕ) (n : Name) → i ≤ e → e ≤ length s → IsName (drop i s) n (drop e s) → T (tag_name_fits n) → t ≡ name_tag n → t ≡ 0x40 → v ≡ trimmed_end (take (e - i) (drop i s)) → field_bytes 0x40 v ≡ name_bytes n
ident_name s v i e t n l m (is_name {w = w} {s₁ = y} {ps = []} u (no_parts p ends)) f g z h =
    ap (field_bytes 0x40) (h ∙ ident_word s w y i e l m u p) ∙ sym (one_part_bytes 0 w) ∙ name_one (part 0 w ∷ []) t f g z
ident_name s v i e t n l m (is_name {w = w} {ps = part d x ∷ ps} u (one_part a b c o k)) f g z h = absurd (name_alone (part 0 w) d x ps t g z)
