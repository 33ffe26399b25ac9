-- Laws of a text that is answered by its first byte: of spaces and LFs behind an LF nothing stays, and a visible byte of ASCII in front stays.
-- Main statements: `indent_none`, `visible_stays`.
-- Assumes nothing.
use mathlib.Core.Path.{◌≡◌, refl, sym, ap, ◌∙◌}
use mathlib.Core.Bool.{Bool, true, false, ◌&&◌, ◌||◌, and-eq-true_iff, false≢true, or-false}
use Prim.Native.Nat.{ℕ, ◌<◌}
use native.Mathlib.Omega.{arith}
use mathlib.Core.List.{List, [], ◌∷◌}
use lib.Dec.{eqb}
use lib.ListN.{length}
use borrow.Author.Tests.{eqb-true, ne_eqb}
use Rattle.field.specs.Bytes.{Bytes, pick, null?}
use Rattle.text.specs.Lines.{starts_with_lf, onto_first, lines}
use Rattle.text.specs.Runs.{all, indent, is_space}
use Rattle.text.specs.Text.{trimmed, some_line, trimmed_lines, kept, joined, escape_if, jsx_text_to_str}
use Rattle.text.proofs.TrimLaws.{trim_spaces, trim_visible}
use Rattle.text.proofs.TextLaws.{escape_if_nil, null_kept, trimmed_nil}

-- each line is spaces alone
unfoldable Spaces : List Bytes → Type 0
Spaces [] = Unit {0}
Spaces (l ∷ ls) = (all is_space l ≡ true) × Spaces ls

onto_spaces : (c : ℕ) (ls : List Bytes) → is_space c ≡ true → Spaces ls → Spaces (onto_first c ls)
unfolding Spaces all
onto_spaces c [] e h = (rw e, tt)
onto_spaces c (l ∷ ls) e h = (rw e h.0, h.1)

space_of : (c : ℕ) → eqb c 10 ≡ false → indent c ≡ true → is_space c ≡ true
unfolding indent is_space
space_of c q e = sym (or-false (eqb c 32)) ∙ ap (λ (b : Bool). eqb c 32 || b) (sym q) ∙ e

no_cr : (c : ℕ) → is_space c ≡ true → eqb c 13 ≡ false
unfolding is_space
no_cr c e = ne_eqb c 13 (λ q. omega (arith, eqb-true c 32 e))

spaces_lines : (t : Bytes) → all indent t ≡ true → Spaces (lines t)
unfolding all lines Spaces
spaces_lines [] e = tt
spaces_lines (c ∷ cs) e =
    let p = (and-eq-true_iff (indent c) (all indent cs)).0 e in
    on (eqb c 10) refl p.0 (spaces_lines cs p.1)
  where
    on : (b : Bool) → eqb c 10 ≡ b → indent c ≡ true → Spaces (lines cs) → Spaces (pick b ([] ∷ lines cs) (pick (eqb c 13 && starts_with_lf cs) (lines cs) (onto_first c (lines cs))))
    on true q i h = (refl, h)
    on false q i h =
        let s = space_of c q i in
        rw (no_cr c s) (onto_spaces c (lines cs) s h)

trimmed_spaces : (back : Bool) (l : Bytes) → all is_space l ≡ true → trimmed true back l ≡ []
unfolding trimmed
trimmed_spaces back l e = rw (trim_spaces l e) (sym (trimmed_nil false back))

none_kept : (last : Bool) (ls : List Bytes) → Spaces ls → kept (trimmed_lines true last ls) ≡ []
unfolding trimmed_lines kept Spaces
none_kept last [] h = refl
none_kept last (l ∷ ls) h = rw (trimmed_spaces (some_line ls || last) l h.0) (none_kept last ls h.1)

-- the first line is empty, and of the others nothing stays
pub indent_none : (t : Bytes) (escape last : Bool) → starts_with_lf t ≡ true → all indent t ≡ true → jsx_text_to_str t escape last ≡ []
unfolding all jsx_text_to_str joined lines trimmed_lines kept
indent_none [] escape last h e = absurd (false≢true h)
indent_none (c ∷ cs) escape last h e =
    let ls = lines cs in
    let rest = none_kept last ls (spaces_lines cs ((and-eq-true_iff (indent c) (all indent cs)).0 e).1) in
    rw (h, ← trimmed_nil false (some_line ls || last), rest) (escape_if_nil escape)

-- ---- a visible byte in front

module _ (c : ℕ) (low : 32 < c) (high : c < 0x80) where
  first_line : (back : Bool) (l : Bytes) → 0 < length (trimmed false back (c ∷ l))
  unfolding trimmed
  first_line true l = trim_visible c low high l
  first_line false l = omega arith

  onto_stays : (last : Bool) (ls : List Bytes) → null? (joined (kept (trimmed_lines false last (onto_first c ls)))) ≡ false
  unfolding trimmed_lines
  onto_stays last [] = null_kept (trimmed false last (c ∷ [])) [] (first_line last [])
  onto_stays last (l ∷ ls) = null_kept (trimmed false (some_line ls || last) (c ∷ l)) (trimmed_lines true last ls) (first_line (some_line ls || last) l)

  pub visible_stays : (t : Bytes) (last : Bool) → null? (jsx_text_to_str (c ∷ t) false last) ≡ false
  unfolding jsx_text_to_str escape_if lines
  visible_stays t last = rw (ne_eqb c 10 (λ q. omega arith), ne_eqb c 13 (λ q. omega arith)) (onto_stays last (lines t))
