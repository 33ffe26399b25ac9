-- `text::jsx_text::is_blank` meets its contract, by the first byte where that decides. Assumes nothing.
use native.Mathlib.Omega.{arith}
use mathlib.Core.Path.{◌≡◌, refl, sym, ap, ◌∙◌}
use mathlib.Core.Bool.{Bool, true, false}
use mathlib.Core.List.{[], ◌∷◌}
use Prim.Native.Nat.{◌<◌, ◌≤◌}
use lib.ListN.{length, get_or}
use borrow.Author.Tests.{eq-eqb}
use Rattle.field.specs.Bytes.{Bytes, null?}
use Rattle.text.specs.Lines.{lines}
use Rattle.text.specs.Runs.{all, indent}
use Rattle.text.specs.Text.{trimmed_lines, kept, joined, escape_if, jsx_text_to_str}
use Rattle.text.proofs.IndentLaws.{indent_none, visible_stays}
use Rattle.text.proofs.jsx_text.is_blank.Goals as goal

empty_blank : (s : Bytes) (last : Bool) → length s ≡ 0 → true ≡ null? (jsx_text_to_str s false last)
unfolding jsx_text_to_str escape_if lines trimmed_lines kept joined
empty_blank [] last h = refl
empty_blank (c ∷ s) last h = absurd (omega arith)

visible_not : (s : Bytes) (last : Bool) → 1 ≤ length s → 32 < get_or s 0 0 → get_or s 0 0 < 0x80 → false ≡ null? (jsx_text_to_str s false last)
visible_not [] last h e f = absurd (omega arith)
visible_not (c ∷ s) last h e f = sym (visible_stays c e f s last)

indent_blank : (s : Bytes) (last : Bool) → (length s ≡ 0 → ⊥) → get_or s 0 0 ≡ 10 → all indent s ≡ true → true ≡ null? (jsx_text_to_str s false last)
indent_blank [] last h q e = absurd (h refl)
indent_blank (c ∷ s) last h q e = ap null? (sym (indent_none (c ∷ s) false last (eq-eqb c 10 q) e))

pub returns-in-empty : goal.returns-in-empty
returns-in-empty c = empty_blank c.args.s.now c.args.last (omega arith)

pub returns-in-33-to-127 : goal.returns-in-33-to-127
returns-in-33-to-127 c = visible_not c.args.s.now c.args.last c.in-33-to-127.len_at_least (omega arith) (omega arith)

pub returns-in-10 : goal.returns-in-10
returns-in-10 c = indent_blank c.args.s.now c.args.last (λ e. omega (arith, e, c.in-10.len_at_least)) (omega arith) (sym c.is_indent.ensures ∙ c.if-is_indent.true)
