-- What the code of src/expr.rt learns: the shape of an expression by its tag.
-- Main statements: `boolean_true`, `boolean_false`, `number_front`, `shape_70` and the like. Assumes nothing.
use Rattle.std.specs.Prelude.{Option, Some, None}
use Rattle.std.specs.Option.{unwrap_or}
use mathlib.Core.Path.{◌≡◌, refl, sym, ap, ◌∙◌, subst}
use mathlib.Core.Bool.{Bool, true, false}
use mathlib.Core.Logic.{◌⊎◌, ⊎_elim}
use Prim.Native.Nat.{ℕ, ◌≤◌, ◌<◌}
use native.Mathlib.Omega.{arith}
use mathlib.Core.List.{[], ◌∷◌}
use lib.Dec.{eqb}
use borrow.Author.Tests.{eq-eqb, ne_eqb}
use lib.ListN.{length, get_or}
use Rattle.field.specs.Bytes.{Bytes}
use Rattle.field.specs.Row.{read, Ended, Inside, only_bytes, fields_after, counted, inside, opened, Next, nothing, no_field, next, next_of, built}
use Rattle.field.specs.Front.{tag_of_front, body_of, body_by}
use Rattle.field.specs.Fields.{FieldAt}
use Rattle.field.specs.declared.reader.Field.{Field}
use Rattle.field.proofs.RowLaws.{read_step}
use Rattle.page.specs.Number.{number_in}
use Rattle.page.specs.Page.{Expr}
use Rattle.page.specs.Tree.{boolean_in, contained, contained_in, expr_in}
use Rattle.decisions.specs.At.{number_at, shape_by, shape_of_contained}
use Rattle.decisions.specs.declared.expr.Shape.TheVariants as Form
use Rattle.decisions.proofs.Series.{contained_none, contained_field, expr_70, expr_71, expr_72, expr_74, expr_75, expr_76, expr_79, expr_7a, expr_7b, expr_30, expr_31, expr_other}

-- ---- booleans

boolean_first : (s : Bytes) → 0 < length s → boolean_in s ≡ eqb (get_or s 0 0) 1
unfolding boolean_in
boolean_first [] h = absurd (omega arith)
boolean_first (c ∷ s) h = refl

pub boolean_true : (s : Bytes) → 0 < length s → get_or s 0 0 ≡ 1 → true ≡ boolean_in s
boolean_true s h e = sym (boolean_first s h ∙ eq-eqb (get_or s 0 0) 1 e)

pub boolean_false : (s : Bytes) → 0 < length s → (get_or s 0 0 ≡ 1 → ⊥) → false ≡ boolean_in s
boolean_false s h e = sym (boolean_first s h ∙ ne_eqb (get_or s 0 0) 1 e)

pub boolean_none : (s : Bytes) → length s ≤ 0 → false ≡ boolean_in s
unfolding boolean_in
boolean_none [] h = refl
boolean_none (c ∷ s) h = absurd (omega arith)

-- ---- numbers

body_none : (s : Bytes) → Ended (read s) → body_of s ≡ []
unfolding body_of built opened
body_none s i = on (next_of s) (subst Ended (read_step s) i)
  where
    on : (n : Next) → Ended (built read s n) → body_by n ≡ []
    on nothing e = refl
    on no_field e = refl
    on (next t w r) e = in_field (inside t) e
      where
        in_field : (c : Inside) → Ended (opened c read t w r) → w ≡ []
        in_field only_bytes e = absurd e
        in_field (fields_after n) e = absurd e
        in_field (counted n) e = absurd e

-- where no field stands, g is read
pub number_front : (s : Bytes) (r : Option Field) → FieldAt s r → {f : Field} (g : Field) → number_in g.tag g.body.now ≡ number_in 256 [] → f ≡ unwrap_or r g → number_in f.tag f.body.now ≡ number_at s
number_front s None e g n h = rw (h, ← e.no_tag, body_none s e.ended) n
number_front s (Some f) e g n h = rw (h, e.tag_is, e.body_is)

-- ---- shapes

module _ (s : Bytes) (t : ℕ) (e : t ≡ tag_of_front s) where
  shaped : (t ≡ 256 → ⊥) → {x : Expr} → expr_in (read s) ≡ x → shape_by x ≡ shape_of_contained (contained_in (read s))
  unfolding shape_of_contained
  shaped h {x} q = sym (ap shape_of_contained (contained_field s t e h ∙ ap contained q))

  pub shape_70 : t ≡ 0x70 → Form.String ≡ shape_of_contained (contained_in (read s))
  unfolding shape_by
  shape_70 k = shaped (λ z. omega arith) (expr_70 s t e k)

  pub shape_number : (t ≡ 0x71) ⊎ (t ≡ 0x7a) → Form.Number ≡ shape_of_contained (contained_in (read s))
  unfolding shape_by
  shape_number k = ⊎_elim (λ z. shaped (λ y. omega arith) (expr_71 s t e z)) (λ z. shaped (λ y. omega arith) (expr_7a s t e z)) k

  pub shape_72 : t ≡ 0x72 → {b : Bytes} → b ≡ body_of s → {v : Bool} → v ≡ boolean_in b → Form.Boolean v ≡ shape_of_contained (contained_in (read s))
  unfolding shape_by
  shape_72 k {b} q {v} h = ap Form.Boolean (h ∙ ap boolean_in q) ∙ shaped (λ z. omega arith) (expr_72 s t e k)

  pub shape_74 : t ≡ 0x74 → Form.Literal ≡ shape_of_contained (contained_in (read s))
  unfolding shape_by
  shape_74 k = shaped (λ z. omega arith) (expr_74 s t e k)

  pub shape_minus : (t ≡ 0x75) ⊎ (t ≡ 0x7b) → Form.Minus ≡ shape_of_contained (contained_in (read s))
  unfolding shape_by
  shape_minus k = ⊎_elim (λ z. shaped (λ y. omega arith) (expr_75 s t e z)) (λ z. shaped (λ y. omega arith) (expr_7b s t e z)) k

  pub shape_76 : t ≡ 0x76 → Form.Other ≡ shape_of_contained (contained_in (read s))
  unfolding shape_by
  shape_76 k = shaped (λ z. omega arith) (expr_76 s t e k)

  pub shape_79 : t ≡ 0x79 → Form.Other ≡ shape_of_contained (contained_in (read s))
  unfolding shape_by
  shape_79 k = shaped (λ z. omega arith) (expr_79 s t e k)

  pub shape_30 : t ≡ 0x30 → Form.Other ≡ shape_of_contained (contained_in (read s))
  unfolding shape_by
  shape_30 k = shaped (λ z. omega arith) (expr_30 s t e k)

  pub shape_31 : t ≡ 0x31 → Form.Other ≡ shape_of_contained (contained_in (read s))
  unfolding shape_by
  shape_31 k = shaped (λ z. omega arith) (expr_31 s t e k)

  pub shape_null : (t ≡ 256 → ⊥) → (t ≡ 0x70 → ⊥) → ((t ≡ 0x71) ⊎ (t ≡ 0x7a) → ⊥) → (t ≡ 0x72 → ⊥) → (t ≡ 0x74 → ⊥) → ((t ≡ 0x75) ⊎ (t ≡ 0x7b) → ⊥) → (t ≡ 0x76 → ⊥) → (t ≡ 0x79 → ⊥) → (t ≡ 0x30 → ⊥) → (t ≡ 0x31 → ⊥) →
      Form.Null ≡ shape_of_contained (contained_in (read s))
  unfolding shape_by
  shape_null h a b c d f g i j k = shaped h (expr_other s t e h a b c d f g i j k)

pub shape_none : (s : Bytes) → Ended (read s) → Form.Empty ≡ shape_of_contained (contained_in (read s))
unfolding shape_of_contained
shape_none s i = sym (ap shape_of_contained (contained_none (read s) i))
