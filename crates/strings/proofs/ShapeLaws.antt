-- What becomes of a container among children, and of an attribute in an opening tag, as parts of a template. Main statements: `joined_length`,
-- `parts_contained`; `by_fate`. Assumes nothing.
use mathlib.Core.Path.{◌≡◌, refl, sym, ap, ◌∙◌, subst}
use Prim.Native.Nat.{◌+◌, ◌*◌, ◌≤◌}
use native.Mathlib.Omega.{arith}
use mathlib.Core.List.{List, [], ◌∷◌}
use mathlib.Core.Option.{Option, none, some}
use lib.ListN.{length}
use Rattle.field.specs.Bytes.{Bytes}
use Rattle.field.specs.Row.{read}
use Rattle.field.specs.Front.{body_of}
use Rattle.text.specs.Escape.{escape_html}
use Rattle.text.proofs.EscapeLaws.{length_escape_html}
use Rattle.page.proofs.NumberLaws.{render_length, render_escaped}
use Rattle.page.specs.Page.{Options}
use Rattle.page.specs.Tree.{Contained, nothing_contained, contained, contained_in, attr_name_in, value_in}
use Rattle.spec.specs.Pass as M
use Rattle.spec.specs.Pass.{Part, chars, gap, pure}
use Rattle.spec.specs.Merge.{joined_text}
use Rattle.spec.specs.Attributes.{attribute, attr_parts}
use Rattle.spec.specs.Children.{maybe_wrap}
use Rattle.spec.specs.Transform.{shape_of, value, expr}
use Rattle.decisions.specs.Index.{names_of}
use Rattle.decisions.specs.At.{opts, shape_of_contained, number_at}
use Rattle.decisions.specs.Becomes.{Fate, in_tag, tag_parts, Among, joins, leaves, shape_as_child, as_child}
use Rattle.decisions.specs.declared.expr.Shape.{Shape}
use Rattle.decisions.specs.declared.expr.Shape.TheVariants as Form
use Rattle.decisions.proofs.BecomesLaws.{parts_are, among_by, container_among, joins_text, leaves_none, joining}
use Rattle.strings.specs.Carve.{Carved, carve, child_parts, contained_parts, put_child, Low}
use Rattle.strings.proofs.CarveLaws.{put_on_nil}
use Rattle.strings.proofs.FrontSizes.{body_le}

-- ---- a container among children

-- what joins is not much longer than the container
joined_most : (c : Bytes) (r : Shape) → length (escape_html (joining (among_by c r))) ≤ 6 * length (body_of c) + 36
unfolding escape_html
joined_most c Form.Empty = omega arith
joined_most c Form.String = omega (arith, length_escape_html (body_of c))
joined_most c Form.Number = omega (arith, render_length (number_at c), ap length (render_escaped (number_at c)))
joined_most c (Form.Boolean v) = omega arith
joined_most c Form.Null = omega arith
joined_most c Form.Literal = omega arith
joined_most c Form.Minus = omega arith
joined_most c Form.Other = omega arith

pub joined_length : (c : Bytes) {t : Bytes} → joins t ≡ as_child (contained_in (read c)) → length (escape_html t) ≤ 6 * length c + 36
joined_length c q =
    omega (arith, joined_most c (shape_of_contained (contained_in (read c))), ap (λ (a : Among). length (escape_html (joining a))) (q ∙ container_among c), body_le c)

-- what joins a run, or a gap
pub parts_contained : (o : Options) (x : Contained) (w : Carved) → carve (contained_parts o x) w ≡ put_child (as_child x) w
unfolding contained_parts child_parts as_child escape_html carve
parts_contained o nothing_contained w = sym (put_on_nil w)
parts_contained o (contained e) w = on (shape_as_child (shape_of e)) refl
  where
    on : (a : Among) → a ≡ shape_as_child (shape_of e) →
        carve (elim (joined_text (shape_of e)) [ some b ↦ chars b ∷ [] | none ↦ gap (pure (maybe_wrap (shape_of e) (expr o e M.none))) ∷ [] ]) w ≡ put_child (shape_as_child (shape_of e)) w
    on (joins t) q =
        ap (λ (j : Option Bytes). carve (elim j [ some b ↦ chars b ∷ [] | none ↦ gap (pure (maybe_wrap (shape_of e) (expr o e M.none))) ∷ [] ]) w) (joins_text (shape_of e) q)
        ∙ ap (λ (a : Among). put_child a w) q
    on (leaves z) q =
        ap (λ (j : Option Bytes). carve (elim j [ some b ↦ chars b ∷ [] | none ↦ gap (pure (maybe_wrap (shape_of e) (expr o e M.none))) ∷ [] ]) w) (leaves_none (shape_of e) q)
        ∙ ap (λ (a : Among). put_child a w) q

-- ---- an attribute in an opening tag

-- its parts are those of what becomes of it
module _ (skip props a : Bytes) {f : Fate} (q : f ≡ in_tag (names_of props) (attr_name_in (read a)) (value_in (read a))) (w : Carved) where
  abbrev o : Options
  o = opts skip props

  pub by_fate : carve (tag_parts o (attr_name_in (read a)) f) w ≡ carve (attr_parts o (attribute (attr_name_in (read a)) (value o (value_in (read a))))) w
  by_fate = sym (ap (λ (ps : List Part). carve ps w) (parts_are o (attr_name_in (read a)) (value_in (read a)) ∙ ap (tag_parts o (attr_name_in (read a))) (sym q)))

  pub fate_room : Low (carve (attr_parts o (attribute (attr_name_in (read a)) (value o (value_in (read a))))) w) → Low (carve (tag_parts o (attr_name_in (read a)) f) w)
  fate_room l = subst Low (sym by_fate) l
