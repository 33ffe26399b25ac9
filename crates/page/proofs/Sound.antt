-- What the checks take is the row of what it is read as, and that is within the limits: nothing that is accepted is read otherwise
-- than it stands. The rows are those that bytes read as: a text has no fields, and fronts are bytes.
-- Main statements: `page_sound`; `sound`, the same for each series within a page. (Options: `Options`.)
-- Assumes nothing.
use mathlib.Core.Path.{◌≡◌, refl, sym, ap, ap₂, ◌∙◌, subst}
use mathlib.Core.Bool.{Bool, true, false, ◌&&◌, ◌||◌}
use Prim.Native.Nat.{ℕ, zero, suc, ◌≤◌}
use native.Mathlib.Omega.{arith}
use mathlib.Core.List.{List, [], ◌∷◌}
use lib.Dec.{T, leb, eqb, leb→le, le→leb, eqb→eq}
use lib.ListN.{length}
use borrow.Author.Tests.{eqb-true, eqb-false}
use Rattle.field.specs.Bytes.{Bytes, AllBytes}
use Rattle.field.specs.Row.{Row, end, loose, field, only_bytes, fields_after, inside}
use Rattle.field.proofs.RowLaws.{FrontFits, Sane}
use Rattle.utf8.specs.Utf8.{utf8}
use Rattle.page.specs.Number.{number_tag, minus_tag, number_in}
use Rattle.page.specs.Page.{Tag, fragment, Attributes, no_attributes, Children, Expr, Items, item, Page}
use Rattle.page.specs.Tree.{choose, texts_in, first_in, second_in, name_by, attr_name_by, boolean_in, expr_by, Contained, nothing_contained, contained, contained_value, contained_child, value_by, child_by, element_in, fragment_in, attributes_in, attr_name_in, value_in, value_behind, children_in, contained_in, expr_in, items_in, pieces_in, module_item_by, module_items_in, page_in}
use Rattle.refusal.specs.Refusal.{Verdict, Fine, after}
use Rattle.page.specs.Check.{check_end, check_text, check_empty, check_boolean, is_name, no_hyphen, check_name, check_members, at_least, check_ident, check_name_by, is_name_tag, is_tag, is_expr, is_child, is_attribute, check_expr_by, check_child_by, check_element, check_attributes, check_attribute, check_value, check_children, check_container, check_expr, check_items, check_pieces, check_module_items, check_nothing_after, check_page}
use Rattle.page.specs.Encode.{boolean_byte, texts_row, name_row, attr_name_row, tag_row, attributes_row, value_row, children_row, expr_row, items_row, pieces_row, module_items_row, page_row}
use Rattle.page.specs.Limits.{Deep, NameOk, Utf8Ok, MembersOk, ElementNameOk, AttrNameOk, TagOk, AttributesOk, ValueOk, ChildrenOk, ExprOk, ItemsOk, PiecesOk, ModuleItemsOk}
use Rattle.refusal.specs.declared.Refusal.TheVariants as R
use Rattle.refusal.proofs.Verdicts.{refused, after_fine, unless_fine}
use Rattle.page.proofs.Headers.{header_fine}
use Rattle.page.proofs.NumberLaws.{whole_sound, scaled_sound}
use Rattle.page.proofs.Bodies.{chosen, leaf_row, node_row, tag_is, ended, text_ok, empty_is, boolean_sound, member_sound}
use Rattle.page.proofs.Tags.{ExprTag, string_tag, whole_tag, scaled_tag, boolean_tag, null_tag, other_literal_tag, minus_whole_tag, minus_scaled_tag, array_tag, other_expr_tag, element_expr_tag, fragment_expr_tag, ChildTag, text_tag, container_tag, element_child_tag, fragment_child_tag, spread_child_tag, AttributeTag, named_attribute_tag, spread_attribute_tag, child_behind_tag, ValueTag, string_value_tag, container_value_tag, element_value_tag, fragment_value_tag, NameTag, identifier_tag, member_tag, namespaced_tag, AttrNameTag, ident_attr_tag, namespaced_attr_tag, ItemTag, expr_item_tag, spread_item_tag, hole_item_tag, PieceTag, source_tag, element_piece_tag, fragment_piece_tag, ModuleItemTag, export_tag, declaration_tag, statement_tag, empty_item_tag, expr_tag, child_tag, attribute_tag, value_tag, name_tag, attr_name_tag, item_tag, piece_tag, module_item_tag}

-- ---- names

-- a 40, and what follows it
record Ident (d : ℕ) (x : Row) (v : Row → Verdict) : Type 0 where
  name : Bytes
  rest : Row
  row_is : field 0x40 name end rest ≡ x
  deep : Deep d
  name_ok : NameOk name
  rest_sane : Sane rest
  rest_fine : v rest ≡ Fine

ident_sound : (x : Row) (d : ℕ) (v : Row → Verdict) → Sane x → check_ident d x v ≡ Fine → Ident d x v
unfolding check_ident check_name Sane inside
ident_sound end d v s e = refused R.Misplaced e
ident_sound (loose b) d v s e = refused R.Truncated e
ident_sound (field t f i r) d v s e =
    let a = after_fine _ _ e in
    let h = header_fine (eqb t 0x40) d a.0 in
    let b = after_fine _ _ a.1 in
    record {
      name = f;
      rest = r;
      row_is = tag_is t 0x40 f i r (field 0x40 f end r) h.0 (leaf_row 0x40 f i r) s.0;
      deep = h.1;
      name_ok = unless_fine (is_name f) R.BadName b.0;
      rest_sane = s.3;
      rest_fine = b.1;
    }

-- the two 40s of a 42
pair_sound : (x : Row) (d : ℕ) → Sane x → check_ident d x (λ r. check_ident d r check_end) ≡ Fine →
    (texts_row 0x40 (first_in (texts_in 0x40 x) ∷ second_in (texts_in 0x40 x) ∷ []) ≡ x) × Deep d × NameOk (first_in (texts_in 0x40 x)) × NameOk (second_in (texts_in 0x40 x))
unfolding texts_row texts_in first_in second_in choose
pair_sound x d s e =
    let p = ident_sound x d (λ r. check_ident d r check_end) s e in
    let q = ident_sound p.rest d check_end p.rest_sane p.rest_fine in
    let is : field 0x40 p.name end (field 0x40 q.name end end) ≡ x = ap (λ (r : Row). field 0x40 p.name end r) (ap (λ (r : Row). field 0x40 q.name end r) (ended q.rest q.rest_fine) ∙ q.row_is) ∙ p.row_is in
    subst (λ (x : Row). (texts_row 0x40 (first_in (texts_in 0x40 x) ∷ second_in (texts_in 0x40 x) ∷ []) ≡ x) × Deep d × NameOk (first_in (texts_in 0x40 x)) × NameOk (second_in (texts_in 0x40 x))) is
    (refl, p.deep, p.name_ok, q.name_ok)

name_sound : (t d : ℕ) (f : Bytes) (i : Row) → NameTag t → FrontFits (inside t) f i → Sane i → Deep d → check_name_by t (suc d) f i ≡ Fine →
    ((r : Row) → name_row (name_by t f i) r ≡ field t f i r) × ElementNameOk d (name_by t f i)
unfolding check_name_by check_name name_by choose name_row ElementNameOk inside
name_sound t d f i identifier_tag h s g e = (λ r. leaf_row 0x40 f i r h, (g, unless_fine (is_name f) R.BadName e))
name_sound t d f i member_tag h s g e =
    let m = member_sound (suc d) f i s e in
    (λ r. ap (λ (x : Row). field 0x41 [] x r) m.0 ∙ node_row 0x41 f i r h, (g, le→leb 2 (length (texts_in 0x40 i)) m.1, le→leb (length (texts_in 0x40 i)) 8 m.2, m.3))
name_sound t d f i namespaced_tag h s g e =
    let p = pair_sound i (suc d) s e in
    (λ r. ap (λ (x : Row). field 0x42 [] x r) p.0 ∙ node_row 0x42 f i r h, (g, p.1, p.2, p.3))

attr_name_sound : (t d : ℕ) (f : Bytes) (i : Row) → AttrNameTag t → FrontFits (inside t) f i → Sane i → Deep d → check_name_by t (suc d) f i ≡ Fine →
    ((r : Row) → attr_name_row (attr_name_by t f i) r ≡ field t f i r) × AttrNameOk d (attr_name_by t f i)
unfolding check_name_by check_name attr_name_by choose attr_name_row AttrNameOk inside
attr_name_sound t d f i ident_attr_tag h s g e = (λ r. leaf_row 0x40 f i r h, (g, unless_fine (is_name f) R.BadName e))
attr_name_sound t d f i namespaced_attr_tag h s g e =
    let p = pair_sound i (suc d) s e in
    (λ r. ap (λ (x : Row). field 0x42 [] x r) p.0 ∙ node_row 0x42 f i r h, (g, p.1, p.2, p.3))

-- ---- what a row is read as, in each of its places

unfoldable pub contained_row : Contained → Row
contained_row nothing_contained = end
contained_row (contained e) = expr_row e end

unfoldable pub ContainedOk : Contained → ℕ → Type 0
ContainedOk nothing_contained d = Unit {0}
ContainedOk (contained e) d = ExprOk e d

-- the fields of a tag at depth d, of the kind that u says
abbrev TagIs : ℕ → Tag → Row → ℕ → Type 0
TagIs u t x d = ((r : Row) → tag_row t r ≡ field u [] x r) × TagOk t d

-- each check at every depth; `d` is the depth of the fields, and of a tag that of its own header
pub record Sound (x : Row) : Type 0 where
  pub element_is : (d : ℕ) → Deep d → check_element (suc d) x ≡ Fine → TagIs 0x30 (element_in x) x d
  pub fragment_is : (d : ℕ) → Deep d → check_children (suc d) x ≡ Fine → TagIs 0x31 (fragment_in x) x d
  pub attributes_are : (d : ℕ) → check_attributes d x ≡ Fine → (attributes_row (attributes_in x) (children_row (children_in x)) ≡ x) × AttributesOk (attributes_in x) d × ChildrenOk (children_in x) d
  pub attribute_is : (d : ℕ) → check_attribute d x ≡ Fine → (attr_name_row (attr_name_in x) (value_row (value_in x)) ≡ x) × AttrNameOk d (attr_name_in x) × ValueOk (value_in x) d
  pub value_is : (d : ℕ) → check_value d x ≡ Fine → (value_row (value_behind x) ≡ x) × ValueOk (value_behind x) d
  pub children_are : (d : ℕ) → check_children d x ≡ Fine → (children_row (children_in x) ≡ x) × ChildrenOk (children_in x) d
  pub contained_is : (d : ℕ) → check_container d x ≡ Fine → (contained_row (contained_in x) ≡ x) × ContainedOk (contained_in x) d
  pub expr_is : (d : ℕ) → check_expr d x ≡ Fine → (expr_row (expr_in x) end ≡ x) × ExprOk (expr_in x) d
  pub items_are : (d : ℕ) → check_items d x ≡ Fine → (items_row (items_in x) ≡ x) × ItemsOk (items_in x) d
  pub pieces_are : (d : ℕ) → check_pieces d x ≡ Fine → (pieces_row (pieces_in x) ≡ x) × PiecesOk (pieces_in x) d

-- ---- a field by its tag, where what it holds is known

abbrev pub expr_of : ℕ → Bytes → Row → Expr
expr_of t f i = expr_by t f (λ _. items_in i) (λ _. pieces_in i) (λ _. element_in i) (λ _. fragment_in i)

abbrev pub check_expr_of : ℕ → ℕ → Bytes → Row → Verdict
check_expr_of t d f i = check_expr_by t f (λ _. check_items d i) (λ _. check_pieces d i) (λ _. check_element d i) (λ _. check_children d i)

expr_sound : (t d : ℕ) (f : Bytes) (i : Row) → ExprTag t → FrontFits (inside t) f i → AllBytes f → Sound i → Deep d → check_expr_of t (suc d) f i ≡ Fine →
    ((r : Row) → expr_row (expr_of t f i) r ≡ field t f i r) × ExprOk (expr_of t f i) d
unfolding check_expr_by expr_by choose expr_row ExprOk inside number_tag minus_tag number_in
expr_sound t d f i string_tag h a s g e = (λ r. leaf_row 0x70 f i r h, (g, text_ok f e))
expr_sound t d f i whole_tag h a s g e = let n = whole_sound 0x71 f a e refl in (λ r. ap (λ (x : Bytes). field 0x71 x end r) n.0 ∙ leaf_row 0x71 f i r h, (g, n.1))
expr_sound t d f i scaled_tag h a s g e = let n = scaled_sound 0x7a f a e refl in (λ r. ap (λ (x : Bytes). field 0x7a x end r) n.0 ∙ leaf_row 0x7a f i r h, (g, n.1))
expr_sound t d f i boolean_tag h a s g e = (λ r. ap (λ (x : Bytes). field 0x72 x end r) (boolean_sound f e) ∙ leaf_row 0x72 f i r h, g)
expr_sound t d f i null_tag h a s g e = (λ r. ap (λ (x : Bytes). field 0x73 x end r) (empty_is f e) ∙ leaf_row 0x73 f i r h, g)
expr_sound t d f i other_literal_tag h a s g e = (λ r. leaf_row 0x74 f i r h, (g, text_ok f e))
expr_sound t d f i minus_whole_tag h a s g e = let n = whole_sound 0x75 f a e refl in (λ r. ap (λ (x : Bytes). field 0x75 x end r) n.0 ∙ leaf_row 0x75 f i r h, (g, n.1))
expr_sound t d f i minus_scaled_tag h a s g e = let n = scaled_sound 0x7b f a e refl in (λ r. ap (λ (x : Bytes). field 0x7b x end r) n.0 ∙ leaf_row 0x7b f i r h, (g, n.1))
expr_sound t d f i array_tag h a s g e = let n = s.items_are (suc d) e in (λ r. ap (λ (x : Row). field 0x76 [] x r) n.0 ∙ node_row 0x76 f i r h, (g, n.1))
expr_sound t d f i other_expr_tag h a s g e = let n = s.pieces_are (suc d) e in (λ r. ap (λ (x : Row). field 0x79 [] x r) n.0 ∙ node_row 0x79 f i r h, (g, n.1))
expr_sound t d f i element_expr_tag h a s g e = let n = s.element_is d g e in (λ r. n.0 r ∙ node_row 0x30 f i r h, n.1)
expr_sound t d f i fragment_expr_tag h a s g e = let n = s.fragment_is d g e in (λ r. n.0 r ∙ node_row 0x31 f i r h, n.1)

abbrev child_of : ℕ → Bytes → Row → Children → Children
child_of t f i cs = child_by t f (λ _. contained_in i) (λ _. expr_in i) (λ _. element_in i) (λ _. fragment_in i) cs

abbrev check_child_of : ℕ → ℕ → Bytes → Row → Verdict
check_child_of t d f i = check_child_by t f (λ _. check_container d i) (λ _. check_expr d i) (λ _. check_element d i) (λ _. check_children d i)

contained_child_sound : (c : Contained) (d : ℕ) (cs : Children) → Deep d → ContainedOk c (suc d) → ChildrenOk cs d → (children_row (contained_child c cs) ≡ field 0x52 [] (contained_row c) (children_row cs)) × ChildrenOk (contained_child c cs) d
unfolding contained_child contained_row ContainedOk children_row ChildrenOk
contained_child_sound nothing_contained d cs g h k = (refl, (g, k))
contained_child_sound (contained e) d cs g h k = (refl, (g, h, k))

child_sound : (t d : ℕ) (f : Bytes) (i : Row) (cs : Children) → ChildTag t → FrontFits (inside t) f i → Sound i → Deep d → check_child_of t (suc d) f i ≡ Fine → ChildrenOk cs d →
    (children_row (child_of t f i cs) ≡ field t f i (children_row cs)) × ChildrenOk (child_of t f i cs) d
unfolding check_child_by child_by choose children_row ChildrenOk inside
child_sound t d f i cs text_tag h s g e k = (leaf_row 0x60 f i (children_row cs) h, (g, text_ok f e, k))
child_sound t d f i cs container_tag h s g e k =
    let n = s.contained_is (suc d) e in
    let m = contained_child_sound (contained_in i) d cs g n.1 k in
    (m.0 ∙ ap (λ (x : Row). field 0x52 [] x (children_row cs)) n.0 ∙ node_row 0x52 f i (children_row cs) h, m.1)
child_sound t d f i cs element_child_tag h s g e k = let n = s.element_is d g e in (n.0 (children_row cs) ∙ node_row 0x30 f i (children_row cs) h, (n.1, k))
child_sound t d f i cs fragment_child_tag h s g e k = let n = s.fragment_is d g e in (n.0 (children_row cs) ∙ node_row 0x31 f i (children_row cs) h, (n.1, k))
child_sound t d f i cs spread_child_tag h s g e k = let n = s.expr_is (suc d) e in (ap (λ (x : Row). field 0x61 [] x (children_row cs)) n.0 ∙ node_row 0x61 f i (children_row cs) h, (g, n.1, k))

contained_value_sound : (c : Contained) (d : ℕ) → Deep d → ContainedOk c (suc d) → (value_row (contained_value c) ≡ field 0x52 [] (contained_row c) end) × ValueOk (contained_value c) d
unfolding contained_value contained_row ContainedOk value_row ValueOk
contained_value_sound nothing_contained d g h = (refl, g)
contained_value_sound (contained e) d g h = (refl, (g, h))

value_sound : (t d : ℕ) (f : Bytes) (i : Row) → ValueTag t → FrontFits (inside t) f i → Sound i → Deep d →
    (choose (eqb t 0x51) (λ _. check_text f) λ _. choose (eqb t 0x52) (λ _. check_container (suc d) i) λ _. choose (eqb t 0x30) (λ _. check_element (suc d) i) λ _. check_children (suc d) i) ≡ Fine →
    (value_row (value_behind (field t f i end)) ≡ field t f i end) × ValueOk (value_behind (field t f i end)) d
unfolding value_behind value_by choose value_row ValueOk inside
value_sound t d f i string_value_tag h s g e = (leaf_row 0x51 f i end h, (g, text_ok f e))
value_sound t d f i container_value_tag h s g e =
    let n = s.contained_is (suc d) e in
    let m = contained_value_sound (contained_in i) d g n.1 in
    (m.0 ∙ ap (λ (x : Row). field 0x52 [] x end) n.0 ∙ node_row 0x52 f i end h, m.1)
value_sound t d f i element_value_tag h s g e = let n = s.element_is d g e in (n.0 end ∙ node_row 0x30 f i end h, n.1)
value_sound t d f i fragment_value_tag h s g e = let n = s.fragment_is d g e in (n.0 end ∙ node_row 0x31 f i end h, n.1)

piece_sound : (t d : ℕ) (f : Bytes) (i r : Row) → PieceTag t → FrontFits (inside t) f i → Sound i → Deep d →
    (choose (eqb t 0x20) (λ _. check_text f) λ _. choose (eqb t 0x30) (λ _. check_element (suc d) i) λ _. check_children (suc d) i) ≡ Fine → PiecesOk (pieces_in r) d →
    (pieces_row (pieces_in (field t f i r)) ≡ field t f i (pieces_row (pieces_in r))) × PiecesOk (pieces_in (field t f i r)) d
unfolding pieces_in choose pieces_row PiecesOk inside
piece_sound t d f i r source_tag h s g e k = (leaf_row 0x20 f i (pieces_row (pieces_in r)) h, (g, text_ok f e, k))
piece_sound t d f i r element_piece_tag h s g e k = let n = s.element_is d g e in (n.0 (pieces_row (pieces_in r)) ∙ node_row 0x30 f i (pieces_row (pieces_in r)) h, (n.1, k))
piece_sound t d f i r fragment_piece_tag h s g e k = let n = s.fragment_is d g e in (n.0 (pieces_row (pieces_in r)) ∙ node_row 0x31 f i (pieces_row (pieces_in r)) h, (n.1, k))

-- an expression is neither a spread nor a hole
expr_item_in : (t : ℕ) (f : Bytes) (i r : Row) → eqb t 0x77 ≡ false → eqb t 0x78 ≡ false → item (expr_of t f i) (items_in r) ≡ items_in (field t f i r)
unfolding items_in choose
expr_item_in t f i r a b = rw (a, b)

abbrev check_item_of : ℕ → ℕ → Bytes → Row → Verdict
check_item_of t d f i = choose (eqb t 0x77) (λ _. check_expr d i) λ _. choose (eqb t 0x78) (λ _. check_empty f) λ _. check_expr_of t d f i

item_sound : (t d : ℕ) (f : Bytes) (i r : Row) → ItemTag t → FrontFits (inside t) f i → AllBytes f → Sound i → Deep d → check_item_of t (suc d) f i ≡ Fine → ItemsOk (items_in r) d →
    (items_row (items_in (field t f i r)) ≡ field t f i (items_row (items_in r))) × ItemsOk (items_in (field t f i r)) d
unfolding items_in choose items_row ItemsOk inside
item_sound t d f i r (expr_item_tag x p q) h a s g e k =
    let n = expr_sound t d f i x h a s g (rw (p, q) at e) in
    subst (λ (y : Items). (items_row y ≡ field t f i (items_row (items_in r))) × ItemsOk y d) (expr_item_in t f i r p q) (n.0 (items_row (items_in r)), (n.1, k))
item_sound t d f i r spread_item_tag h a s g e k = let n = s.expr_is (suc d) e in (ap (λ (x : Row). field 0x77 [] x (items_row (items_in r))) n.0 ∙ node_row 0x77 f i (items_row (items_in r)) h, (g, n.1, k))
item_sound t d f i r hole_item_tag h a s g e k = (ap (λ (x : Bytes). field 0x78 x end (items_row (items_in r))) (empty_is f e) ∙ leaf_row 0x78 f i (items_row (items_in r)) h, (g, k))

-- attributes, and the first child behind them
no_attributes_in : (t : ℕ) (f : Bytes) (i r : Row) → eqb t 0x50 ≡ false → eqb t 0x53 ≡ false → no_attributes ≡ attributes_in (field t f i r)
unfolding attributes_in choose
no_attributes_in t f i r a b = rw (a, b)

abbrev Attributed : Attributes → Children → Row → ℕ → Type 0
Attributed as' cs x d = (attributes_row as' (children_row cs) ≡ x) × AttributesOk as' d × ChildrenOk cs d

attributes_sound : (t d : ℕ) (f : Bytes) (i r : Row) → AttributeTag t → FrontFits (inside t) f i → Sound i → Sound r → Deep d →
    (choose (eqb t 0x50) (λ _. after (check_attribute (suc d) i) λ _. check_attributes d r) λ _.
    choose (eqb t 0x53) (λ _. after (check_expr (suc d) i) λ _. check_attributes d r) λ _.
    after (check_child_of t (suc d) f i) λ _. check_children d r) ≡ Fine → Attributed (attributes_in (field t f i r)) (children_in (field t f i r)) (field t f i r) d
unfolding attributes_in children_in child_by choose attributes_row AttributesOk inside
attributes_sound t d f i r named_attribute_tag h s q g e =
    let a = after_fine _ _ e in
    let n = s.attribute_is (suc d) a.0 in
    let m = q.attributes_are d a.1 in
    (ap₂ (λ (x y : Row). field 0x50 [] x y) n.0 m.0 ∙ node_row 0x50 f i r h, (g, n.1, n.2, m.1), m.2)
attributes_sound t d f i r spread_attribute_tag h s q g e =
    let a = after_fine _ _ e in
    let n = s.expr_is (suc d) a.0 in
    let m = q.attributes_are d a.1 in
    (ap₂ (λ (x y : Row). field 0x53 [] x y) n.0 m.0 ∙ node_row 0x53 f i r h, (g, n.1, m.1), m.2)
attributes_sound t d f i r (child_behind_tag x p p') h s q g e =
    let a = after_fine _ _ (rw (p, p') at e) in
    let m = q.children_are d a.1 in
    let n = child_sound t d f i (children_in r) x h s g a.0 m.1 in
    subst (λ (y : Attributes). Attributed y (children_in (field t f i r)) (field t f i r) d) (no_attributes_in t f i r p p') (n.0 ∙ ap (λ (x : Row). field t f i x) m.0, tt, n.1)

-- a fragment is its children
pub fragment_children : (x : Row) → fragment (children_in x) ≡ fragment_in x
unfolding fragment_in
fragment_children end = refl
fragment_children (loose b) = refl
fragment_children (field t f i r) = refl

fragment_sound : (x : Row) → ((d : ℕ) → check_children d x ≡ Fine → (children_row (children_in x) ≡ x) × ChildrenOk (children_in x) d) → (d : ℕ) → Deep d → check_children (suc d) x ≡ Fine → TagIs 0x31 (fragment_in x) x d
unfolding tag_row TagOk
fragment_sound x c d g e = let n = c (suc d) e in subst (λ (t : Tag). TagIs 0x31 t x d) (fragment_children x) (λ r. ap (λ (y : Row). field 0x31 [] y r) n.0, (g, n.1))

-- ---- a field in each of its places: header, body, then what follows

module _ (t : ℕ) (f : Bytes) (i r : Row) (fits : FrontFits (inside t) f i) (all : AllBytes f) (inner_sane : Sane i) (inner : Sound i) (rest : Sound r) where
  element_at : (d : ℕ) → Deep d → check_element (suc d) (field t f i r) ≡ Fine → TagIs 0x30 (element_in (field t f i r)) (field t f i r) d
  unfolding check_element element_in tag_row TagOk
  element_at d g e =
      let a = after_fine _ _ e in
      let h = header_fine (is_name_tag t) (suc d) a.0 in
      let b = after_fine _ _ a.1 in
      let n = name_sound t (suc d) f i (name_tag t h.0) fits inner_sane h.1 b.0 in
      let m = rest.attributes_are (suc d) b.1 in
      (λ q. ap (λ (x : Row). field 0x30 [] x q) (n.0 (attributes_row (attributes_in r) (children_row (children_in r))) ∙ ap (λ (x : Row). field t f i x) m.0), (g, n.1, m.1, m.2))

  attributes_at : (d : ℕ) → check_attributes d (field t f i r) ≡ Fine → Attributed (attributes_in (field t f i r)) (children_in (field t f i r)) (field t f i r) d
  unfolding check_attributes
  attributes_at d e =
      let a = after_fine _ _ e in
      let h = header_fine (is_attribute t || is_child t) d a.0 in
      attributes_sound t d f i r (attribute_tag t h.0) fits inner rest h.1 a.1

  attribute_at : (d : ℕ) → check_attribute d (field t f i r) ≡ Fine → (attr_name_row (attr_name_in (field t f i r)) (value_row (value_in (field t f i r))) ≡ field t f i r) × AttrNameOk d (attr_name_in (field t f i r)) × ValueOk (value_in (field t f i r)) d
  unfolding check_attribute attr_name_in value_in
  attribute_at d e =
      let a = after_fine _ _ e in
      let h = header_fine (eqb t 0x40 || eqb t 0x42) d a.0 in
      let b = after_fine _ _ a.1 in
      let n = attr_name_sound t d f i (attr_name_tag t h.0) fits inner_sane h.1 b.0 in
      let m = rest.value_is d b.1 in
      (n.0 (value_row (value_behind r)) ∙ ap (λ (x : Row). field t f i x) m.0, n.1, m.1)

  value_at : (d : ℕ) → check_value d (field t f i r) ≡ Fine → (value_row (value_behind (field t f i r)) ≡ field t f i r) × ValueOk (value_behind (field t f i r)) d
  unfolding check_value value_behind
  value_at d e =
      let a = after_fine _ _ e in
      let h = header_fine (eqb t 0x51 || eqb t 0x52 || is_tag t) d a.0 in
      let b = after_fine _ _ a.1 in
      let n = value_sound t d f i (value_tag t h.0) fits inner h.1 b.0 in
      (n.0 ∙ ap (λ (x : Row). field t f i x) (ended r b.1), n.1)

  children_at : (d : ℕ) → check_children d (field t f i r) ≡ Fine → (children_row (children_in (field t f i r)) ≡ field t f i r) × ChildrenOk (children_in (field t f i r)) d
  unfolding check_children children_in
  children_at d e =
      let a = after_fine _ _ e in
      let h = header_fine (is_child t) d a.0 in
      let b = after_fine _ _ a.1 in
      let m = rest.children_are d b.1 in
      let n = child_sound t d f i (children_in r) (child_tag t h.0) fits inner h.1 b.0 m.1 in
      (n.0 ∙ ap (λ (x : Row). field t f i x) m.0, n.1)

  -- the one expression of a container, a spread, an attribute
  expr_at : (d : ℕ) → check_expr d (field t f i r) ≡ Fine → (expr_row (expr_in (field t f i r)) end ≡ field t f i r) × ExprOk (expr_in (field t f i r)) d
  unfolding check_expr expr_in
  expr_at d e =
      let a = after_fine _ _ e in
      let h = header_fine (is_expr t) d a.0 in
      let b = after_fine _ _ a.1 in
      let n = expr_sound t d f i (expr_tag t h.0) fits all inner h.1 b.0 in
      (n.0 end ∙ ap (λ (x : Row). field t f i x) (ended r b.1), n.1)

  -- a container that is not empty is its expression
  contained_at : (d : ℕ) → check_container d (field t f i r) ≡ Fine → (contained_row (contained_in (field t f i r)) ≡ field t f i r) × ContainedOk (contained_in (field t f i r)) d
  unfolding check_container contained_in contained_row ContainedOk
  contained_at d e = expr_at d e

  items_at : (d : ℕ) → check_items d (field t f i r) ≡ Fine → (items_row (items_in (field t f i r)) ≡ field t f i r) × ItemsOk (items_in (field t f i r)) d
  unfolding check_items
  items_at d e =
      let a = after_fine _ _ e in
      let h = header_fine (is_expr t || eqb t 0x77 || eqb t 0x78) d a.0 in
      let b = after_fine _ _ a.1 in
      let m = rest.items_are d b.1 in
      let n = item_sound t d f i r (item_tag t h.0) fits all inner h.1 b.0 m.1 in
      (n.0 ∙ ap (λ (x : Row). field t f i x) m.0, n.1)

  pieces_at : (d : ℕ) → check_pieces d (field t f i r) ≡ Fine → (pieces_row (pieces_in (field t f i r)) ≡ field t f i r) × PiecesOk (pieces_in (field t f i r)) d
  unfolding check_pieces
  pieces_at d e =
      let a = after_fine _ _ e in
      let h = header_fine (eqb t 0x20 || is_tag t) d a.0 in
      let b = after_fine _ _ a.1 in
      let m = rest.pieces_are d b.1 in
      let n = piece_sound t d f i r (piece_tag t h.0) fits inner h.1 b.0 m.1 in
      (n.0 ∙ ap (λ (x : Row). field t f i x) m.0, n.1)

pub sound : (x : Row) → Sane x → Sound x
unfolding Sane check_element element_in children_row ChildrenOk contained_row ContainedOk
sound end s =
    record {
      element_is = λ d g e. refused R.Misplaced e;
      fragment_is = fragment_sound end (λ d e. (refl, tt));
      attributes_are = λ d e. (refl, tt, tt);
      attribute_is = λ d e. refused R.Misplaced e;
      value_is = λ d e. (refl, tt);
      children_are = λ d e. (refl, tt);
      contained_is = λ d e. (refl, tt);
      expr_is = λ d e. refused R.Misplaced e;
      items_are = λ d e. (refl, tt);
      pieces_are = λ d e. (refl, tt);
    }
sound (loose b) s =
    record {
      element_is = λ d g e. refused R.Truncated e;
      fragment_is = λ d g e. refused R.Truncated e;
      attributes_are = λ d e. refused R.Truncated e;
      attribute_is = λ d e. refused R.Truncated e;
      value_is = λ d e. refused R.Truncated e;
      children_are = λ d e. refused R.Truncated e;
      contained_is = λ d e. refused R.Truncated e;
      expr_is = λ d e. refused R.Truncated e;
      items_are = λ d e. refused R.Truncated e;
      pieces_are = λ d e. refused R.Truncated e;
    }
sound (field t f i r) s =
    let inner = sound i s.2 in
    let rest = sound r s.3 in
    record {
      element_is = element_at t f i r s.0 s.1 s.2 inner rest;
      fragment_is = fragment_sound (field t f i r) (children_at t f i r s.0 s.1 s.2 inner rest);
      attributes_are = attributes_at t f i r s.0 s.1 s.2 inner rest;
      attribute_is = attribute_at t f i r s.0 s.1 s.2 inner rest;
      value_is = value_at t f i r s.0 s.1 s.2 inner rest;
      children_are = children_at t f i r s.0 s.1 s.2 inner rest;
      contained_is = contained_at t f i r s.0 s.1 s.2 inner rest;
      expr_is = expr_at t f i r s.0 s.1 s.2 inner rest;
      items_are = items_at t f i r s.0 s.1 s.2 inner rest;
      pieces_are = pieces_at t f i r s.0 s.1 s.2 inner rest;
    }

-- ---- the page

module_item_sound : (t : ℕ) (f : Bytes) (i : Row) (is : Page) → ModuleItemTag t → FrontFits (inside t) f i → Sound i → (choose (eqb t 0x13) (λ _. check_empty f) λ _. check_pieces 3 i) ≡ Fine → ModuleItemsOk is →
    (module_items_row (module_item_by t i ∷ is) ≡ field t f i (module_items_row is)) × ModuleItemsOk (module_item_by t i ∷ is)
unfolding module_item_by choose module_items_row ModuleItemsOk inside
module_item_sound t f i is export_tag h s e k = let n = s.pieces_are 3 e in (ap (λ (x : Row). field 0x10 [] x (module_items_row is)) n.0 ∙ node_row 0x10 f i (module_items_row is) h, (n.1, k))
module_item_sound t f i is declaration_tag h s e k = let n = s.pieces_are 3 e in (ap (λ (x : Row). field 0x11 [] x (module_items_row is)) n.0 ∙ node_row 0x11 f i (module_items_row is) h, (n.1, k))
module_item_sound t f i is statement_tag h s e k = let n = s.pieces_are 3 e in (ap (λ (x : Row). field 0x12 [] x (module_items_row is)) n.0 ∙ node_row 0x12 f i (module_items_row is) h, (n.1, k))
module_item_sound t f i is empty_item_tag h s e k = (ap (λ (x : Bytes). field 0x13 x end (module_items_row is)) (empty_is f e) ∙ leaf_row 0x13 f i (module_items_row is) h, k)

module_items_sound : (x : Row) → Sane x → check_module_items x ≡ Fine → (module_items_row (module_items_in x) ≡ x) × ModuleItemsOk (module_items_in x)
unfolding check_module_items module_items_in module_items_row ModuleItemsOk Sane
module_items_sound end s e = (refl, tt)
module_items_sound (loose b) s e = refused R.Truncated e
module_items_sound (field t f i r) s e =
    let a = after_fine _ _ e in
    let h = header_fine (leb 0x10 t && leb t 0x13) 2 a.0 in
    let b = after_fine _ _ a.1 in
    let m = module_items_sound r s.3 b.1 in
    let n = module_item_sound t f i (module_items_in r) (module_item_tag t h.0) s.0 (sound i s.2) b.0 m.1 in
    (n.0 ∙ ap (λ (x : Row). field t f i x) m.0, n.1)

nothing_after : (x : Row) → check_nothing_after x ≡ Fine → end ≡ x
unfolding check_nothing_after
nothing_after end e = refl
nothing_after (loose b) e = refused R.Truncated e
nothing_after (field t f i r) e = refused R.Truncated e

pub page_sound : (x : Row) → Sane x → check_page x ≡ Fine → (page_row (page_in x) ≡ x) × ModuleItemsOk (page_in x)
unfolding check_page page_in page_row Sane inside
page_sound end s e = refused R.Truncated e
page_sound (loose b) s e = refused R.Truncated e
page_sound (field t f i r) s e =
    let a = after_fine _ _ e in
    let h = header_fine (eqb t 0x01) 1 a.0 in
    let b = after_fine _ _ a.1 in
    let m = module_items_sound i s.2 b.0 in
    subst (λ (p : Page). (page_row p ≡ field t f i r) × ModuleItemsOk p) (sym (chosen (eqb t 0x01) (λ _. module_items_in i) (λ _. []) h.0))
    (ap₂ (λ (x y : Row). field 0x01 [] x y) m.0 (nothing_after r b.1) ∙ tag_is t 0x01 f i r (field 0x01 [] i r) h.0 (node_row 0x01 f i r) s.0, m.1)
