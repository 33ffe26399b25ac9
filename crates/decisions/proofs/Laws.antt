-- What the walks need of elements, values, shapes and children as they stand in bytes.
-- Main statements: `child_element`, `raw_element`, `child_fragment`, `raw_fragment`, `element_serializable`, `becomes_is`; for what
-- `value_at` answers `value_told`, and by that `string_held`, `container_held`, `element_held`, `fragment_held`, `absent_held`; for what `shape_at`
-- answers `string_contained` and the like. The readings by the tag in front are in `Series`. Assumes nothing.
use Rattle.std.specs.Prelude.{Option, Some, None}
use mathlib.Core.Path.{◌≡◌, refl, sym, ap, ap₂, ◌∙◌, subst}
use mathlib.Core.Bool.{Bool, false, ◌&&◌, ◌||◌, not, and_assoc}
use Prim.Native.Nat.{ℕ, ◌+◌}
use native.Mathlib.Omega.{arith}
use mathlib.Core.List.{[]}
use lib.Dec.{leb, eqb}
use borrow.Author.Tests.{ne_eqb}
use Rattle.field.specs.Bytes.{Bytes, ascii, pick, same, among, null?}
use Rattle.field.specs.Row.{Row, end, loose, field, read}
use Rattle.field.specs.Front.{tag_of_front, body_of, behind_of}
use Rattle.names.specs.Names.{get_attr_name}
use Rattle.text.specs.Text.{jsx_text_to_str}
use Rattle.page.specs.Number.{number_in}
use Rattle.page.specs.Page as P
use Rattle.page.specs.Page.{Options, Name, identifier, member, namespaced, Expr, string_literal, number_literal, boolean_literal, null_literal, other_literal, minus_literal}
use Rattle.page.specs.Tree.{choose, boolean_in, expr_by, Contained, nothing_contained, contained, contained_value, element_in, fragment_in, attributes_in, value_in, value_behind, children_in, contained_in, expr_in}
use Rattle.spec.specs.Attributes.{first_upper, keeps_from_serializing, is_serializable}
use Rattle.spec.specs.Merge as M
use Rattle.spec.specs.Merge.{text_count, serializable_count, becomes_template}
use Rattle.spec.specs.Visit.{visit_fragment}
use Rattle.spec.specs.Transform.{element_of, fragment_of, element_raw, shape_of, child, raw_tag, attributes, children}
use Rattle.decisions.specs.At.{opts, element_name, behind_name, element_at, forbids, serializable_by, serializable, becomes, Holds, value_of, value_kind, shape_by, shape_of_contained}
use Rattle.decisions.specs.declared.attribute.Value.{Value}
use Rattle.decisions.specs.declared.attribute.Value.TheVariants as Held
use Rattle.decisions.specs.declared.expr.Shape.{Shape}
use Rattle.decisions.specs.declared.expr.Shape.TheVariants as Form
use Rattle.decisions.proofs.Series.{tested, any_front, value_in_at, fragment_is, value_51, value_52, value_30, value_31, value_other, contained_field, expr_70, expr_71, expr_72, expr_74, expr_75, expr_76, expr_79, expr_7a, expr_7b, expr_30, expr_31}

-- ---- an element and a fragment, by their bytes

module _ (k p : Bytes) where
  element_row : Row → M.Element
  element_row r = element_of (opts k p) (element_name r) (attributes (opts k p) (attributes_in (behind_name r))) (children (opts k p) (children_in (behind_name r)))

  child_row : (r : Row) → child (opts k p) (element_in r) ≡ M.element (element_row r)
  unfolding element_row element_name behind_name element_in attributes_in children_in child
  child_row end = refl
  child_row (loose b) = refl
  child_row (field t f i r) = refl

  raw_row : (r : Row) → raw_tag (opts k p) (element_in r) ≡ element_raw (element_row r)
  unfolding element_row element_name behind_name element_in attributes_in children_in raw_tag
  raw_row end = refl
  raw_row (loose b) = refl
  raw_row (field t f i r) = refl

  module _ (b : Bytes) where
    pub child_element : child (opts k p) (element_in (read b)) ≡ M.element (element_at k p b)
    unfolding element_at element_row
    child_element = child_row (read b)

    pub raw_element : raw_tag (opts k p) (element_in (read b)) ≡ element_raw (element_at k p b)
    unfolding element_at element_row
    raw_element = raw_row (read b)

    pub child_fragment : child (opts k p) (fragment_in (read b)) ≡ M.fragment (fragment_of (children (opts k p) (children_in (read b))))
    unfolding child
    child_fragment = ap (child (opts k p)) (fragment_is (read b))

    pub raw_fragment : raw_tag (opts k p) (fragment_in (read b)) ≡ visit_fragment (children (opts k p) (children_in (read b)))
    unfolding raw_tag
    raw_fragment = ap (raw_tag (opts k p)) (fragment_is (read b))

-- ---- is_serializable looks at no value, and at the first list alone

pub forbids_is : (o : Options) (as' : P.Attributes) → keeps_from_serializing (attributes o as') ≡ forbids as'
unfolding keeps_from_serializing attributes forbids
forbids_is o P.no_attributes = refl
forbids_is o (P.attribute n v as') = ap (λ (x : Bool). same (get_attr_name n false) (ascii "dangerouslySetInnerHTML") || x) (forbids_is o as')
forbids_is o (P.spread_attribute e as') = refl

pub serializable_is : (o : Options) (n : Name) (as' : P.Attributes) → is_serializable o n (attributes o as') ≡ serializable_by o.skip_serialize n (forbids as')
unfolding is_serializable serializable_by
serializable_is o (identifier n) as' =
    ap (λ (x : Bool). not (first_upper n) && not (among n o.skip_serialize) && not x) (forbids_is o as') ∙ and_assoc (not (first_upper n)) (not (among n o.skip_serialize)) (not (forbids as'))
serializable_is o (member ns) as' = refl
serializable_is o (namespaced n m) as' = refl

pub element_serializable : (k p b : Bytes) → (element_at k p b).serializable ≡ serializable k b
unfolding element_at element_of serializable
element_serializable k p b = serializable_is (opts k p) (element_name (read b)) (attributes_in (behind_name (read b)))

-- ---- nor does the second list play a part in what becomes of children

module _ (k p : Bytes) where
  pub tags_same : (cs : P.Children) → serializable_count (children (opts k p) cs) ≡ serializable_count (children (opts k []) cs)
  unfolding serializable_count children child element_of
  tags_same P.no_children = refl
  tags_same (P.text_child b cs) = tags_same cs
  tags_same (P.empty_child cs) = tags_same cs
  tags_same (P.container_child e cs) = tags_same cs
  tags_same (P.tag_child (P.element n as' ds) cs) =
      ap₂ (λ (x : Bool) (m : ℕ). pick x 1 0 + m) (serializable_is (opts k p) n as' ∙ sym (serializable_is (opts k []) n as')) (tags_same cs)
  tags_same (P.tag_child (P.fragment ds) cs) = tags_same cs
  tags_same (P.spread_child e cs) = tags_same cs

  pub texts_same : (cs : P.Children) → text_count (children (opts k p) cs) ≡ text_count (children (opts k []) cs)
  unfolding text_count children child
  texts_same P.no_children = refl
  texts_same (P.text_child b cs) = ap (λ (m : ℕ). pick (null? (jsx_text_to_str b false false)) 0 1 + m) (texts_same cs)
  texts_same (P.empty_child cs) = texts_same cs
  texts_same (P.container_child e cs) = texts_same cs
  texts_same (P.tag_child (P.element n as' ds) cs) = texts_same cs
  texts_same (P.tag_child (P.fragment ds) cs) = texts_same cs
  texts_same (P.spread_child e cs) = texts_same cs

  pub becomes_is : (cs : P.Children) → becomes_template (children (opts k p) cs) ≡ becomes k cs
  unfolding becomes becomes_template
  becomes_is cs = ap₂ (λ (n m : ℕ). leb 2 n || (eqb n 1 && leb 1 m)) (tags_same cs) (texts_same cs)

-- ---- an attribute's value, by its kind

pub held_contained : (c : Contained) → value_of (contained_value c) ≡ Some 0x52
unfolding value_of contained_value
held_contained nothing_contained = refl
held_contained (contained e) = refl

pub held_element : (r : Row) → value_of (P.tag_value (element_in r)) ≡ Some 0x30
unfolding value_of element_in
held_element end = refl
held_element (loose b) = refl
held_element (field t f i r) = refl

pub held_fragment : (r : Row) → value_of (P.tag_value (fragment_in r)) ≡ Some 0x31
unfolding value_of
held_fragment r = ap (λ (x : P.Tag). value_of (P.tag_value x)) (fragment_is r)

-- the value that lies behind a name, with its bytes
pub data ValueAt (s : Bytes) : P.Value → Option ℕ → Type 0 where
  is_absent : ValueAt s P.absent None
  is_string : ValueAt s (P.string_value (body_of s)) (Some 0x51)
  is_container : ValueAt s (contained_value (contained_in (read (body_of s)))) (Some 0x52)
  is_element : ValueAt s (P.tag_value (element_in (read (body_of s)))) (Some 0x30)
  is_fragment : ValueAt s (P.tag_value (fragment_in (read (body_of s)))) (Some 0x31)

module _ (s : Bytes) where
  valued : (v : P.Value) {w : Option ℕ} → value_of v ≡ w → ValueAt s v w → value_behind (read s) ≡ v → ValueAt s (value_behind (read s)) (value_of (value_behind (read s)))
  valued v {w} e x q = subst (λ (y : P.Value). ValueAt s y (value_of y)) (sym q) (subst (ValueAt s v) (sym e) x)

  pub value_view : ValueAt s (value_behind (read s)) (value_of (value_behind (read s)))
  unfolding value_of
  value_view =
      let t = tag_of_front s in
      tested t 0x51 (λ k. valued _ refl is_string (value_51 s t refl k)) λ a.
      tested t 0x52 (λ k. valued _ (held_contained _) is_container (value_52 s t refl k)) λ b.
      tested t 0x30 (λ k. valued _ (held_element _) is_element (value_30 s t refl k)) λ c.
      tested t 0x31 (λ k. valued _ (held_fragment _) is_fragment (value_31 s t refl k)) λ d.
      valued P.absent refl is_absent (value_other s t refl a b c d)

string_view : {s : Bytes} {v : P.Value} → ValueAt s v (Some 0x51) → v ≡ P.string_value (body_of s)
string_view is_string = refl

container_view : {s : Bytes} {v : P.Value} → ValueAt s v (Some 0x52) → v ≡ contained_value (contained_in (read (body_of s)))
container_view is_container = refl

element_view : {s : Bytes} {v : P.Value} → ValueAt s v (Some 0x30) → v ≡ P.tag_value (element_in (read (body_of s)))
element_view is_element = refl

fragment_view : {s : Bytes} {v : P.Value} → ValueAt s v (Some 0x31) → v ≡ P.tag_value (fragment_in (read (body_of s)))
fragment_view is_fragment = refl

absent_view : {s : Bytes} {v : P.Value} → ValueAt s v None → v ≡ P.absent
absent_view is_absent = refl

-- a tag that is an expression is of the kind of the field in front
module _ (s : Bytes) (g : P.Tag) where
  abbrev IsKind : Row → Type 0
  IsKind r = contained_in r ≡ contained (P.tag_expr g) → value_of (P.tag_value g) ≡ Some (tag_of_front s)

  module _ (t : ℕ) (q : t ≡ tag_of_front s) (z : t ≡ 256 → ⊥) where
    no_tag : {e : Expr} → expr_in (read s) ≡ e → (e ≡ P.tag_expr g → ⊥) → IsKind (read s)
    no_tag x n h = absurd (n (let c = contained_field s t q z in cc))

    of_kind : {u : P.Tag} → expr_in (read s) ≡ P.tag_expr u → {n : ℕ} → value_of (P.tag_value u) ≡ Some n → t ≡ n → IsKind (read s)
    of_kind {u} x v k h =
        let c = contained_field s t q z in
        let e : u ≡ g = cc in
        ap (λ (y : P.Tag). value_of (P.tag_value y)) (sym e) ∙ v ∙ ap Some (sym k ∙ q)

  pub tag_in_front : IsKind (read s)
  unfolding contained_in expr_by choose
  tag_in_front =
      let t = tag_of_front s in
      tested t 0x70 (λ k. no_tag t refl (λ z. omega arith) (expr_70 s t refl k) (λ y. cc)) λ a.
      tested t 0x71 (λ k. no_tag t refl (λ z. omega arith) (expr_71 s t refl k) (λ y. cc)) λ b.
      tested t 0x72 (λ k. no_tag t refl (λ z. omega arith) (expr_72 s t refl k) (λ y. cc)) λ c.
      tested t 0x74 (λ k. no_tag t refl (λ z. omega arith) (expr_74 s t refl k) (λ y. cc)) λ d.
      tested t 0x75 (λ k. no_tag t refl (λ z. omega arith) (expr_75 s t refl k) (λ y. cc)) λ e.
      tested t 0x76 (λ k. no_tag t refl (λ z. omega arith) (expr_76 s t refl k) (λ y. cc)) λ o.
      tested t 0x79 (λ k. no_tag t refl (λ z. omega arith) (expr_79 s t refl k) (λ y. cc)) λ h.
      tested t 0x7a (λ k. no_tag t refl (λ z. omega arith) (expr_7a s t refl k) (λ y. cc)) λ m.
      tested t 0x7b (λ k. no_tag t refl (λ z. omega arith) (expr_7b s t refl k) (λ y. cc)) λ n.
      tested t 0x30 (λ k. of_kind t refl (λ z. omega arith) (expr_30 s t refl k) (held_element _) k) λ j.
      tested t 0x31 (λ k. of_kind t refl (λ z. omega arith) (expr_31 s t refl k) (held_fragment _) k) λ l.
      any_front IsKind s t refl (λ x. cc) (λ w x. cc) λ f i.
      rw (ne_eqb t 0x70 a, ne_eqb t 0x71 b, ne_eqb t 0x72 c, ne_eqb t 0x74 d, ne_eqb t 0x75 e, ne_eqb t 0x76 o, ne_eqb t 0x79 h, ne_eqb t 0x7a m, ne_eqb t 0x7b n, ne_eqb t 0x30 j, ne_eqb t 0x31 l) (λ x. cc)

-- a is the body of a 50
module _ (a : Bytes) where
  -- by the answer of value_at
  pub value_told : (v : Option Value) → Holds a v → value_kind v ≡ value_of (value_in (read a))
  unfolding value_of
  value_told None h = sym (ap value_of h)
  value_told (Some (Held.String b)) h = sym (ap value_of h)
  value_told (Some (Held.Container c)) h = sym (ap value_of h.0 ∙ held_contained _)
  value_told (Some (Held.Tag t)) h = sym (ap value_of h.0.value_is ∙ tag_in_front t.now h.0.tag h.0.expression_is)

  viewed : {w : Option ℕ} → value_of (value_in (read a)) ≡ w → ValueAt (behind_of a) (value_in (read a)) w
  viewed {w} h = subst (ValueAt (behind_of a) (value_in (read a))) h (subst (λ (v : P.Value). ValueAt (behind_of a) v (value_of v)) (sym (value_in_at a)) (value_view (behind_of a)))

  pub string_held : value_of (value_in (read a)) ≡ Some 0x51 → value_in (read a) ≡ P.string_value (body_of (behind_of a))
  string_held h = string_view (viewed h)

  pub container_held : value_of (value_in (read a)) ≡ Some 0x52 → value_in (read a) ≡ contained_value (contained_in (read (body_of (behind_of a))))
  container_held h = container_view (viewed h)

  pub element_held : value_of (value_in (read a)) ≡ Some 0x30 → value_in (read a) ≡ P.tag_value (element_in (read (body_of (behind_of a))))
  element_held h = element_view (viewed h)

  pub fragment_held : value_of (value_in (read a)) ≡ Some 0x31 → value_in (read a) ≡ P.tag_value (fragment_in (read (body_of (behind_of a))))
  fragment_held h = fragment_view (viewed h)

  pub absent_held : value_of (value_in (read a)) ≡ None → value_in (read a) ≡ P.absent
  absent_held h = absent_view (viewed h)

-- ---- what a container holds, by its shape

-- the expression at the front of bytes, with its bytes
pub data ContainedAt (s : Bytes) : Contained → Shape → Type 0 where
  is_empty : ContainedAt s nothing_contained Form.Empty
  is_text : ContainedAt s (contained (string_literal (body_of s))) Form.String
  is_number : ContainedAt s (contained (number_literal (number_in (tag_of_front s) (body_of s)))) Form.Number
  is_boolean : ContainedAt s (contained (boolean_literal (boolean_in (body_of s)))) (Form.Boolean (boolean_in (body_of s)))
  is_null : ContainedAt s (contained null_literal) Form.Null
  is_literal : ContainedAt s (contained (other_literal (body_of s))) Form.Literal
  is_minus : ContainedAt s (contained (minus_literal (number_in (tag_of_front s) (body_of s)))) Form.Minus
  is_other : {e : Expr} → shape_of e ≡ M.other_shape → ContainedAt s (contained e) Form.Other

module _ (s : Bytes) where
  abbrev Viewed : Contained → Type 0
  Viewed c = ContainedAt s c (shape_of_contained c)

  held : (t : ℕ) → t ≡ tag_of_front s → (t ≡ 256 → ⊥) → {e : Expr} → expr_in (read s) ≡ e → Viewed (contained e) → Viewed (contained_in (read s))
  held t q h {e} x v = subst Viewed (sym (contained_field s t q h ∙ ap contained x)) v

  pub contained_view : Viewed (contained_in (read s))
  unfolding shape_of_contained shape_by shape_of contained_in expr_by choose
  contained_view =
      let t = tag_of_front s in
      tested t 0x70 (λ k. held t refl (λ z. omega arith) (expr_70 s t refl k) is_text) λ a.
      tested t 0x71 (λ k. held t refl (λ z. omega arith) (expr_71 s t refl k) is_number) λ b.
      tested t 0x72 (λ k. held t refl (λ z. omega arith) (expr_72 s t refl k) is_boolean) λ c.
      tested t 0x74 (λ k. held t refl (λ z. omega arith) (expr_74 s t refl k) is_literal) λ d.
      tested t 0x75 (λ k. held t refl (λ z. omega arith) (expr_75 s t refl k) is_minus) λ e.
      tested t 0x76 (λ k. held t refl (λ z. omega arith) (expr_76 s t refl k) (is_other refl)) λ g.
      tested t 0x79 (λ k. held t refl (λ z. omega arith) (expr_79 s t refl k) (is_other refl)) λ h.
      tested t 0x7a (λ k. held t refl (λ z. omega arith) (expr_7a s t refl k) is_number) λ m.
      tested t 0x7b (λ k. held t refl (λ z. omega arith) (expr_7b s t refl k) is_minus) λ n.
      tested t 0x30 (λ k. held t refl (λ z. omega arith) (expr_30 s t refl k) (is_other refl)) λ j.
      tested t 0x31 (λ k. held t refl (λ z. omega arith) (expr_31 s t refl k) (is_other refl)) λ l.
      any_front (λ (r : Row). Viewed (contained_in r)) s t refl is_empty (λ x. is_empty) λ f i.
      rw (ne_eqb t 0x70 a, ne_eqb t 0x71 b, ne_eqb t 0x72 c, ne_eqb t 0x74 d, ne_eqb t 0x75 e, ne_eqb t 0x76 g, ne_eqb t 0x79 h, ne_eqb t 0x7a m, ne_eqb t 0x7b n, ne_eqb t 0x30 j, ne_eqb t 0x31 l) is_null

empty_view : {s : Bytes} {c : Contained} → ContainedAt s c Form.Empty → c ≡ nothing_contained
empty_view is_empty = refl

text_view : {s : Bytes} {c : Contained} → ContainedAt s c Form.String → c ≡ contained (string_literal (body_of s))
text_view is_text = refl

number_view : {s : Bytes} {c : Contained} → ContainedAt s c Form.Number → c ≡ contained (number_literal (number_in (tag_of_front s) (body_of s)))
number_view is_number = refl

boolean_view : {s : Bytes} {c : Contained} {b : Bool} → ContainedAt s c (Form.Boolean b) → c ≡ contained (boolean_literal b)
boolean_view is_boolean = refl

null_view : {s : Bytes} {c : Contained} → ContainedAt s c Form.Null → c ≡ contained null_literal
null_view is_null = refl

literal_view : {s : Bytes} {c : Contained} → ContainedAt s c Form.Literal → c ≡ contained (other_literal (body_of s))
literal_view is_literal = refl

minus_view : {s : Bytes} {c : Contained} → ContainedAt s c Form.Minus → c ≡ contained (minus_literal (number_in (tag_of_front s) (body_of s)))
minus_view is_minus = refl

-- an expression that no other shape tells apart
pub record OtherShape (r : Row) : Type 0 where
  pub contained_is : contained_in r ≡ contained (expr_in r)
  pub shape_is : shape_of (expr_in r) ≡ M.other_shape

record Other (c : Contained) : Type 0 where
  expression : Expr
  is_it : c ≡ contained expression
  is_other_shape : shape_of expression ≡ M.other_shape

other_view : {s : Bytes} {c : Contained} → ContainedAt s c Form.Other → Other c
other_view (is_other {e} h) = record { expression = e; is_it = refl; is_other_shape = h }

other_row : (r : Row) → Other (contained_in r) → OtherShape r
unfolding contained_in expr_in
other_row end o = absurd (let q = o.is_it in let z : ◌≡◌ {A = ℕ} 0 1 = cc in omega arith)
other_row (loose b) o = absurd (let q = o.is_it in let z : ◌≡◌ {A = ℕ} 0 1 = cc in omega arith)
other_row (field t f i r) o =
    let q : expr_in (field t f i r) ≡ o.expression = cc o.is_it in
    record { contained_is = refl; shape_is = ap shape_of q ∙ o.is_other_shape }

-- c is the body of a 52
module _ (c : Bytes) where
  seen : {w : Shape} → shape_of_contained (contained_in (read c)) ≡ w → ContainedAt c (contained_in (read c)) w
  seen h = subst (ContainedAt c (contained_in (read c))) h (contained_view c)

  pub empty_contained : shape_of_contained (contained_in (read c)) ≡ Form.Empty → contained_in (read c) ≡ nothing_contained
  empty_contained h = empty_view (seen h)

  pub string_contained : shape_of_contained (contained_in (read c)) ≡ Form.String → contained_in (read c) ≡ contained (string_literal (body_of c))
  string_contained h = text_view (seen h)

  pub number_contained : shape_of_contained (contained_in (read c)) ≡ Form.Number → contained_in (read c) ≡ contained (number_literal (number_in (tag_of_front c) (body_of c)))
  number_contained h = number_view (seen h)

  pub boolean_contained : {b : Bool} → shape_of_contained (contained_in (read c)) ≡ Form.Boolean b → contained_in (read c) ≡ contained (boolean_literal b)
  boolean_contained {b} h = boolean_view (seen h)

  pub null_contained : shape_of_contained (contained_in (read c)) ≡ Form.Null → contained_in (read c) ≡ contained null_literal
  null_contained h = null_view (seen h)

  pub literal_contained : shape_of_contained (contained_in (read c)) ≡ Form.Literal → contained_in (read c) ≡ contained (other_literal (body_of c))
  literal_contained h = literal_view (seen h)

  pub minus_contained : shape_of_contained (contained_in (read c)) ≡ Form.Minus → contained_in (read c) ≡ contained (minus_literal (number_in (tag_of_front c) (body_of c)))
  minus_contained h = minus_view (seen h)

  pub other_contained : shape_of_contained (contained_in (read c)) ≡ Form.Other → OtherShape (read c)
  other_contained h = other_row (read c) (other_view (seen h))
