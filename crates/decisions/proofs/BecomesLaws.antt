-- What becomes of an attribute and of a container, as the code learns it and as both of 000's walks give it. Main statements: `container_fate`,
-- `container_among` by the shape; `parts_are`, `property_is`; `joins_text`, `leaves_none`, `leaves_wraps`: 000's functions go by the one definition.
-- Assumes nothing.
use Rattle.std.specs.Prelude.{Some, None}
use Rattle.std.proofs.Common.{Option as Maybe}
use Rattle.std.specs.Option.{is_some}
use Rattle.field.specs.Fields.{FieldAt}
use Rattle.field.specs.declared.reader.Field.{Field}
use mathlib.Core.Path.{subst, ◌≡◌, refl, sym, ap, ◌∙◌}
use mathlib.Core.Bool.{false≢true, Bool, true, false, ◌||◌}
use mathlib.Core.List.{[], ◌∷◌}
use mathlib.Core.Option.{Option, none, some}
use Prim.Native.Nat.{ℕ}
use native.Mathlib.Omega.{arith}
use Rattle.field.specs.Bytes.{Bytes, ascii, pick, same, among}
use Rattle.field.specs.Row.{read, Row, end, loose, field}
use Rattle.field.specs.Front.{body_of}
use Rattle.field.proofs.RowLaws.{read_nil}
use Rattle.text.specs.Escape.{escape_html, escape_byte}
use Rattle.text.specs.Text.{normalize_lit_str}
use Rattle.names.specs.Names.{AttrName, get_attr_name, is_boolean_attr, boolean_names}
use Rattle.names.proofs.CompareLaws.{same_eq}
use Rattle.names.proofs.ListLaws.{every_at}
use Rattle.page.proofs.NumberLaws.{render_escaped}
use Rattle.page.specs.Page as P
use Rattle.page.specs.Page.{Options, Expr}
use Rattle.page.specs.Tree.{Contained, nothing_contained, contained, contained_value, contained_in, value_in, expr_in}
use Rattle.spec.specs.Pass as S
use Rattle.spec.specs.Pass.{Mid, node, ◌+++◌, Part, chars, gap, pure}
use Rattle.spec.specs.Output.{choice_node, prop_node, escape_node}
use Rattle.spec.specs.Merge as M
use Rattle.spec.specs.Merge.{joined_text}
use Rattle.spec.specs.Attributes as A
use Rattle.spec.specs.Attributes.{listed_attr, dynamic_attr, container_attr, plain_attr, attr_parts, prop_of}
use Rattle.spec.specs.Transform.{shape_of, value, expr}
use Rattle.decisions.specs.At.{shape_of_contained, number_text, TagHeld, Holds}
use Rattle.decisions.specs.declared.attribute.Value.{Value}
use Rattle.decisions.specs.declared.attribute.Value.TheVariants as V
use Rattle.decisions.specs.declared.expr.Shape.{Shape}
use Rattle.decisions.specs.declared.expr.Shape.TheVariants as Form
use Rattle.decisions.specs.declared.becomes.Gap.{Gap}
use Rattle.decisions.specs.declared.becomes.Gap.TheVariants as G
use Rattle.decisions.specs.Becomes.{true_of, string_of, null_of, expr_of, choice_of, Fate, ignored, alone, written, dynamic, choice_or_attr, shape_in_tag, listed_in_tag, plain_in_tag, in_tag, as_property, Among, joins, leaves, shape_as_child, as_child, gap_case, held, gap_expr, contained_mid, gap_mid, tag_parts, property_mid}
use Rattle.decisions.proofs.Series.{contained_none, contained_field}
use Rattle.decisions.proofs.Laws.{ContainedAt, is_empty, is_text, is_number, is_boolean, is_null, is_literal, is_minus, is_other, contained_view}
use Rattle.spec.specs.Children.{maybe_wrap}

-- ---- a container with the fields c, by the shape that was found

abbrev pub fate_by : Bytes → Bytes → Contained → Shape → Fate
fate_by n c x Form.Empty = ignored
fate_by n c x Form.String = written (body_of c)
fate_by n c x Form.Number = written (number_text c)
fate_by n c x (Form.Boolean b) = pick (is_boolean_attr n) (pick b alone ignored) (dynamic (expr_of true x))
fate_by n c x Form.Null = dynamic (pick (is_boolean_attr n) (choice_of x) (expr_of true x))
fate_by n c x Form.Literal = dynamic (pick (is_boolean_attr n) (choice_of x) (expr_of true x))
fate_by n c x Form.Minus = written (45 ∷ number_text c)
fate_by n c x Form.Other = dynamic (pick (is_boolean_attr n) (choice_of x) (expr_of true x))

fate_seen : (n : Bytes) {c : Bytes} {x : Contained} {r : Shape} → ContainedAt c x r → plain_in_tag n (contained_value x) ≡ fate_by n c x r
unfolding plain_in_tag shape_in_tag choice_or_attr contained_value shape_of
fate_seen n is_empty = refl
fate_seen n is_text = refl
fate_seen n is_number = refl
fate_seen n is_boolean = refl
fate_seen n is_null = refl
fate_seen n is_literal = refl
fate_seen n is_minus = refl
fate_seen n (is_other {e} h) = ap (shape_in_tag n e) h

module _ (c : Bytes) where
  pub container_fate : (n : Bytes) → plain_in_tag n (contained_value (contained_in (read c))) ≡ fate_by n c (contained_in (read c)) (shape_of_contained (contained_in (read c)))
  container_fate n = fate_seen n (contained_view c)

-- ---- values, by what stands there

-- what is held, by the arm of the code
pub held_as : (a : Bytes) {g h : Value} → Holds a (Some g) → g ≡ h → Holds a (Some h)
held_as a k e = subst (λ (x : Value). Holds a (Some x)) e k

-- braces, by whether a field stands in them
module _ (c : Bytes) where
  pub braces_full : (r : Maybe Field) → FieldAt c r → is_some r ≡ true → contained_in (read c) ≡ contained (expr_in (read c))
  braces_full None e h = absurd (false≢true h)
  braces_full (Some f) e h = contained_field c f.tag e.tag_is (λ z. omega (arith, e.tag_below, z))

  pub braces_empty : (r : Maybe Field) → FieldAt c r → is_some r ≡ false → contained_in (read c) ≡ nothing_contained
  braces_empty None e h = contained_none (read c) e.ended
  braces_empty (Some f) e h = absurd (false≢true (sym h))

-- a listed one is kept as it is
module _ {v : P.Value} where
  module _ {x : Contained} (q : v ≡ contained_value x) where
    pub listed_none : x ≡ nothing_contained → null_of ≡ listed_in_tag v
    unfolding listed_in_tag contained_value
    listed_none h = sym (ap listed_in_tag (q ∙ ap contained_value h))

    pub listed_one : {e : Expr} → x ≡ contained e → expr_of false x ≡ listed_in_tag v
    unfolding listed_in_tag contained_value
    listed_one h = ap (expr_of false) h ∙ sym (ap listed_in_tag (q ∙ ap contained_value h))

  pub listed_tag : {t : Bytes} → TagHeld v t → expr_of false (contained_in (read t)) ≡ listed_in_tag v
  unfolding listed_in_tag
  listed_tag h = ap (expr_of false) h.expression_is ∙ sym (ap listed_in_tag h.value_is)

-- a property, by what reads `key`
module _ (norm : Bool) (n : AttrName) where
  abbrev key : Bool
  key = same (get_attr_name n norm) (ascii "key")

  module _ {v : P.Value} where
    pub property_none : v ≡ P.absent → Some (true_of norm) ≡ as_property norm n v
    unfolding as_property
    property_none q = sym (ap (as_property norm n) q)

    pub property_string : {b : Bytes} → v ≡ P.string_value b → key ≡ false → Some (string_of norm b) ≡ as_property norm n v
    unfolding as_property
    property_string {b} q h = sym (ap (as_property norm n) q ∙ ap (λ (x : Bool). pick x None (Some (string_of norm b))) h)

    module _ {x : Contained} (q : v ≡ contained_value x) where
      pub property_expr : {e : Expr} → x ≡ contained e → key ≡ false → Some (expr_of norm x) ≡ as_property norm n v
      unfolding as_property contained_value
      property_expr {e} h k =
          ap (λ (y : Contained). Some (expr_of norm y)) h
          ∙ sym (ap (as_property norm n) (q ∙ ap contained_value h) ∙ ap (λ (x : Bool). pick x None (Some (expr_of norm (contained e)))) k)

      pub property_empty : x ≡ nothing_contained → None ≡ as_property norm n v
      unfolding as_property contained_value
      property_empty h = sym (ap (as_property norm n) (q ∙ ap contained_value h))

    pub property_tag : {t : Bytes} → TagHeld v t → None ≡ as_property norm n v
    unfolding as_property
    property_tag h = sym (ap (as_property norm n) h.value_is)

pub property_key : (norm : Bool) (n : AttrName) (v : P.Value) → (v ≡ P.absent → ⊥) → same (get_attr_name n norm) (ascii "key") ≡ true → None ≡ as_property norm n v
unfolding as_property
property_key norm n P.absent e h = absurd (e refl)
property_key norm n (P.string_value b) e h = rw h
property_key norm n P.empty_value e h = refl
property_key norm n (P.container_value x) e h = rw h
property_key norm n (P.tag_value t) e h = refl

-- what is held is not absent
contained_stands : (x : Contained) → contained_value x ≡ P.absent → ⊥
unfolding contained_value
contained_stands nothing_contained h = let z : ◌≡◌ {A = ℕ} 0 1 = cc in omega arith
contained_stands (contained e) h = let z : ◌≡◌ {A = ℕ} 0 1 = cc in omega arith

pub held_stands : (a : Bytes) (h : Value) → Holds a (Some h) → value_in (read a) ≡ P.absent → ⊥
held_stands a (V.String b) e z = let y : P.string_value b.now ≡ P.absent = sym e ∙ z in let x : ◌≡◌ {A = ℕ} 0 1 = cc in omega arith
held_stands a (V.Container c) e z = contained_stands (contained_in (read c.now)) (sym e.0 ∙ z)
held_stands a (V.Tag t) e z = let y : P.tag_value e.0.tag ≡ P.absent = sym e.0.value_is ∙ z in let x : ◌≡◌ {A = ℕ} 0 1 = cc in omega arith

-- ---- what is held

-- no bytes hold nothing
nothing_read : contained_in (read []) ≡ nothing_contained
unfolding contained_in
nothing_read = ap contained_in read_nil

pub held_is : (g : Gap) → contained_in (read (held g)) ≡ gap_expr (gap_case g)
held_is (G.True norm) = nothing_read
held_is (G.String norm b) = nothing_read
held_is G.Null = nothing_read
held_is (G.Attr norm c) = refl
held_is (G.Choice c) = refl

-- ---- as 000 gives it

-- no escape changes a boolean name
pub boolean_escaped : (n : Bytes) → is_boolean_attr n ≡ true → escape_html n ≡ n
unfolding is_boolean_attr boolean_names same escape_html escape_byte
boolean_escaped n h = sym (same_eq n (escape_html n) (every_at (λ (x : Bytes). same x (escape_html x)) boolean_names refl n h))

append_none : (m : Mid) → m +++ S.none ≡ m
unfolding ◌+++◌
append_none S.none = refl
append_none (node t f i r) = ap (λ (x : Mid). node t f i x) (append_none r)
append_none (S.raw t r) = ap (λ (x : Mid). S.raw t x) (append_none r)

-- an expression, with nothing behind it
kept : (t : ℕ) (n : Bytes) (m : Mid) → node t [] (node 0x81 n S.none m) S.none ≡ node t [] (node 0x81 n S.none (m +++ S.none)) S.none
kept t n m = ap (λ (x : Mid). node t [] (node 0x81 n S.none x) S.none) (sym (append_none m))

module _ (o : Options) (n : AttrName) where
  abbrev name : Bytes
  name = get_attr_name n true

  held_parts : (norm : Bool) (e : Expr) → A.attr_gap (get_attr_name n norm) (expr o e S.none) ≡ tag_parts o n (dynamic (expr_of norm (contained e)))
  unfolding gap_mid contained_mid ◌+++◌
  held_parts norm e = ap (λ (m : Mid). chars (32 ∷ []) ∷ gap (pure m) ∷ []) (kept 0x91 (get_attr_name n norm) (expr o e S.none))

  choice_parts : (e : Expr) (b : Bool) →
      pick b (chars (32 ∷ []) ∷ gap (pure (choice_node (expr o e S.none) name)) ∷ []) (A.attr_gap name (expr o e S.none))
      ≡ tag_parts o n (dynamic (pick b (choice_of (contained e)) (expr_of true (contained e))))
  unfolding gap_mid contained_mid ◌+++◌
  choice_parts e true = refl
  choice_parts e false = held_parts true e

  boolean_parts : (e : Expr) (x b : Bool) →
      pick x (pick b (chars (32 ∷ name) ∷ []) []) (pick x (chars (32 ∷ []) ∷ gap (pure (choice_node (expr o e S.none) name)) ∷ []) (A.attr_gap name (expr o e S.none)))
      ≡ tag_parts o n (pick x (pick b alone ignored) (dynamic (expr_of true (contained e))))
  boolean_parts e true true = refl
  boolean_parts e true false = refl
  boolean_parts e false b = held_parts true e

  shape_parts : (e : Expr) (s : M.Shape) → container_attr name s (expr o e S.none) ≡ tag_parts o n (shape_in_tag name e s)
  unfolding container_attr dynamic_attr shape_in_tag choice_or_attr
  shape_parts e (M.string_shape b) = refl
  shape_parts e (M.number_shape c) = refl
  shape_parts e (M.boolean_shape b) = boolean_parts e (is_boolean_attr name) b
  shape_parts e M.null_shape = choice_parts e (is_boolean_attr name)
  shape_parts e M.literal_shape = choice_parts e (is_boolean_attr name)
  shape_parts e (M.minus_shape c) = refl
  shape_parts e M.other_shape = choice_parts e (is_boolean_attr name)

  listed_parts : (v : P.Value) → listed_attr (get_attr_name n false) (value o v) ≡ tag_parts o n (dynamic (listed_in_tag v))
  unfolding listed_attr listed_in_tag value gap_mid contained_mid ◌+++◌ expr
  listed_parts P.absent = refl
  listed_parts (P.string_value b) = refl
  listed_parts P.empty_value = refl
  listed_parts (P.container_value e) = held_parts false e
  listed_parts (P.tag_value t) = refl

  plain_parts : (v : P.Value) → plain_attr name (value o v) ≡ tag_parts o n (plain_in_tag name v)
  unfolding plain_attr plain_in_tag value gap_mid contained_mid ◌+++◌
  plain_parts P.absent = on (is_boolean_attr name) refl
    where
      on : (x : Bool) → is_boolean_attr name ≡ x → pick x (chars (32 ∷ escape_html name) ∷ []) (A.attr_gap name (S.node 0x72 (1 ∷ []) S.none S.none)) ≡ tag_parts o n (pick x alone (dynamic (true_of true)))
      on true h = ap (λ (b : Bytes). chars (32 ∷ b) ∷ []) (boolean_escaped name h)
      on false h = refl
  plain_parts (P.string_value b) = on (same name (ascii "key") || same name (ascii "ref"))
    where
      on : (x : Bool) → pick x (A.attr_gap name (S.node 0x70 b S.none S.none)) (chars (A.serialize_attr name b) ∷ []) ≡ tag_parts o n (pick x (dynamic (string_of true b)) (written b))
      on true = refl
      on false = refl
  plain_parts P.empty_value = refl
  plain_parts (P.container_value e) = shape_parts e (shape_of e)
  plain_parts (P.tag_value t) = refl

  -- the parts of an attribute in an opening tag
  pub parts_are : (v : P.Value) → attr_parts o (A.attribute n (value o v)) ≡ tag_parts o n (in_tag o.skip_prop_serialize n v)
  unfolding attr_parts in_tag
  parts_are v = on (among (get_attr_name n false) o.skip_prop_serialize)
    where
      on : (b : Bool) → pick b (listed_attr (get_attr_name n false) (value o v)) (plain_attr name (value o v)) ≡ tag_parts o n (pick b (dynamic (listed_in_tag v)) (plain_in_tag name v))
      on true = listed_parts v
      on false = plain_parts v

  -- its property in a call
  pub property_is : (norm : Bool) (v : P.Value) → prop_of (get_attr_name n norm) (value o v) ≡ property_mid normalize_lit_str o n (as_property norm n v)
  unfolding prop_of as_property value gap_mid contained_mid ◌+++◌
  property_is norm P.absent = refl
  property_is norm (P.string_value b) = on (same (get_attr_name n norm) (ascii "key"))
    where
      on : (x : Bool) →
          pick x S.none (prop_node (get_attr_name n norm) (S.node 0x70 (normalize_lit_str b) S.none S.none))
          ≡ property_mid normalize_lit_str o n (pick x None (Some (string_of norm b)))
      on true = refl
      on false = refl
  property_is norm P.empty_value = refl
  property_is norm (P.container_value e) = on (same (get_attr_name n norm) (ascii "key"))
    where
      on : (x : Bool) →
          pick x S.none (prop_node (get_attr_name n norm) (expr o e S.none))
          ≡ property_mid normalize_lit_str o n (pick x None (Some (expr_of norm (contained e))))
      on true = refl
      on false = kept 0x96 (get_attr_name n norm) (expr o e S.none)
  property_is norm (P.tag_value t) = refl

-- ---- a child in braces, by the shape that was found

abbrev pub among_by : Bytes → Shape → Among
among_by c Form.Empty = joins []
among_by c Form.String = joins (body_of c)
among_by c Form.Number = joins (number_text c)
among_by c (Form.Boolean b) = joins []
among_by c Form.Null = leaves false
among_by c Form.Literal = leaves false
among_by c Form.Minus = leaves true
among_by c Form.Other = leaves true

among_seen : {c : Bytes} {x : Contained} {r : Shape} → ContainedAt c x r → as_child x ≡ among_by c r
unfolding as_child shape_as_child shape_of
among_seen is_empty = refl
among_seen is_text = refl
among_seen is_number = refl
among_seen is_boolean = refl
among_seen is_null = refl
among_seen is_literal = refl
among_seen is_minus = refl
among_seen (is_other {e} h) = ap shape_as_child h

pub container_among : (c : Bytes) → as_child (contained_in (read c)) ≡ among_by c (shape_of_contained (contained_in (read c)))
container_among c = among_seen (contained_view c)

-- ---- as 000 gives it: the text that joins is escaped, and no escape changes a number

abbrev joined_of : Among → Option Bytes
joined_of (joins t) = some (escape_html t)
joined_of (leaves z) = none

joined_is : (s : M.Shape) → joined_text s ≡ joined_of (shape_as_child s)
unfolding joined_text shape_as_child escape_html
joined_is (M.string_shape b) = refl
joined_is (M.number_shape n) = ap (λ (b : Bytes). some b) (sym (render_escaped n))
joined_is (M.boolean_shape b) = refl
joined_is M.null_shape = refl
joined_is M.literal_shape = refl
joined_is (M.minus_shape n) = refl
joined_is M.other_shape = refl

pub joins_text : (s : M.Shape) {t : Bytes} → joins t ≡ shape_as_child s → joined_text s ≡ some (escape_html t)
joins_text s q = joined_is s ∙ ap joined_of (sym q)

pub leaves_none : (s : M.Shape) {z : Bool} → leaves z ≡ shape_as_child s → joined_text s ≡ none
leaves_none s q = joined_is s ∙ ap joined_of (sym q)

-- whether it is wrapped
abbrev wraps : Among → Bool
wraps (joins t) = false
wraps (leaves z) = z

wraps_is : (s : M.Shape) (m : Mid) {z : Bool} → leaves z ≡ shape_as_child s → maybe_wrap s m ≡ pick (wraps (shape_as_child s)) (escape_node m) m
unfolding shape_as_child maybe_wrap
wraps_is (M.string_shape b) m q = let y : ◌≡◌ {A = ℕ} 0 1 = cc in absurd (omega arith)
wraps_is (M.number_shape n) m q = refl
wraps_is (M.boolean_shape b) m q = refl
wraps_is M.null_shape m q = refl
wraps_is M.literal_shape m q = refl
wraps_is (M.minus_shape n) m q = refl
wraps_is M.other_shape m q = refl

pub leaves_wraps : (s : M.Shape) (m : Mid) {z : Bool} → leaves z ≡ shape_as_child s → maybe_wrap s m ≡ pick z (escape_node m) m
leaves_wraps s m q = wraps_is s m q ∙ ap (λ (a : Among). pick (wraps a) (escape_node m) m) (sym q)

-- an empty one joins with no bytes
abbrev pub joining : Among → Bytes
joining (joins t) = t
joining (leaves z) = []

pub joins_nothing : {t : Bytes} → joins t ≡ as_child nothing_contained → escape_html t ≡ []
unfolding as_child escape_html
joins_nothing q = ap (λ (a : Among). escape_html (joining a)) q

-- a gap holds an expression
pub leaves_expr : (r : Row) {z : Bool} → leaves z ≡ as_child (contained_in r) → contained_in r ≡ contained (expr_in r)
unfolding as_child contained_in expr_in
leaves_expr end q = let y : ◌≡◌ {A = ℕ} 0 1 = cc in absurd (omega arith)
leaves_expr (loose b) q = let y : ◌≡◌ {A = ℕ} 0 1 = cc in absurd (omega arith)
leaves_expr (field t f i r) q = refl
