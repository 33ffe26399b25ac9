-- What flags say grows by what is read. Main statements: `every_attributes_more`, `every_children_more`, `shallow_attributes_more`,
-- `shallow_children_more`. Assumes nothing.
use Prim.Native.Nat.{ℕ, suc}
use mathlib.Core.Path.{◌≡◌, refl, sym, ◌∙◌, ap}
use mathlib.Core.Bool.{Bool, true, false, ◌&&◌}
use mathlib.Core.List.{[]}
use lib.Dec.{leb}
use Rattle.field.specs.Bytes.{Bytes}
use Rattle.field.specs.Row.{Row, end, field}
use Rattle.page.specs.Page as P
use Rattle.page.specs.Encode.{attr_name_row, tag_row, attributes_row, value_row, children_row, expr_row, name_row}
use Rattle.grammar.specs.Known.{Known}
use Rattle.grammar.specs.Syntax as S
use Rattle.grammar.specs.Syntax.{Name, every_tag, every_attributes, every_attribute, every_children, every_child, join_attributes, join_children}
use Rattle.tag_tree.specs.PageTag.{page_attr_name, page_tag, page_attributes, page_attribute, page_children, page_child, page_expr}
use Rattle.tag_tree.specs.TagAnswer.{shallow}

pub and_assoc : (a b c : Bool) → ((a && b) && c) ≡ (a && (b && c))
and_assoc true b c = refl
and_assoc false b c = refl

pub and_true : (a : Bool) → (a && true) ≡ a
and_true true = refl
and_true false = refl

-- ---- tests of what was read
module _ (f : Name → Name → Bool) (g : Known → Bool) where
  pub every_attributes_more : (ps : S.Attributes) (a : S.Attribute) → every_attributes (S.add_attribute ps a) f g ≡ (every_attributes ps f g && every_attribute a f g)
  unfolding join_attributes every_tag
  every_attributes_more S.no_attributes a = and_true (every_attribute a f g)
  every_attributes_more (S.attribute b ps) a =
      ap (λ (z : Bool). every_attribute b f g && z) (every_attributes_more ps a) ∙ sym (and_assoc (every_attribute b f g) (every_attributes ps f g) (every_attribute a f g))

  pub every_children_more : (ks : S.Children) (k : S.Child) → every_children (S.add_child ks k) f g ≡ (every_children ks f g && every_child k f g)
  unfolding join_children every_tag
  every_children_more S.no_children k = and_true (every_child k f g)
  every_children_more (S.child j ks) k =
      ap (λ (z : Bool). every_child j f g && z) (every_children_more ks k) ∙ sym (and_assoc (every_child j f g) (every_children ks f g) (every_child k f g))

-- ---- a measure of rows that goes by fields and joins what they give

record Measure : Type 0 where
  of : Row → Bool
  join : Bool → Bool → Bool
  none : Bool
  at_end : of end ≡ none
  assoc : (a b c : Bool) → join (join a b) c ≡ join a (join b c)
  right : (a : Bool) → join a none ≡ a
  left : (a : Bool) → join none a ≡ a
  one : (t : ℕ) (w : Bytes) (i r : Row) → of (field t w i r) ≡ join (of (field t w i end)) (of r)

module _ (m : Measure) where
  tag_then : (t : P.Tag) (x : Row) → m.of (tag_row t x) ≡ m.join (m.of (tag_row t end)) (m.of x)
  unfolding tag_row
  tag_then (P.element n as' cs) x = m.one 0x30 [] (name_row n (attributes_row as' (children_row cs))) x
  tag_then (P.fragment cs) x = m.one 0x31 [] (children_row cs) x

  attribute_then : (a : S.Attribute) (as' : P.Attributes) → m.of (attributes_row (page_attribute a as') end) ≡ m.join (m.of (attributes_row (page_attribute a P.no_attributes) end)) (m.of (attributes_row as' end))
  unfolding page_tag tag_row
  attribute_then (S.no_value n) as' = m.one 0x50 [] (attr_name_row (page_attr_name n) end) (attributes_row as' end)
  attribute_then (S.string_value n w) as' = m.one 0x50 [] (attr_name_row (page_attr_name n) (value_row (P.string_value w))) (attributes_row as' end)
  attribute_then (S.container_value n b) as' = m.one 0x50 [] (attr_name_row (page_attr_name n) (value_row (P.container_value (page_expr b)))) (attributes_row as' end)
  attribute_then (S.tag_value n t) as' = m.one 0x50 [] (attr_name_row (page_attr_name n) (value_row (P.tag_value (page_tag t)))) (attributes_row as' end)
  attribute_then (S.spread_attribute b) as' = m.one 0x53 [] (expr_row (page_expr b) end) (attributes_row as' end)

  attributes_then : (ps : S.Attributes) (a : S.Attribute) → m.of (attributes_row (page_attributes (S.add_attribute ps a)) end) ≡ m.join (m.of (attributes_row (page_attributes ps) end)) (m.of (attributes_row (page_attribute a P.no_attributes) end))
  unfolding join_attributes page_tag
  attributes_then S.no_attributes a =
      sym (m.left (m.of (attributes_row (page_attribute a P.no_attributes) end))) ∙
      ap (λ (z : Bool). m.join z (m.of (attributes_row (page_attribute a P.no_attributes) end))) (unfold tag_row in sym m.at_end)
  attributes_then (S.attribute b ps) a =
      attribute_then b (page_attributes (join_attributes ps (S.attribute a S.no_attributes))) ∙
      ap (m.join (m.of (attributes_row (page_attribute b P.no_attributes) end))) (attributes_then ps a) ∙
      sym (m.assoc (m.of (attributes_row (page_attribute b P.no_attributes) end)) (m.of (attributes_row (page_attributes ps) end)) (m.of (attributes_row (page_attribute a P.no_attributes) end))) ∙
      ap (λ (z : Bool). m.join z (m.of (attributes_row (page_attribute a P.no_attributes) end))) (sym (attribute_then b (page_attributes ps)))

  child_then : (k : S.Child) (cs : P.Children) → m.of (children_row (page_child k cs)) ≡ m.join (m.of (children_row (page_child k P.no_children))) (m.of (children_row cs))
  unfolding page_tag tag_row
  child_then (S.text_child w) cs = m.one 0x60 w end (children_row cs)
  child_then (S.tag_child t) cs = tag_then (page_tag t) (children_row cs)
  child_then S.empty_child cs = m.one 0x52 [] end (children_row cs)
  child_then (S.container_child b) cs = m.one 0x52 [] (expr_row (page_expr b) end) (children_row cs)
  child_then (S.spread_child b) cs = m.one 0x61 [] (expr_row (page_expr b) end) (children_row cs)

  children_then : (ks : S.Children) (k : S.Child) → m.of (children_row (page_children (S.add_child ks k))) ≡ m.join (m.of (children_row (page_children ks))) (m.of (children_row (page_child k P.no_children)))
  unfolding join_children page_tag
  children_then S.no_children k =
      sym (m.left (m.of (children_row (page_child k P.no_children)))) ∙
      ap (λ (z : Bool). m.join z (m.of (children_row (page_child k P.no_children)))) (unfold tag_row in sym m.at_end)
  children_then (S.child j ks) k =
      child_then j (page_children (join_children ks (S.child k S.no_children))) ∙
      ap (m.join (m.of (children_row (page_child j P.no_children)))) (children_then ks k) ∙
      sym (m.assoc (m.of (children_row (page_child j P.no_children))) (m.of (children_row (page_children ks))) (m.of (children_row (page_child k P.no_children)))) ∙
      ap (λ (z : Bool). m.join z (m.of (children_row (page_child k P.no_children)))) (sym (child_then j (page_children ks)))

-- depth, where the row stands at d
shallow_at : ℕ → Measure
unfolding shallow
shallow_at d =
    record {
      of = shallow d;
      join = ◌&&◌;
      none = true;
      at_end = refl;
      assoc = and_assoc;
      right = and_true;
      left = λ a. refl;
      one = λ t w i r. sym (ap (λ (z : Bool). (leb d 48 && z) && shallow d r) (and_true (shallow (suc d) i)) ∙ and_assoc (leb d 48) (shallow (suc d) i) (shallow d r));
    }

pub shallow_attributes_more : (d : ℕ) (ps : S.Attributes) (a : S.Attribute) → shallow d (attributes_row (page_attributes (S.add_attribute ps a)) end) ≡ (shallow d (attributes_row (page_attributes ps) end) && shallow d (attributes_row (page_attribute a P.no_attributes) end))
unfolding shallow_at
shallow_attributes_more d = attributes_then (shallow_at d)

pub shallow_children_more : (d : ℕ) (ks : S.Children) (k : S.Child) → shallow d (children_row (page_children (S.add_child ks k))) ≡ (shallow d (children_row (page_children ks)) && shallow d (children_row (page_child k P.no_children)))
unfolding shallow_at
shallow_children_more d = children_then (shallow_at d)
