-- The tree that a row of fields is read as, whatever the fields: a field that has no place in a series is passed over, an expression that
-- is none is null. On the fields of a page it is the page (`read_exactly`). Assumes nothing: these are definitions.
use Rattle.std.specs.Prelude.{ℕ, Bool, true, false, ◌||◌, List, [], ◌∷◌, eqb}
use Rattle.field.specs.Bytes.{Bytes, ascii}
use Rattle.field.specs.Row.{Row, end, loose, field}
use Rattle.page.specs.Number.{is_number, is_minus, number_in}
use Rattle.names.specs.Names as A
use Rattle.names.specs.Names.{AttrName}
use Rattle.page.specs.Page.{Name, identifier, member, namespaced, Tag, element, fragment, Attributes, no_attributes, attribute, spread_attribute, Value, absent, string_value, empty_value, container_value, tag_value, Children, no_children, text_child, empty_child, container_child, tag_child, spread_child, Expr, string_literal, number_literal, boolean_literal, null_literal, other_literal, minus_literal, array_literal, other_expr, tag_expr, Items, no_items, item, spread_item, hole_item, Pieces, no_pieces, source_piece, tag_piece, ModuleItem, export_item, declaration_item, statement_item, empty_item, Page, Options}

-- one of two, the other not computed
unfoldable pub choose : {A : Type 0} → Bool → (Unit {0} → A) → (Unit {0} → A) → A
choose true f g = f tt
choose false f g = g tt

-- ---- names

-- the bodies of the fields of a series that have that tag
unfoldable pub texts_in : ℕ → Row → List Bytes
texts_in u end = []
texts_in u (loose b) = []
texts_in u (field t f i r) = choose (eqb t u) (λ _. f ∷ texts_in u r) λ _. texts_in u r

-- the first and the second of a series, empty where there is none
unfoldable pub first_in : List Bytes → Bytes
first_in [] = []
first_in (n ∷ ns) = n

unfoldable pub second_in : List Bytes → Bytes
second_in [] = []
second_in (n ∷ ns) = first_in ns

-- a name by its tag
unfoldable pub name_by : ℕ → Bytes → Row → Name
name_by t f i =
    choose (eqb t 0x40) (λ _. identifier f) λ _.
    choose (eqb t 0x41) (λ _. member (texts_in 0x40 i)) λ _.
    choose (eqb t 0x42) (λ _. namespaced (first_in (texts_in 0x40 i)) (second_in (texts_in 0x40 i))) λ _. identifier []

unfoldable pub attr_name_by : ℕ → Bytes → Row → AttrName
attr_name_by t f i =
    choose (eqb t 0x40) (λ _. A.ident f) λ _.
    choose (eqb t 0x42) (λ _. A.namespaced (first_in (texts_in 0x40 i)) (second_in (texts_in 0x40 i))) λ _. A.ident []

-- ---- expressions, attributes and children; the readings of what a field holds are given, and taken only where the tag asks for them

unfoldable pub boolean_in : Bytes → Bool
boolean_in [] = false
boolean_in (c ∷ cs) = eqb c 1

unfoldable pub expr_by : ℕ → Bytes → (Unit {0} → Items) → (Unit {0} → Pieces) → (Unit {0} → Tag) → (Unit {0} → Tag) → Expr
expr_by t f is ps el fr =
    choose (eqb t 0x70) (λ _. string_literal f) λ _.
    choose (is_number t) (λ _. number_literal (number_in t f)) λ _.
    choose (eqb t 0x72) (λ _. boolean_literal (boolean_in f)) λ _.
    choose (eqb t 0x74) (λ _. other_literal f) λ _.
    choose (is_minus t) (λ _. minus_literal (number_in t f)) λ _.
    choose (eqb t 0x76) (λ _. array_literal (is tt)) λ _.
    choose (eqb t 0x79) (λ _. other_expr (ps tt)) λ _.
    choose (eqb t 0x30) (λ _. tag_expr (el tt)) λ _.
    choose (eqb t 0x31) (λ _. tag_expr (fr tt)) λ _. null_literal

-- what an expression container holds
pub data Contained : Type 0 where
  nothing_contained : Contained
  contained : Expr → Contained

unfoldable pub contained_value : Contained → Value
contained_value nothing_contained = empty_value
contained_value (contained e) = container_value e

unfoldable pub contained_child : Contained → Children → Children
contained_child nothing_contained cs = empty_child cs
contained_child (contained e) cs = container_child e cs

unfoldable pub value_by : ℕ → Bytes → (Unit {0} → Contained) → (Unit {0} → Tag) → (Unit {0} → Tag) → Value
value_by t f co el fr =
    choose (eqb t 0x51) (λ _. string_value f) λ _.
    choose (eqb t 0x52) (λ _. contained_value (co tt)) λ _.
    choose (eqb t 0x30) (λ _. tag_value (el tt)) λ _.
    choose (eqb t 0x31) (λ _. tag_value (fr tt)) λ _. absent

-- a child in front of others, or these alone
unfoldable pub child_by : ℕ → Bytes → (Unit {0} → Contained) → (Unit {0} → Expr) → (Unit {0} → Tag) → (Unit {0} → Tag) → Children → Children
child_by t f co ex el fr cs =
    choose (eqb t 0x60) (λ _. text_child f cs) λ _.
    choose (eqb t 0x52) (λ _. contained_child (co tt) cs) λ _.
    choose (eqb t 0x30) (λ _. tag_child (el tt) cs) λ _.
    choose (eqb t 0x31) (λ _. tag_child (fr tt) cs) λ _.
    choose (eqb t 0x61) (λ _. spread_child (ex tt) cs) λ _. cs

unfoldable mutual
  -- the fields of a 30
  pub element_in : Row → Tag
  element_in end = element (identifier []) no_attributes no_children
  element_in (loose b) = element (identifier []) no_attributes no_children
  element_in (field t f i r) = element (name_by t f i) (attributes_in r) (children_in r)

  -- the fields of a 31
  pub fragment_in : Row → Tag
  fragment_in end = fragment no_children
  fragment_in (loose b) = fragment no_children
  fragment_in (field t f i r) = fragment (child_by t f (λ _. contained_in i) (λ _. expr_in i) (λ _. element_in i) (λ _. fragment_in i) (children_in r))

  -- attributes stand before children
  pub attributes_in : Row → Attributes
  attributes_in end = no_attributes
  attributes_in (loose b) = no_attributes
  attributes_in (field t f i r) =
      choose (eqb t 0x50) (λ _. attribute (attr_name_in i) (value_in i) (attributes_in r)) λ _.
      choose (eqb t 0x53) (λ _. spread_attribute (expr_in i) (attributes_in r)) λ _. no_attributes

  -- the name in front of a 50, and the value behind it
  pub attr_name_in : Row → AttrName
  attr_name_in end = A.ident []
  attr_name_in (loose b) = A.ident []
  attr_name_in (field t f i r) = attr_name_by t f i

  pub value_in : Row → Value
  value_in end = absent
  value_in (loose b) = absent
  value_in (field t f i r) = value_behind r

  pub value_behind : Row → Value
  value_behind end = absent
  value_behind (loose b) = absent
  value_behind (field t f i r) = value_by t f (λ _. contained_in i) (λ _. element_in i) (λ _. fragment_in i)

  pub children_in : Row → Children
  children_in end = no_children
  children_in (loose b) = no_children
  children_in (field t f i r) = child_by t f (λ _. contained_in i) (λ _. expr_in i) (λ _. element_in i) (λ _. fragment_in i) (children_in r)

  -- the fields of a 52
  pub contained_in : Row → Contained
  contained_in end = nothing_contained
  contained_in (loose b) = nothing_contained
  contained_in (field t f i r) = contained (expr_by t f (λ _. items_in i) (λ _. pieces_in i) (λ _. element_in i) (λ _. fragment_in i))

  pub expr_in : Row → Expr
  expr_in end = null_literal
  expr_in (loose b) = null_literal
  expr_in (field t f i r) = expr_by t f (λ _. items_in i) (λ _. pieces_in i) (λ _. element_in i) (λ _. fragment_in i)

  -- the fields of a 76
  pub items_in : Row → Items
  items_in end = no_items
  items_in (loose b) = no_items
  items_in (field t f i r) =
      choose (eqb t 0x77) (λ _. spread_item (expr_in i) (items_in r)) λ _.
      choose (eqb t 0x78) (λ _. hole_item (items_in r)) λ _.
      item (expr_by t f (λ _. items_in i) (λ _. pieces_in i) (λ _. element_in i) (λ _. fragment_in i)) (items_in r)

  -- the fields of a 79 and of an item
  pub pieces_in : Row → Pieces
  pieces_in end = no_pieces
  pieces_in (loose b) = no_pieces
  pieces_in (field t f i r) =
      choose (eqb t 0x20) (λ _. source_piece f (pieces_in r)) λ _.
      choose (eqb t 0x30) (λ _. tag_piece (element_in i) (pieces_in r)) λ _.
      choose (eqb t 0x31) (λ _. tag_piece (fragment_in i) (pieces_in r)) λ _. pieces_in r

-- ---- the page

unfoldable pub module_item_by : ℕ → Row → ModuleItem
module_item_by t i =
    choose (eqb t 0x10) (λ _. export_item (pieces_in i)) λ _.
    choose (eqb t 0x11) (λ _. declaration_item (pieces_in i)) λ _.
    choose (eqb t 0x12) (λ _. statement_item (pieces_in i)) λ _. empty_item

unfoldable pub module_items_in : Row → Page
module_items_in end = []
module_items_in (loose b) = []
module_items_in (field t f i r) = module_item_by t i ∷ module_items_in r

-- the fields of the 01 in front
unfoldable pub page_in : Row → Page
page_in end = []
page_in (loose b) = []
page_in (field t f i r) = choose (eqb t 0x01) (λ _. module_items_in i) λ _. []

-- ---- options

-- the bodies of the first field with that tag; none: nothing
unfoldable pub listed_in : ℕ → Row → List Bytes
listed_in u end = []
listed_in u (loose b) = []
listed_in u (field t f i r) = choose (eqb t u) (λ _. texts_in 0x20 i) λ _. listed_in u r

-- 01: the default source
unfoldable pub source_in : Row → Bytes
source_in end = ascii "react"
source_in (loose b) = ascii "react"
source_in (field t f i r) = choose (eqb t 0x04) (λ _. f) λ _. source_in r

-- 02, A12: sums are worked out where a 05 stands
unfoldable pub works_sums : Row → Bool
works_sums end = false
works_sums (loose b) = false
works_sums (field t f i r) = eqb t 0x05 || works_sums r

unfoldable pub options_in : Row → Options
options_in r = record { skip_serialize = listed_in 0x02 r; skip_prop_serialize = listed_in 0x03 r; import_source = source_in r }
