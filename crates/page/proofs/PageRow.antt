-- The row of a page: no loose bytes, fronts as the tags want them, and nothing but bytes, so that it is read back from its bytes.
-- Main statements: `page_shaped`, `page_sane`, `given_shaped`, `given_sane`, `short_row`.
-- Assumes nothing.
use mathlib.Core.Bool.{Bool, true, false, ◌||◌, not}
use Rattle.std.specs.Prelude.{Option, Some, None}
use Prim.Native.Nat.{ℕ, suc, ◌≤◌, ◌<◌}
use native.Mathlib.Omega.{arith}
use mathlib.Core.List.{List, [], ◌∷◌, ◌++◌}
use lib.Dec.{T, ltb, ltb→lt}
use lib.ListN.{length, length-append}
use Rattle.field.specs.Bytes.{Bytes, AllBytes}
use Rattle.field.specs.Row.{Row, end, loose, field, bytes, long_body, inside}
use Rattle.field.proofs.RowLaws.{FrontFits, Shaped, Sane, length_bytes}
use Rattle.names.specs.Names as A
use Rattle.names.specs.Names.{AttrName}
use Rattle.page.specs.Number.{whole, scaled, number_tag, minus_tag}
use Rattle.page.specs.Page.{Name, identifier, member, namespaced, Tag, element, fragment, Attributes, no_attributes, attribute, spread_attribute, Value, absent, string_value, empty_value, container_value, tag_value, Children, no_children, text_child, empty_child, container_child, tag_child, spread_child, Expr, string_literal, number_literal, boolean_literal, null_literal, other_literal, minus_literal, array_literal, other_expr, tag_expr, Items, no_items, item, spread_item, hole_item, Pieces, no_pieces, source_piece, tag_piece, export_item, declaration_item, statement_item, empty_item, Page}
use Rattle.page.specs.Check.{is_name, no_hyphen}
use Rattle.page.specs.Encode.{boolean_byte, texts_row, name_row, attr_name_row, tag_row, attributes_row, value_row, children_row, expr_row, items_row, pieces_row, module_items_row, page_row}
use Rattle.page.specs.Limits.{MembersOk, ElementNameOk, AttrNameOk, TagOk, AttributesOk, ValueOk, ChildrenOk, ExprOk, ItemsOk, PiecesOk, ModuleItemsOk, TextsOk}
use Rattle.page.proofs.NumberLaws.{number_all}
use Rattle.page.proofs.Booleans.{and_both}
use Rattle.page.proofs.Letters.{utf8_bytes, name_bytes}
use Rattle.page.proofs.TightRows.{Tight, tight_shaped, tight_sane, short_field}
use Rattle.page.proofs.Bodies.{boolean_all, texts_tight, members_tight}
use Rattle.page.specs.Given.{Given, given_list, given_sums, given_source, given_row, ListOk, SourceOk, GivenOk}

-- ---- names

name_tight : (n : Name) (d : ℕ) (r : Row) → ElementNameOk d n → Tight inside r → Tight inside (name_row n r)
unfolding name_row texts_row ElementNameOk Tight inside FrontFits AllBytes
name_tight (identifier n) d r h k = (tt, name_bytes n h.1, tt, tt, k)
name_tight (member ns) d r h k = (tt, tt, tt, members_tight ns (suc d) h.3, k)
name_tight (namespaced n m) d r h k = (tt, tt, tt, (tt, name_bytes n h.2, tt, tt, (tt, name_bytes m h.3, tt, tt, tt)), k)

attr_name_tight : (n : AttrName) (d : ℕ) (r : Row) → AttrNameOk d n → Tight inside r → Tight inside (attr_name_row n r)
unfolding attr_name_row texts_row AttrNameOk Tight inside FrontFits AllBytes
attr_name_tight (A.ident n) d r h k = (tt, name_bytes n h.1, tt, tt, k)
attr_name_tight (A.namespaced n m) d r h k = (tt, tt, tt, (tt, name_bytes n h.2, tt, tt, (tt, name_bytes m h.3, tt, tt, tt)), k)

-- ---- tags, expressions and their series

mutual
  unfolding tag_row TagOk Tight inside FrontFits AllBytes number_tag minus_tag

  tag_tight : (t : Tag) (d : ℕ) (r : Row) → TagOk t d → Tight inside r → Tight inside (tag_row t r)
  tag_tight (element n as' cs) d r h k =
      (tt, tt, tt, name_tight n (suc d) (attributes_row as' (children_row cs)) h.1 (attributes_tight as' (suc d) (children_row cs) h.2 (children_tight cs (suc d) h.3)), k)
  tag_tight (fragment cs) d r h k = (tt, tt, tt, children_tight cs (suc d) h.1, k)

  attributes_tight : (as' : Attributes) (d : ℕ) (r : Row) → AttributesOk as' d → Tight inside r → Tight inside (attributes_row as' r)
  attributes_tight no_attributes d r h k = k
  attributes_tight (attribute n v as') d r h k = (tt, tt, tt, attr_name_tight n (suc d) (value_row v) h.1 (value_tight v (suc d) h.2), attributes_tight as' d r h.3 k)
  attributes_tight (spread_attribute e as') d r h k = (tt, tt, tt, expr_tight e (suc d) end h.1 tt, attributes_tight as' d r h.2 k)

  value_tight : (v : Value) (d : ℕ) → ValueOk v d → Tight inside (value_row v)
  value_tight absent d h = tt
  value_tight (string_value b) d h = (tt, utf8_bytes b h.1, tt, tt, tt)
  value_tight empty_value d h = (tt, tt, tt, tt, tt)
  value_tight (container_value e) d h = (tt, tt, tt, expr_tight e (suc d) end h.1 tt, tt)
  value_tight (tag_value t) d h = tag_tight t d end h tt

  children_tight : (cs : Children) (d : ℕ) → ChildrenOk cs d → Tight inside (children_row cs)
  children_tight no_children d h = tt
  children_tight (text_child b cs) d h = (tt, utf8_bytes b h.1, tt, tt, children_tight cs d h.2)
  children_tight (empty_child cs) d h = (tt, tt, tt, tt, children_tight cs d h.1)
  children_tight (container_child e cs) d h = (tt, tt, tt, expr_tight e (suc d) end h.1 tt, children_tight cs d h.2)
  children_tight (tag_child t cs) d h = tag_tight t d (children_row cs) h.0 (children_tight cs d h.1)
  children_tight (spread_child e cs) d h = (tt, tt, tt, expr_tight e (suc d) end h.1 tt, children_tight cs d h.2)

  expr_tight : (e : Expr) (d : ℕ) (r : Row) → ExprOk e d → Tight inside r → Tight inside (expr_row e r)
  expr_tight (string_literal b) d r h k = (tt, utf8_bytes b h.1, tt, tt, k)
  expr_tight (number_literal (whole n)) d r h k = (tt, number_all (whole n), tt, tt, k)
  expr_tight (number_literal (scaled n p)) d r h k = (tt, number_all (scaled n p), tt, tt, k)
  expr_tight (boolean_literal b) d r h k = (tt, boolean_all b, tt, tt, k)
  expr_tight null_literal d r h k = (tt, tt, tt, tt, k)
  expr_tight (other_literal b) d r h k = (tt, utf8_bytes b h.1, tt, tt, k)
  expr_tight (minus_literal (whole n)) d r h k = (tt, number_all (whole n), tt, tt, k)
  expr_tight (minus_literal (scaled n p)) d r h k = (tt, number_all (scaled n p), tt, tt, k)
  expr_tight (array_literal is) d r h k = (tt, tt, tt, items_tight is (suc d) h.1, k)
  expr_tight (other_expr ps) d r h k = (tt, tt, tt, pieces_tight ps (suc d) h.1, k)
  expr_tight (tag_expr t) d r h k = tag_tight t d r h k

  items_tight : (is : Items) (d : ℕ) → ItemsOk is d → Tight inside (items_row is)
  items_tight no_items d h = tt
  items_tight (item e is) d h = expr_tight e d (items_row is) h.0 (items_tight is d h.1)
  items_tight (spread_item e is) d h = (tt, tt, tt, expr_tight e (suc d) end h.1 tt, items_tight is d h.2)
  items_tight (hole_item is) d h = (tt, tt, tt, tt, items_tight is d h.1)

  pieces_tight : (ps : Pieces) (d : ℕ) → PiecesOk ps d → Tight inside (pieces_row ps)
  pieces_tight no_pieces d h = tt
  pieces_tight (source_piece b ps) d h = (tt, utf8_bytes b h.1, tt, tt, pieces_tight ps d h.2)
  pieces_tight (tag_piece t ps) d h = tag_tight t d (pieces_row ps) h.0 (pieces_tight ps d h.1)

-- ---- the page and its options

module_items_tight : (is : Page) → ModuleItemsOk is → Tight inside (module_items_row is)
unfolding module_items_row ModuleItemsOk Tight inside FrontFits AllBytes
module_items_tight [] h = tt
module_items_tight (export_item ps ∷ is) h = (tt, tt, tt, pieces_tight ps 3 h.0, module_items_tight is h.1)
module_items_tight (declaration_item ps ∷ is) h = (tt, tt, tt, pieces_tight ps 3 h.0, module_items_tight is h.1)
module_items_tight (statement_item ps ∷ is) h = (tt, tt, tt, pieces_tight ps 3 h.0, module_items_tight is h.1)
module_items_tight (empty_item ∷ is) h = (tt, tt, tt, tt, module_items_tight is h)

page_tight : (p : Page) → ModuleItemsOk p → Tight inside (page_row p)
unfolding page_row Tight inside FrontFits AllBytes
page_tight p h = (tt, tt, tt, module_items_tight p h, tt)

pub page_shaped : (p : Page) → ModuleItemsOk p → Shaped (page_row p)
page_shaped p h = unfold Shaped in tight_shaped inside (page_row p) (page_tight p h)

pub page_sane : (p : Page) → ModuleItemsOk p → Sane (page_row p)
page_sane p h = unfold Sane in tight_sane inside (page_row p) (page_tight p h)

list_tight : (t : ℕ) (a : Option (List Bytes)) (r : Row) → ((i : Row) → FrontFits (inside t) [] i) → T (ltb t 256) → ListOk a → Tight inside r → Tight inside (given_list t a r)
unfolding given_list ListOk Tight AllBytes
list_tight t None r f l h k = k
list_tight t (Some xs) r f l h k = (f (texts_row 0x20 xs), tt, l, texts_tight 0x20 (λ x. unfold FrontFits inside in tt) tt xs h, k)

sums_tight : (w : Bool) → Tight inside (given_sums w)
unfolding given_sums Tight inside FrontFits AllBytes
sums_tight false = tt
sums_tight true = (tt, tt, tt, tt, tt)

source_tight : (c : Option Bytes) (w : Bool) → SourceOk c → Tight inside (given_source c (given_sums w))
unfolding given_source SourceOk Tight inside FrontFits
source_tight None w h = sums_tight w
source_tight (Some b) w h = (tt, utf8_bytes b h.0, tt, tt, sums_tight w)

given_tight : (g : Given) → GivenOk g → Tight inside (given_row g)
unfolding given_row GivenOk inside FrontFits
given_tight g h =
    let r : Row = given_source g.source (given_sums g.sums) in
    list_tight 0x02 g.elements (given_list 0x03 g.attributes r) (λ i. tt) tt h.0 (list_tight 0x03 g.attributes r (λ i. tt) tt h.1 (source_tight g.source g.sums h.2))

pub given_shaped : (g : Given) → GivenOk g → Shaped (given_row g)
given_shaped g h = unfold Shaped in tight_shaped inside (given_row g) (given_tight g h)

pub given_sane : (g : Given) → GivenOk g → Sane (given_row g)
given_sane g h = unfold Sane in tight_sane inside (given_row g) (given_tight g h)

-- ---- lengths

-- a row of at most 65,535 bytes has no longer body
pub short_row : (x : Row) → length (bytes x) ≤ 65535 → T (not (long_body x))
unfolding long_body
short_row end h = tt
short_row (loose b) h = tt
short_row (field t f i r) h =
    let z = length_bytes t f i r in
    let m = length-append f (bytes i) in
    short_field t f i r (omega arith) (short_row i (omega arith)) (short_row r (omega arith))
