-- Every 30 and 31 of a page has a header of three bytes: no more tags than a third of the page's bytes, so that two bytes hold every number.
-- Main statement: `weight_within`. Assumes nothing.
use Prim.Native.Nat.{◌+◌, ◌*◌, ◌≤◌}
use mathlib.Core.List.{[], ◌∷◌}
use native.Mathlib.Omega.{arith}
use lib.ListN.{length}
use Rattle.field.specs.Row.{Row, end, bytes}
use Rattle.field.proofs.RowLaws.{length_bytes}
use Rattle.names.specs.Names as A
use Rattle.names.specs.Names.{AttrName}
use Rattle.page.specs.Number.{number_tag, minus_tag, number_bytes}
use Rattle.page.specs.Page.{Name, identifier, member, namespaced, Tag, element, fragment, Attributes, no_attributes, attribute, spread_attribute, Value, absent, string_value, empty_value, container_value, tag_value, Children, no_children, text_child, empty_child, container_child, tag_child, spread_child, Expr, string_literal, number_literal, boolean_literal, null_literal, other_literal, minus_literal, array_literal, other_expr, tag_expr, Items, no_items, item, spread_item, hole_item, Pieces, no_pieces, source_piece, tag_piece, export_item, declaration_item, statement_item, empty_item, Page}
use Rattle.page.specs.Encode.{boolean_byte, texts_row, name_row, attr_name_row, tag_row, attributes_row, value_row, children_row, expr_row, items_row, pieces_row, module_items_row, page_row, encode}
use Rattle.spec.proofs.Weight.{tag_weight, attributes_weight, value_weight, children_weight, expr_weight, items_weight, pieces_weight, page_weight}

-- a name takes nothing away
name_within : (n : Name) (r : Row) → length (bytes r) ≤ length (bytes (name_row n r))
unfolding name_row
name_within (identifier n) r = omega (arith, length_bytes 0x40 n end r)
name_within (member ns) r = omega (arith, length_bytes 0x41 [] (texts_row 0x40 ns) r)
name_within (namespaced n m) r = omega (arith, length_bytes 0x42 [] (texts_row 0x40 (n ∷ m ∷ [])) r)

attr_name_within : (n : AttrName) (r : Row) → length (bytes r) ≤ length (bytes (attr_name_row n r))
unfolding attr_name_row
attr_name_within (A.ident n) r = omega (arith, length_bytes 0x40 n end r)
attr_name_within (A.namespaced n m) r = omega (arith, length_bytes 0x42 [] (texts_row 0x40 (n ∷ m ∷ [])) r)

mutual
  unfolding tag_row tag_weight

  tag_within : (t : Tag) (r : Row) → tag_weight t * 3 + length (bytes r) ≤ length (bytes (tag_row t r))
  tag_within (element n as' cs) r =
      omega (arith, length_bytes 0x30 [] (name_row n (attributes_row as' (children_row cs))) r, name_within n (attributes_row as' (children_row cs)), attributes_within as' (children_row cs), children_within cs)
  tag_within (fragment cs) r = omega (arith, length_bytes 0x31 [] (children_row cs) r, children_within cs)

  attributes_within : (as' : Attributes) (r : Row) → attributes_weight as' * 3 + length (bytes r) ≤ length (bytes (attributes_row as' r))
  attributes_within no_attributes r = omega arith
  attributes_within (attribute n v as') r = omega (arith, length_bytes 0x50 [] (attr_name_row n (value_row v)) (attributes_row as' r), attr_name_within n (value_row v), value_within v, attributes_within as' r)
  attributes_within (spread_attribute e as') r = omega (arith, length_bytes 0x53 [] (expr_row e end) (attributes_row as' r), expr_within e end, attributes_within as' r)

  value_within : (v : Value) → value_weight v * 3 ≤ length (bytes (value_row v))
  value_within absent = omega arith
  value_within (string_value b) = omega arith
  value_within empty_value = omega arith
  value_within (container_value e) = omega (arith, length_bytes 0x52 [] (expr_row e end) end, expr_within e end)
  value_within (tag_value t) = omega (arith, tag_within t end)

  children_within : (cs : Children) → children_weight cs * 3 ≤ length (bytes (children_row cs))
  children_within no_children = omega arith
  children_within (text_child b cs) = omega (arith, length_bytes 0x60 b end (children_row cs), children_within cs)
  children_within (empty_child cs) = omega (arith, length_bytes 0x52 [] end (children_row cs), children_within cs)
  children_within (container_child e cs) = omega (arith, length_bytes 0x52 [] (expr_row e end) (children_row cs), expr_within e end, children_within cs)
  children_within (tag_child t cs) = omega (arith, tag_within t (children_row cs), children_within cs)
  children_within (spread_child e cs) = omega (arith, length_bytes 0x61 [] (expr_row e end) (children_row cs), children_within cs)

  expr_within : (e : Expr) (r : Row) → expr_weight e * 3 + length (bytes r) ≤ length (bytes (expr_row e r))
  expr_within (string_literal b) r = omega (arith, length_bytes 0x70 b end r)
  expr_within (number_literal n) r = omega (arith, length_bytes (number_tag n) (number_bytes n) end r)
  expr_within (boolean_literal b) r = omega (arith, length_bytes 0x72 (boolean_byte b ∷ []) end r)
  expr_within null_literal r = omega (arith, length_bytes 0x73 [] end r)
  expr_within (other_literal b) r = omega (arith, length_bytes 0x74 b end r)
  expr_within (minus_literal n) r = omega (arith, length_bytes (minus_tag n) (number_bytes n) end r)
  expr_within (array_literal is) r = omega (arith, length_bytes 0x76 [] (items_row is) r, items_within is)
  expr_within (other_expr ps) r = omega (arith, length_bytes 0x79 [] (pieces_row ps) r, pieces_within ps)
  expr_within (tag_expr t) r = tag_within t r

  items_within : (is : Items) → items_weight is * 3 ≤ length (bytes (items_row is))
  items_within no_items = omega arith
  items_within (item e is) = omega (arith, expr_within e (items_row is), items_within is)
  items_within (spread_item e is) = omega (arith, length_bytes 0x77 [] (expr_row e end) (items_row is), expr_within e end, items_within is)
  items_within (hole_item is) = omega (arith, length_bytes 0x78 [] end (items_row is), items_within is)

  pieces_within : (ps : Pieces) → pieces_weight ps * 3 ≤ length (bytes (pieces_row ps))
  pieces_within no_pieces = omega arith
  pieces_within (source_piece b ps) = omega (arith, length_bytes 0x20 b end (pieces_row ps), pieces_within ps)
  pieces_within (tag_piece t ps) = omega (arith, tag_within t (pieces_row ps), pieces_within ps)

items_all_within : (is : Page) → page_weight is * 3 ≤ length (bytes (module_items_row is))
unfolding module_items_row page_weight
items_all_within [] = omega arith
items_all_within (export_item ps ∷ is) = omega (arith, length_bytes 0x10 [] (pieces_row ps) (module_items_row is), pieces_within ps, items_all_within is)
items_all_within (declaration_item ps ∷ is) = omega (arith, length_bytes 0x11 [] (pieces_row ps) (module_items_row is), pieces_within ps, items_all_within is)
items_all_within (statement_item ps ∷ is) = omega (arith, length_bytes 0x12 [] (pieces_row ps) (module_items_row is), pieces_within ps, items_all_within is)
items_all_within (empty_item ∷ is) = omega (arith, length_bytes 0x13 [] end (module_items_row is), items_all_within is)

pub weight_within : (p : Page) → page_weight p * 3 ≤ length (encode p)
unfolding encode page_row
weight_within p = omega (arith, length_bytes 0x01 [] (module_items_row p) end, items_all_within p)
