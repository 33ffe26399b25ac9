-- A page and its options as rows of fields and as bytes: the writer's side of 01's format. Assumes nothing: these are definitions.
use Rattle.std.specs.Prelude.{ℕ, Bool, true, false, List, [], ◌∷◌}
use Rattle.field.specs.Bytes.{Bytes}
use Rattle.field.specs.Row.{Row, end, field, bytes}
use Rattle.page.specs.Number.{number_tag, minus_tag, number_bytes}
use Rattle.names.specs.Names as A
use Rattle.names.specs.Names.{AttrName}
use Rattle.page.specs.Page.{Name, identifier, member, namespaced, Tag, element, fragment, Attributes, no_attributes, attribute, spread_attribute, Value, absent, string_value, empty_value, container_value, tag_value, Children, no_children, text_child, empty_child, container_child, tag_child, spread_child, Expr, string_literal, number_literal, boolean_literal, null_literal, other_literal, minus_literal, array_literal, other_expr, tag_expr, Items, no_items, item, spread_item, hole_item, Pieces, no_pieces, source_piece, tag_piece, export_item, declaration_item, statement_item, empty_item, Page, Options}

abbrev pub boolean_byte : Bool → ℕ
boolean_byte true = 1
boolean_byte false = 0

-- a series of texts or names, each under that tag
unfoldable pub texts_row : ℕ → List Bytes → Row
texts_row t [] = end
texts_row t (x ∷ xs) = field t x end (texts_row t xs)

unfoldable pub name_row : Name → Row → Row
name_row (identifier n) r = field 0x40 n end r
name_row (member ns) r = field 0x41 [] (texts_row 0x40 ns) r
name_row (namespaced n m) r = field 0x42 [] (texts_row 0x40 (n ∷ m ∷ [])) r

unfoldable pub attr_name_row : AttrName → Row → Row
attr_name_row (A.ident n) r = field 0x40 n end r
attr_name_row (A.namespaced n m) r = field 0x42 [] (texts_row 0x40 (n ∷ m ∷ [])) r

unfoldable mutual
  pub tag_row : Tag → Row → Row
  tag_row (element n as' cs) r = field 0x30 [] (name_row n (attributes_row as' (children_row cs))) r
  tag_row (fragment cs) r = field 0x31 [] (children_row cs) r

  pub attributes_row : Attributes → Row → Row
  attributes_row no_attributes r = r
  attributes_row (attribute n v as') r = field 0x50 [] (attr_name_row n (value_row v)) (attributes_row as' r)
  attributes_row (spread_attribute e as') r = field 0x53 [] (expr_row e end) (attributes_row as' r)

  pub value_row : Value → Row
  value_row absent = end
  value_row (string_value b) = field 0x51 b end end
  value_row empty_value = field 0x52 [] end end
  value_row (container_value e) = field 0x52 [] (expr_row e end) end
  value_row (tag_value t) = tag_row t end

  pub children_row : Children → Row
  children_row no_children = end
  children_row (text_child b cs) = field 0x60 b end (children_row cs)
  children_row (empty_child cs) = field 0x52 [] end (children_row cs)
  children_row (container_child e cs) = field 0x52 [] (expr_row e end) (children_row cs)
  children_row (tag_child t cs) = tag_row t (children_row cs)
  children_row (spread_child e cs) = field 0x61 [] (expr_row e end) (children_row cs)

  pub expr_row : Expr → Row → Row
  expr_row (string_literal b) r = field 0x70 b end r
  expr_row (number_literal n) r = field (number_tag n) (number_bytes n) end r
  expr_row (boolean_literal b) r = field 0x72 (boolean_byte b ∷ []) end r
  expr_row null_literal r = field 0x73 [] end r
  expr_row (other_literal b) r = field 0x74 b end r
  expr_row (minus_literal n) r = field (minus_tag n) (number_bytes n) end r
  expr_row (array_literal is) r = field 0x76 [] (items_row is) r
  expr_row (other_expr ps) r = field 0x79 [] (pieces_row ps) r
  expr_row (tag_expr t) r = tag_row t r

  pub items_row : Items → Row
  items_row no_items = end
  items_row (item e is) = expr_row e (items_row is)
  items_row (spread_item e is) = field 0x77 [] (expr_row e end) (items_row is)
  items_row (hole_item is) = field 0x78 [] end (items_row is)

  pub pieces_row : Pieces → Row
  pieces_row no_pieces = end
  pieces_row (source_piece b ps) = field 0x20 b end (pieces_row ps)
  pieces_row (tag_piece t ps) = tag_row t (pieces_row ps)

unfoldable pub module_items_row : Page → Row
module_items_row [] = end
module_items_row (export_item ps ∷ is) = field 0x10 [] (pieces_row ps) (module_items_row is)
module_items_row (declaration_item ps ∷ is) = field 0x11 [] (pieces_row ps) (module_items_row is)
module_items_row (statement_item ps ∷ is) = field 0x12 [] (pieces_row ps) (module_items_row is)
module_items_row (empty_item ∷ is) = field 0x13 [] end (module_items_row is)

unfoldable pub page_row : Page → Row
page_row p = field 0x01 [] (module_items_row p) end

unfoldable pub encode : Page → Bytes
encode p = bytes (page_row p)

-- ---- options: an empty list is left out, the source always written

unfoldable pub list_row : ℕ → List Bytes → Row → Row
list_row t [] r = r
list_row t (x ∷ xs) r = field t [] (texts_row 0x20 (x ∷ xs)) r

unfoldable pub options_row : Options → Row
options_row o = list_row 0x02 o.skip_serialize (list_row 0x03 o.skip_prop_serialize (field 0x04 o.import_source end end))

unfoldable pub encode_options : Options → Bytes
encode_options o = bytes (options_row o)
