-- The words of acceptance: where a 31 stands in a page, and which numbers may follow the reading. Assumes nothing: these are definitions.
use Rattle.std.specs.Prelude.{Bool, true, false, ◌||◌, [], ◌∷◌}
use Rattle.page.specs.Page.{Tag, element, fragment, Attributes, no_attributes, attribute, spread_attribute, Value, absent, string_value, empty_value, container_value, tag_value, Children, no_children, text_child, empty_child, container_child, tag_child, spread_child, Expr, string_literal, number_literal, boolean_literal, null_literal, other_literal, minus_literal, array_literal, other_expr, tag_expr, Items, no_items, item, spread_item, hole_item, Pieces, no_pieces, source_piece, tag_piece, export_item, declaration_item, statement_item, empty_item, Page}

unfoldable mutual
  -- a 31, at any depth
  pub tag_has_fragment : Tag → Bool
  tag_has_fragment (element n as' cs) = attributes_have_fragment as' || children_have_fragment cs
  tag_has_fragment (fragment cs) = true

  pub attributes_have_fragment : Attributes → Bool
  attributes_have_fragment no_attributes = false
  attributes_have_fragment (attribute n v as') = value_has_fragment v || attributes_have_fragment as'
  attributes_have_fragment (spread_attribute e as') = expr_has_fragment e || attributes_have_fragment as'

  pub value_has_fragment : Value → Bool
  value_has_fragment absent = false
  value_has_fragment (string_value b) = false
  value_has_fragment empty_value = false
  value_has_fragment (container_value e) = expr_has_fragment e
  value_has_fragment (tag_value t) = tag_has_fragment t

  pub children_have_fragment : Children → Bool
  children_have_fragment no_children = false
  children_have_fragment (text_child b cs) = children_have_fragment cs
  children_have_fragment (empty_child cs) = children_have_fragment cs
  children_have_fragment (container_child e cs) = expr_has_fragment e || children_have_fragment cs
  children_have_fragment (tag_child t cs) = tag_has_fragment t || children_have_fragment cs
  children_have_fragment (spread_child e cs) = expr_has_fragment e || children_have_fragment cs

  pub expr_has_fragment : Expr → Bool
  expr_has_fragment (string_literal b) = false
  expr_has_fragment (number_literal n) = false
  expr_has_fragment (boolean_literal b) = false
  expr_has_fragment null_literal = false
  expr_has_fragment (other_literal b) = false
  expr_has_fragment (minus_literal n) = false
  expr_has_fragment (array_literal is) = items_have_fragment is
  expr_has_fragment (other_expr ps) = pieces_have_fragment ps
  expr_has_fragment (tag_expr t) = tag_has_fragment t

  pub items_have_fragment : Items → Bool
  items_have_fragment no_items = false
  items_have_fragment (item e is) = expr_has_fragment e || items_have_fragment is
  items_have_fragment (spread_item e is) = expr_has_fragment e || items_have_fragment is
  items_have_fragment (hole_item is) = items_have_fragment is

  pub pieces_have_fragment : Pieces → Bool
  pieces_have_fragment no_pieces = false
  pieces_have_fragment (source_piece b ps) = pieces_have_fragment ps
  pieces_have_fragment (tag_piece t ps) = tag_has_fragment t || pieces_have_fragment ps

unfoldable pub has_fragment : Page → Bool
has_fragment [] = false
has_fragment (export_item ps ∷ is) = pieces_have_fragment ps || has_fragment is
has_fragment (declaration_item ps ∷ is) = pieces_have_fragment ps || has_fragment is
has_fragment (statement_item ps ∷ is) = pieces_have_fragment ps || has_fragment is
has_fragment (empty_item ∷ is) = has_fragment is
