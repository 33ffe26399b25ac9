-- How many 30s and 31s stand in a page, those in spread children apart, which no accepted page visits: as many numbers may be taken.
-- Assumes nothing.
use Prim.Native.Nat.{ℕ, suc, ◌+◌}
use mathlib.Core.List.{[], ◌∷◌}
use Rattle.page.specs.Page.{Tag, element, fragment, Attributes, no_attributes, attribute, spread_attribute, Value, absent, string_value, empty_value, container_value, tag_value, Children, no_children, text_child, empty_child, container_child, tag_child, spread_child, Expr, string_literal, number_literal, boolean_literal, null_literal, other_literal, minus_literal, array_literal, other_expr, tag_expr, Items, no_items, item, spread_item, hole_item, Pieces, no_pieces, source_piece, tag_piece, export_item, declaration_item, statement_item, empty_item, Page}

unfoldable mutual
  pub tag_weight : Tag → ℕ
  tag_weight (element n as' cs) = suc (attributes_weight as' + children_weight cs)
  tag_weight (fragment cs) = suc (children_weight cs)

  pub attributes_weight : Attributes → ℕ
  attributes_weight no_attributes = 0
  attributes_weight (attribute n v as') = value_weight v + attributes_weight as'
  attributes_weight (spread_attribute e as') = expr_weight e + attributes_weight as'

  pub value_weight : Value → ℕ
  value_weight absent = 0
  value_weight (string_value b) = 0
  value_weight empty_value = 0
  value_weight (container_value e) = expr_weight e
  value_weight (tag_value t) = tag_weight t

  pub children_weight : Children → ℕ
  children_weight no_children = 0
  children_weight (text_child b cs) = children_weight cs
  children_weight (empty_child cs) = children_weight cs
  children_weight (container_child e cs) = expr_weight e + children_weight cs
  children_weight (tag_child t cs) = tag_weight t + children_weight cs
  children_weight (spread_child e cs) = children_weight cs

  pub expr_weight : Expr → ℕ
  expr_weight (string_literal b) = 0
  expr_weight (number_literal n) = 0
  expr_weight (boolean_literal b) = 0
  expr_weight null_literal = 0
  expr_weight (other_literal b) = 0
  expr_weight (minus_literal n) = 0
  expr_weight (array_literal is) = items_weight is
  expr_weight (other_expr ps) = pieces_weight ps
  expr_weight (tag_expr t) = tag_weight t

  pub items_weight : Items → ℕ
  items_weight no_items = 0
  items_weight (item e is) = expr_weight e + items_weight is
  items_weight (spread_item e is) = expr_weight e + items_weight is
  items_weight (hole_item is) = items_weight is

  pub pieces_weight : Pieces → ℕ
  pieces_weight no_pieces = 0
  pieces_weight (source_piece b ps) = pieces_weight ps
  pieces_weight (tag_piece t ps) = tag_weight t + pieces_weight ps

unfoldable pub page_weight : Page → ℕ
page_weight [] = 0
page_weight (export_item ps ∷ is) = pieces_weight ps + page_weight is
page_weight (declaration_item ps ∷ is) = pieces_weight ps + page_weight is
page_weight (statement_item ps ∷ is) = pieces_weight ps + page_weight is
page_weight (empty_item ∷ is) = page_weight is
