-- 02, A12: a page with its sums worked out, wherever they stand. Assumes nothing: these are definitions.
use Rattle.std.specs.Prelude.{[], ◌∷◌}
use Rattle.page.specs.Number.{whole}
use Rattle.page.specs.Page.{Tag, element, fragment, Attributes, no_attributes, attribute, spread_attribute, Value, absent, string_value, empty_value, container_value, tag_value, Children, no_children, text_child, empty_child, container_child, tag_child, spread_child, Expr, string_literal, number_literal, boolean_literal, null_literal, other_literal, minus_literal, array_literal, other_expr, tag_expr, Items, no_items, item, spread_item, hole_item, Pieces, no_pieces, source_piece, tag_piece, ModuleItem, export_item, declaration_item, statement_item, empty_item, Page}
use Rattle.sums.specs.Machine.{sum_of}
use Rattle.sums.specs.Value.{Worked}
use Rattle.sums.specs.declared.value.Sum.TheVariants.{Plus, Minus}
use Rattle.std.specs.Prelude.{Some, None}

-- what a 79 comes to: only one source piece, and nothing beside it, is asked about
unfoldable pub pieces_sum : Pieces → Worked
pieces_sum no_pieces = None
pieces_sum (source_piece s no_pieces) = sum_of s
pieces_sum (source_piece s (source_piece u ps)) = None
pieces_sum (source_piece s (tag_piece t ps)) = None
pieces_sum (tag_piece t ps) = None

-- it becomes 71, or 75 when negative; or it stays
unfoldable pub literal_or : Worked → Expr → Expr
literal_or None e = e
literal_or (Some (Plus n)) e = number_literal (whole n)
literal_or (Some (Minus n)) e = minus_literal (whole n)

unfoldable mutual
  pub worked_tag : Tag → Tag
  worked_tag (element n bs cs) = element n (worked_attributes bs) (worked_children cs)
  worked_tag (fragment cs) = fragment (worked_children cs)

  pub worked_attributes : Attributes → Attributes
  worked_attributes no_attributes = no_attributes
  worked_attributes (attribute n v bs) = attribute n (worked_value v) (worked_attributes bs)
  worked_attributes (spread_attribute e bs) = spread_attribute (worked_expr e) (worked_attributes bs)

  pub worked_value : Value → Value
  worked_value absent = absent
  worked_value (string_value b) = string_value b
  worked_value empty_value = empty_value
  worked_value (container_value e) = container_value (worked_expr e)
  worked_value (tag_value t) = tag_value (worked_tag t)

  pub worked_children : Children → Children
  worked_children no_children = no_children
  worked_children (text_child b cs) = text_child b (worked_children cs)
  worked_children (empty_child cs) = empty_child (worked_children cs)
  worked_children (container_child e cs) = container_child (worked_expr e) (worked_children cs)
  worked_children (tag_child t cs) = tag_child (worked_tag t) (worked_children cs)
  worked_children (spread_child e cs) = spread_child (worked_expr e) (worked_children cs)

  pub worked_expr : Expr → Expr
  worked_expr (string_literal b) = string_literal b
  worked_expr (number_literal n) = number_literal n
  worked_expr (boolean_literal b) = boolean_literal b
  worked_expr null_literal = null_literal
  worked_expr (other_literal b) = other_literal b
  worked_expr (minus_literal n) = minus_literal n
  worked_expr (array_literal is) = array_literal (worked_items is)
  worked_expr (other_expr ps) = literal_or (pieces_sum ps) (other_expr (worked_pieces ps))
  worked_expr (tag_expr t) = tag_expr (worked_tag t)

  pub worked_items : Items → Items
  worked_items no_items = no_items
  worked_items (item e is) = item (worked_expr e) (worked_items is)
  worked_items (spread_item e is) = spread_item (worked_expr e) (worked_items is)
  worked_items (hole_item is) = hole_item (worked_items is)

  -- source between tags, in an item too, is no sum
  pub worked_pieces : Pieces → Pieces
  worked_pieces no_pieces = no_pieces
  worked_pieces (source_piece s ps) = source_piece s (worked_pieces ps)
  worked_pieces (tag_piece t ps) = tag_piece (worked_tag t) (worked_pieces ps)

unfoldable pub worked_item : ModuleItem → ModuleItem
worked_item (export_item ps) = export_item (worked_pieces ps)
worked_item (declaration_item ps) = declaration_item (worked_pieces ps)
worked_item (statement_item ps) = statement_item (worked_pieces ps)
worked_item empty_item = empty_item

unfoldable pub worked : Page → Page
worked [] = []
worked (i ∷ is) = worked_item i ∷ worked is
