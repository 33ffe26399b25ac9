-- The worked page keeps the page's limits, its length apart: a number stands where the 79 stood, no deeper, and is in range. Main statement:
-- `worked_ok`. Assumes nothing.
use Prim.Native.Nat.{ℕ, suc}
use mathlib.Core.List.{[], ◌∷◌}
use lib.Dec.{le→leb}
use Rattle.page.specs.Number.{in_range}
use Rattle.page.specs.Page.{Tag, element, fragment, Attributes, no_attributes, attribute, spread_attribute, Value, absent, string_value, empty_value, container_value, tag_value, Children, no_children, text_child, empty_child, container_child, tag_child, spread_child, Expr, string_literal, number_literal, boolean_literal, null_literal, other_literal, minus_literal, array_literal, other_expr, tag_expr, Items, no_items, item, spread_item, hole_item, Pieces, no_pieces, source_piece, tag_piece, export_item, declaration_item, statement_item, empty_item, Page}
use Rattle.page.specs.Limits.{Deep, TagOk, AttributesOk, ValueOk, ChildrenOk, ExprOk, ItemsOk, PiecesOk, ModuleItemsOk}
use Rattle.sums.proofs.Proper.{Proper}
use Rattle.sums.specs.Value.{Worked}
use Rattle.sums.specs.declared.value.Sum.TheVariants.{Plus, Minus}
use Rattle.std.specs.Prelude.{Some, None}
use Rattle.worked.specs.Worked.{pieces_sum, literal_or, worked_tag, worked_attributes, worked_value, worked_children, worked_expr, worked_items, worked_pieces, worked_item, worked}
use Rattle.worked.proofs.Tree.{pieces_proper}

literal_ok : (w : Worked) (e : Expr) (d : ℕ) → Proper w → Deep d → ExprOk e d → ExprOk (literal_or w e) d
unfolding literal_or ExprOk Proper in_range
literal_ok None e d p g h = h
literal_ok (Some (Plus n)) e d p g h = (g, le→leb n 9_007_199_254_740_991 p)
literal_ok (Some (Minus n)) e d p g h = (g, le→leb n 9_007_199_254_740_991 p.1)

mutual
  unfolding TagOk worked_tag

  tag_ok : (t : Tag) (d : ℕ) → TagOk t d → TagOk (worked_tag t) d
  tag_ok (element n bs cs) d h = (h.0, h.1, attributes_ok bs (suc d) h.2, children_ok cs (suc d) h.3)
  tag_ok (fragment cs) d h = (h.0, children_ok cs (suc d) h.1)

  attributes_ok : (bs : Attributes) (d : ℕ) → AttributesOk bs d → AttributesOk (worked_attributes bs) d
  attributes_ok no_attributes d h = tt
  attributes_ok (attribute n v bs) d h = (h.0, h.1, value_ok v (suc d) h.2, attributes_ok bs d h.3)
  attributes_ok (spread_attribute e bs) d h = (h.0, expr_ok e (suc d) h.1, attributes_ok bs d h.2)

  value_ok : (v : Value) (d : ℕ) → ValueOk v d → ValueOk (worked_value v) d
  value_ok absent d h = h
  value_ok (string_value b) d h = h
  value_ok empty_value d h = h
  value_ok (container_value e) d h = (h.0, expr_ok e (suc d) h.1)
  value_ok (tag_value t) d h = tag_ok t d h

  children_ok : (cs : Children) (d : ℕ) → ChildrenOk cs d → ChildrenOk (worked_children cs) d
  children_ok no_children d h = h
  children_ok (text_child b cs) d h = (h.0, h.1, children_ok cs d h.2)
  children_ok (empty_child cs) d h = (h.0, children_ok cs d h.1)
  children_ok (container_child e cs) d h = (h.0, expr_ok e (suc d) h.1, children_ok cs d h.2)
  children_ok (tag_child t cs) d h = (tag_ok t d h.0, children_ok cs d h.1)
  children_ok (spread_child e cs) d h = (h.0, expr_ok e (suc d) h.1, children_ok cs d h.2)

  expr_ok : (e : Expr) (d : ℕ) → ExprOk e d → ExprOk (worked_expr e) d
  expr_ok (string_literal b) d h = h
  expr_ok (number_literal n) d h = h
  expr_ok (boolean_literal b) d h = h
  expr_ok null_literal d h = h
  expr_ok (other_literal b) d h = h
  expr_ok (minus_literal n) d h = h
  expr_ok (array_literal is) d h = (h.0, items_ok is (suc d) h.1)
  expr_ok (other_expr ps) d h = literal_ok (pieces_sum ps) (other_expr (worked_pieces ps)) d (pieces_proper ps) h.0 (h.0, pieces_ok ps (suc d) h.1)
  expr_ok (tag_expr t) d h = tag_ok t d h

  items_ok : (is : Items) (d : ℕ) → ItemsOk is d → ItemsOk (worked_items is) d
  items_ok no_items d h = h
  items_ok (item e is) d h = (expr_ok e d h.0, items_ok is d h.1)
  items_ok (spread_item e is) d h = (h.0, expr_ok e (suc d) h.1, items_ok is d h.2)
  items_ok (hole_item is) d h = (h.0, items_ok is d h.1)

  pieces_ok : (ps : Pieces) (d : ℕ) → PiecesOk ps d → PiecesOk (worked_pieces ps) d
  pieces_ok no_pieces d h = h
  pieces_ok (source_piece s ps) d h = (h.0, h.1, pieces_ok ps d h.2)
  pieces_ok (tag_piece t ps) d h = (tag_ok t d h.0, pieces_ok ps d h.1)

pub worked_ok : (p : Page) → ModuleItemsOk p → ModuleItemsOk (worked p)
unfolding ModuleItemsOk worked worked_item
worked_ok [] h = h
worked_ok (export_item ps ∷ is) h = (pieces_ok ps 3 h.0, worked_ok is h.1)
worked_ok (declaration_item ps ∷ is) h = (pieces_ok ps 3 h.0, worked_ok is h.1)
worked_ok (statement_item ps ∷ is) h = (pieces_ok ps 3 h.0, worked_ok is h.1)
worked_ok (empty_item ∷ is) h = worked_ok is h
