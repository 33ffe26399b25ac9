-- The bytes that are written of a page that is accepted are the worked page's own. Main statements: `page_row_worked`, `accepted_worked`.
-- Assumes nothing.
use mathlib.Core.Path.{◌≡◌, refl, sym, ◌∙◌, ap, ap₂}
use mathlib.Core.List.{[], ◌∷◌}
use Rattle.field.specs.Bytes.{Bytes, AllBytes}
use Rattle.field.specs.Row.{Row, end, field, bytes, read}
use Rattle.field.proofs.RowLaws.{read_sane}
use Rattle.names.specs.Names as A
use Rattle.names.specs.Names.{AttrName}
use Rattle.page.specs.Number.{Number, whole, scaled, number_tag, minus_tag}
use Rattle.page.specs.Page.{Name, identifier, member, namespaced, Tag, element, fragment, Attributes, no_attributes, attribute, spread_attribute, Value, absent, string_value, empty_value, container_value, tag_value, Children, no_children, text_child, empty_child, container_child, tag_child, spread_child, Expr, string_literal, number_literal, boolean_literal, null_literal, other_literal, minus_literal, array_literal, other_expr, tag_expr, Items, no_items, item, spread_item, hole_item, Pieces, no_pieces, source_piece, tag_piece, export_item, declaration_item, statement_item, empty_item, Page}
use Rattle.page.specs.Tree.{choose, pieces_in, page_in}
use Rattle.page.specs.Encode.{name_row, attr_name_row, tag_row, attributes_row, value_row, children_row, expr_row, items_row, pieces_row, module_items_row, page_row, encode}
use Rattle.page.specs.Check.{check_page}
use Rattle.refusal.specs.Refusal.{Fine}
use Rattle.page.proofs.Sound.{page_sound}
use Rattle.sums.specs.Value.{Worked}
use Rattle.sums.specs.declared.value.Sum.TheVariants.{Plus, Minus}
use Rattle.std.specs.Prelude.{Some, None}
use Rattle.worked.specs.Worked.{pieces_sum, literal_or, worked_tag, worked_attributes, worked_value, worked_children, worked_expr, worked_items, worked_pieces, worked_item, worked}
use Rattle.worked.specs.Row.{holds, field_sum, number_or, worked_row, worked_bytes}

-- ---- names hold no expression

name_kept : (n : Name) (r : Row) → worked_row (name_row n r) ≡ name_row n (worked_row r)
unfolding worked_row number_or field_sum choose holds name_row
name_kept (identifier n) r = refl
name_kept (member ns) r = refl
name_kept (namespaced n m) r = refl

attr_name_kept : (n : AttrName) (r : Row) → worked_row (attr_name_row n r) ≡ attr_name_row n (worked_row r)
unfolding worked_row number_or field_sum choose holds attr_name_row
attr_name_kept (A.ident n) r = refl
attr_name_kept (A.namespaced n m) r = refl

-- ---- numbers, by how they are held

number_kept : (n : Number) (r : Row) → worked_row (expr_row (number_literal n) r) ≡ expr_row (number_literal n) (worked_row r)
unfolding worked_row number_or field_sum choose holds expr_row number_tag
number_kept (whole n) r = refl
number_kept (scaled n p) r = refl

minus_kept : (n : Number) (r : Row) → worked_row (expr_row (minus_literal n) r) ≡ expr_row (minus_literal n) (worked_row r)
unfolding worked_row number_or field_sum choose holds expr_row minus_tag
minus_kept (whole n) r = refl
minus_kept (scaled n p) r = refl

-- ---- what a 79 comes to, on its fields and on its pieces

tag_behind : (b : Bytes) (t : Tag) (r : Row) → pieces_sum (pieces_in (field 0x20 b end (tag_row t r))) ≡ None
unfolding pieces_sum pieces_in choose tag_row
tag_behind b (element n bs cs) r = refl
tag_behind b (fragment cs) r = refl

tag_first : (t : Tag) (r : Row) → pieces_sum (pieces_in (tag_row t r)) ≡ None
unfolding pieces_sum pieces_in choose tag_row
tag_first (element n bs cs) r = refl
tag_first (fragment cs) r = refl

sum_kept : (ps : Pieces) → pieces_sum (pieces_in (pieces_row ps)) ≡ pieces_sum ps
unfolding pieces_sum pieces_in choose pieces_row
sum_kept no_pieces = refl
sum_kept (source_piece b no_pieces) = refl
sum_kept (source_piece b (source_piece c ps)) = refl
sum_kept (source_piece b (tag_piece t ps)) = tag_behind b t (pieces_row ps)
sum_kept (tag_piece t ps) = tag_first t (pieces_row ps)

other_row : (w : Worked) (ps : Pieces) (j r : Row) → j ≡ pieces_row (worked_pieces ps) → number_or w 0x79 [] j r ≡ expr_row (literal_or w (other_expr (worked_pieces ps))) r
unfolding number_or literal_or expr_row number_tag minus_tag
other_row None ps j r e = ap (λ (x : Row). field 0x79 [] x r) e
other_row (Some (Plus n)) ps j r e = refl
other_row (Some (Minus n)) ps j r e = refl

-- ---- every tree

mutual
  unfolding worked_row number_or field_sum choose holds tag_row attributes_row value_row children_row expr_row items_row pieces_row worked_tag worked_attributes worked_value worked_children worked_expr worked_items worked_pieces

  tag_kept : (t : Tag) (r : Row) → worked_row (tag_row t r) ≡ tag_row (worked_tag t) (worked_row r)
  tag_kept (element n bs cs) r =
      ap (λ (x : Row). field 0x30 [] x (worked_row r))
      (name_kept n (attributes_row bs (children_row cs)) ∙ ap (name_row n) (attributes_kept bs (children_row cs) ∙ ap (attributes_row (worked_attributes bs)) (children_kept cs)))
  tag_kept (fragment cs) r = ap (λ (x : Row). field 0x31 [] x (worked_row r)) (children_kept cs)

  attributes_kept : (bs : Attributes) (r : Row) → worked_row (attributes_row bs r) ≡ attributes_row (worked_attributes bs) (worked_row r)
  attributes_kept no_attributes r = refl
  attributes_kept (attribute n v bs) r =
      ap₂ (λ (x y : Row). field 0x50 [] x y) (attr_name_kept n (value_row v) ∙ ap (attr_name_row n) (value_kept v)) (attributes_kept bs r)
  attributes_kept (spread_attribute e bs) r = ap₂ (λ (x y : Row). field 0x53 [] x y) (expr_kept e end) (attributes_kept bs r)

  value_kept : (v : Value) → worked_row (value_row v) ≡ value_row (worked_value v)
  value_kept absent = refl
  value_kept (string_value b) = refl
  value_kept empty_value = refl
  value_kept (container_value e) = ap (λ (x : Row). field 0x52 [] x end) (expr_kept e end)
  value_kept (tag_value t) = tag_kept t end

  children_kept : (cs : Children) → worked_row (children_row cs) ≡ children_row (worked_children cs)
  children_kept no_children = refl
  children_kept (text_child b cs) = ap (λ (x : Row). field 0x60 b end x) (children_kept cs)
  children_kept (empty_child cs) = ap (λ (x : Row). field 0x52 [] end x) (children_kept cs)
  children_kept (container_child e cs) = ap₂ (λ (x y : Row). field 0x52 [] x y) (expr_kept e end) (children_kept cs)
  children_kept (tag_child t cs) = tag_kept t (children_row cs) ∙ ap (tag_row (worked_tag t)) (children_kept cs)
  children_kept (spread_child e cs) = ap₂ (λ (x y : Row). field 0x61 [] x y) (expr_kept e end) (children_kept cs)

  expr_kept : (e : Expr) (r : Row) → worked_row (expr_row e r) ≡ expr_row (worked_expr e) (worked_row r)
  expr_kept (string_literal b) r = refl
  expr_kept (number_literal n) r = number_kept n r
  expr_kept (boolean_literal b) r = refl
  expr_kept null_literal r = refl
  expr_kept (other_literal b) r = refl
  expr_kept (minus_literal n) r = minus_kept n r
  expr_kept (array_literal is) r = ap (λ (x : Row). field 0x76 [] x (worked_row r)) (items_kept is)
  expr_kept (other_expr ps) r =
      ap (λ (w : Worked). number_or w 0x79 [] (worked_row (pieces_row ps)) (worked_row r)) (sum_kept ps) ∙ other_row (pieces_sum ps) ps (worked_row (pieces_row ps)) (worked_row r) (pieces_kept ps)
  expr_kept (tag_expr t) r = tag_kept t r

  items_kept : (is : Items) → worked_row (items_row is) ≡ items_row (worked_items is)
  items_kept no_items = refl
  items_kept (item e is) = expr_kept e (items_row is) ∙ ap (expr_row (worked_expr e)) (items_kept is)
  items_kept (spread_item e is) = ap₂ (λ (x y : Row). field 0x77 [] x y) (expr_kept e end) (items_kept is)
  items_kept (hole_item is) = ap (λ (x : Row). field 0x78 [] end x) (items_kept is)

  pieces_kept : (ps : Pieces) → worked_row (pieces_row ps) ≡ pieces_row (worked_pieces ps)
  pieces_kept no_pieces = refl
  pieces_kept (source_piece b ps) = ap (λ (x : Row). field 0x20 b end x) (pieces_kept ps)
  pieces_kept (tag_piece t ps) = tag_kept t (pieces_row ps) ∙ ap (tag_row (worked_tag t)) (pieces_kept ps)

-- ---- the page

modules_kept : (p : Page) → worked_row (module_items_row p) ≡ module_items_row (worked p)
unfolding worked_row number_or field_sum choose holds module_items_row worked worked_item
modules_kept [] = refl
modules_kept (export_item ps ∷ is) = ap₂ (λ (x y : Row). field 0x10 [] x y) (pieces_kept ps) (modules_kept is)
modules_kept (declaration_item ps ∷ is) = ap₂ (λ (x y : Row). field 0x11 [] x y) (pieces_kept ps) (modules_kept is)
modules_kept (statement_item ps ∷ is) = ap₂ (λ (x y : Row). field 0x12 [] x y) (pieces_kept ps) (modules_kept is)
modules_kept (empty_item ∷ is) = ap (λ (x : Row). field 0x13 [] end x) (modules_kept is)

pub page_row_worked : (p : Page) → worked_row (page_row p) ≡ page_row (worked p)
unfolding worked_row number_or field_sum choose holds page_row
page_row_worked p = ap (λ (x : Row). field 0x01 [] x end) (modules_kept p)

-- of an accepted page what is written is the encoding of the worked page
pub accepted_worked : (b : Bytes) → AllBytes b → check_page (read b) ≡ Fine → worked_bytes b ≡ encode (worked (page_in (read b)))
unfolding worked_bytes encode
accepted_worked b a h =
    let p : Page = page_in (read b) in
    let e : page_row p ≡ read b = (page_sound (read b) (read_sane b a) h).0 in
    ap (λ (x : Row). bytes (worked_row x)) (sym e) ∙ ap bytes (page_row_worked p)
