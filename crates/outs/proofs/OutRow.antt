-- The row of a proper page out: no loose bytes, fronts as the tags want them, and nothing but bytes, so that it is read back from its bytes.
-- Main statements: `page_out_shaped`, `page_out_sane`. Assumes nothing.
use mathlib.Core.Bool.{Bool, true, false, ◌&&◌}
use Prim.Native.Nat.{ℕ, ◌≤◌, ◌<◌}
use native.Mathlib.Omega.{arith}
use mathlib.Core.List.{List, [], ◌∷◌}
use lib.Dec.{T, ltb, leb, ltb→lt, leb→le}
use lib.ListN.{length, length-append}
use Rattle.std.specs.Prelude.{Option, Some, None}
use Rattle.field.specs.Bytes.{Bytes, AllBytes, pick}
use Rattle.field.specs.Number.{big_endian}
use Rattle.field.specs.Row.{Row, end, loose, field, field_bytes, bytes, long_body, inside}
use Rattle.field.proofs.NumberLaws.{length_big_endian, all_big_endian, all_append}
use Rattle.field.proofs.Reading.{FrontFits, ShapedBy, SaneBy, front_full, all_field_bytes}
use Rattle.field.proofs.RowLaws.{Shaped, Sane, sane_bytes}
use Rattle.page.specs.Number.{whole, scaled, number_tag, minus_tag}
use Rattle.page.specs.Check.{is_name, no_hyphen, name_start, name_parts}
use Rattle.page.specs.Encode.{boolean_byte, texts_row}
use Rattle.page.proofs.Letters.{utf8_bytes, name_bytes}
use Rattle.page.proofs.TightRows.{Tight, tight_shaped, tight_sane}
use Rattle.page.proofs.Bodies.{boolean_all, members_sane}
use Rattle.page.proofs.NumberLaws.{number_all}
use Rattle.page.proofs.Booleans.{and_both}
use Rattle.outs.specs.Held.{held}
use Rattle.outs.specs.Tree.{Callee, tag_name, identifier, member, Expr, string_literal, number_literal, boolean_literal, null_literal, other_literal, minus_literal, array_literal, other_expr, template_call, attr_call, escape_call, boolean_choice, jsx_call, Exprs, no_exprs, expr, Elements, no_elements, element, spread_element, hole, Pieces, no_pieces, source_piece, expr_piece, Props, null_props, object, Properties, no_properties, property, spread_property, Key, no_key, key, Item, export_item, declaration_item, statement_item, empty_item, Import, PageOut, PartsOk, CalleeOk, ExprOk, ExprsOk, ElementsOk, PiecesOk, PropsOk, PropertiesOk, KeyOk, ItemOk, ItemsOk, ImportOk, ProperPageOut}
use Rattle.outs.specs.Encode.{Sayable, callee_row, expr_row, exprs_row, elements_row, pieces_row, props_row, properties_row, key_row, item_row, items_row, is_statement, items_have_statement, before_statement, placed_row, import_bytes, import_row, page_out_row}
use Rattle.outs.proofs.Parts.{members_of}

-- ---- what stands in a body

callee_tight : (c : Callee) (w : ℕ) (r : Row) → CalleeOk c → Tight (held w) r → Tight (held w) (callee_row c r)
unfolding callee_row CalleeOk Tight held FrontFits
callee_tight (tag_name b) w r h k = (tt, utf8_bytes b h, tt, tt, k)
callee_tight (identifier n) w r h k = (tt, name_bytes n h, tt, tt, k)
callee_tight (member ns) w r h k = (tt, sane_bytes (texts_row 0x40 ns) (members_sane ns 1 (members_of ns h.2)), tt, tt, k)

-- the number in front of a call's dynamic expressions
call_fits : (w n : ℕ) (i : Row) → FrontFits (held w 0x90) (big_endian w n []) i
unfolding held
call_fits w n i = front_full w (big_endian w n []) i (omega (arith, length_big_endian w n []))

mutual
  unfolding expr_row ExprOk Tight held FrontFits AllBytes number_tag minus_tag

  expr_tight : (e : Expr) (w : ℕ) (r : Row) → ExprOk e w → Tight (held w) r → Tight (held w) (expr_row e w r)
  expr_tight (string_literal b) w r h k = (tt, utf8_bytes b h, tt, tt, k)
  expr_tight (number_literal (whole n)) w r h k = (tt, number_all (whole n), tt, tt, k)
  expr_tight (number_literal (scaled n p)) w r h k = (tt, number_all (scaled n p), tt, tt, k)
  expr_tight (boolean_literal b) w r h k = (tt, boolean_all b, tt, tt, k)
  expr_tight null_literal w r h k = (tt, tt, tt, tt, k)
  expr_tight (other_literal b) w r h k = (tt, utf8_bytes b h, tt, tt, k)
  expr_tight (minus_literal (whole n)) w r h k = (tt, number_all (whole n), tt, tt, k)
  expr_tight (minus_literal (scaled n p)) w r h k = (tt, number_all (scaled n p), tt, tt, k)
  expr_tight (array_literal es) w r h k = (tt, tt, tt, elements_tight es w h, k)
  expr_tight (other_expr ps) w r h k = (tt, tt, tt, pieces_tight ps w h, k)
  expr_tight (template_call n es) w r h k = (call_fits w n (exprs_row es w), all_big_endian w n [] tt, tt, exprs_tight es w h.1, k)
  expr_tight (attr_call b e) w r h k = (tt, tt, tt, (tt, utf8_bytes b h.0, tt, tt, expr_tight e w end h.1 tt), k)
  expr_tight (escape_call e) w r h k = (tt, tt, tt, expr_tight e w end h tt, k)
  expr_tight (boolean_choice e b) w r h k = (tt, tt, tt, expr_tight e w (field 0x81 b end end) h.0 (tt, utf8_bytes b h.1, tt, tt, tt), k)
  expr_tight (jsx_call c ps q) w r h k = (tt, tt, tt, callee_tight c w (props_row ps w (key_row q w)) h.0 (props_tight ps w (key_row q w) h.1 (key_tight q w h.2)), k)

  exprs_tight : (es : Exprs) (w : ℕ) → ExprsOk es w → Tight (held w) (exprs_row es w)
  exprs_tight no_exprs w h = tt
  exprs_tight (expr e es) w h = expr_tight e w (exprs_row es w) h.0 (exprs_tight es w h.1)

  elements_tight : (es : Elements) (w : ℕ) → ElementsOk es w → Tight (held w) (elements_row es w)
  elements_tight no_elements w h = tt
  elements_tight (element e es) w h = expr_tight e w (elements_row es w) h.0 (elements_tight es w h.1)
  elements_tight (spread_element e es) w h = (tt, tt, tt, expr_tight e w end h.0 tt, elements_tight es w h.1)
  elements_tight (hole es) w h = (tt, tt, tt, tt, elements_tight es w h)

  pieces_tight : (ps : Pieces) (w : ℕ) → PiecesOk ps w → Tight (held w) (pieces_row ps w)
  pieces_tight no_pieces w h = tt
  pieces_tight (source_piece b ps) w h = (tt, utf8_bytes b h.0, tt, tt, pieces_tight ps w h.1)
  pieces_tight (expr_piece e ps) w h = expr_tight e w (pieces_row ps w) h.0 (pieces_tight ps w h.1)

  props_tight : (ps : Props) (w : ℕ) (r : Row) → PropsOk ps w → Tight (held w) r → Tight (held w) (props_row ps w r)
  props_tight null_props w r h k = (tt, tt, tt, tt, k)
  props_tight (object ps) w r h k = (tt, tt, tt, properties_tight ps w h, k)

  properties_tight : (ps : Properties) (w : ℕ) → PropertiesOk ps w → Tight (held w) (properties_row ps w)
  properties_tight no_properties w h = tt
  properties_tight (property b e ps) w h = (tt, tt, tt, (tt, utf8_bytes b h.0, tt, tt, expr_tight e w end h.1 tt), properties_tight ps w h.2)
  properties_tight (spread_property e ps) w h = (tt, tt, tt, expr_tight e w end h.0 tt, properties_tight ps w h.1)

  key_tight : (q : Key) (w : ℕ) → KeyOk q w → Tight (held w) (key_row q w)
  key_tight no_key w h = tt
  key_tight (key e) w h = expr_tight e w end h tt

-- ---- items, and what stands before them

item_tight : (x : Item) (w : ℕ) (r : Row) → ItemOk x w → Tight (held w) r → Tight (held w) (item_row x w r)
unfolding item_row ItemOk Tight held FrontFits AllBytes
item_tight (export_item ps) w r h k = (tt, tt, tt, pieces_tight ps w h, k)
item_tight (declaration_item ps) w r h k = (tt, tt, tt, pieces_tight ps w h, k)
item_tight (statement_item ps) w r h k = (tt, tt, tt, pieces_tight ps w h, k)
item_tight empty_item w r h k = (tt, tt, tt, tt, k)

items_tight : (is : List Item) (w : ℕ) → ItemsOk is w → Tight (held w) (items_row is w)
unfolding items_row ItemsOk Tight
items_tight [] w h = tt
items_tight (x ∷ is) w h = item_tight x w (items_row is w) h.0 (items_tight is w h.1)

place_tight : (w : ℕ) (r : Row) → Tight (held w) r → Tight (held w) (field 0x83 [] end r)
unfolding Tight held FrontFits AllBytes
place_tight w r k = (tt, tt, tt, tt, k)

picked : (w : ℕ) (b : Bool) (x y : Row) → Tight (held w) x → Tight (held w) y → Tight (held w) (pick b x y)
picked w true x y h k = h
picked w false x y h k = k

before_tight : (is : List Item) (w : ℕ) → ItemsOk is w → Tight (held w) (before_statement is w)
unfolding before_statement ItemsOk
before_tight [] w h = unfold Tight in tt
before_tight (x ∷ is) w h =
    picked w (is_statement x) (field 0x83 [] end (item_row x w (items_row is w))) (item_row x w (before_statement is w))
    (place_tight w (item_row x w (items_row is w)) (item_tight x w (items_row is w) h.0 (items_tight is w h.1))) (item_tight x w (before_statement is w) h.0 (before_tight is w h.1))

placed_tight : (b : Bool) (is : List Item) (w : ℕ) → ItemsOk is w → Tight (held w) (placed_row b is w)
unfolding placed_row
placed_tight false is w h = items_tight is w h
placed_tight true is w h = picked w (items_have_statement is) (before_statement is w) (field 0x83 [] end (items_row is w)) (before_tight is w h) (place_tight w (items_row is w) (items_tight is w h))

import_all : (m : Import) → ImportOk (Some m) → AllBytes (import_bytes m)
unfolding ImportOk
import_all m h =
    let z : 0x81 < 256 = omega arith in
    let s : m.sum < 256 = omega (arith, h.2) in
    all_append (field_bytes 0x81 m.source) (m.sum ∷ []) (all_field_bytes 0x81 m.source z (utf8_bytes m.source h.0)) (unfold AllBytes in (s, tt))

import_tight : (m : Option Import) (w : ℕ) (r : Row) → ImportOk m → Tight (held w) r → Tight (held w) (import_row m r)
unfolding import_row Tight held FrontFits
import_tight None w r h k = k
import_tight (Some m) w r h k = (tt, import_all m h, tt, tt, k)

page_out_tight : (w : ℕ) (p : PageOut) → ProperPageOut w p → Tight (held w) (page_out_row w p)
unfolding page_out_row ProperPageOut
page_out_tight w p h = import_tight p.helpers w (placed_row p.places_templates p.items w) h.0 (placed_tight p.places_templates p.items w h.1)

pub page_out_shaped : (w : ℕ) (p : PageOut) → ProperPageOut w p → ShapedBy (held w) (page_out_row w p)
page_out_shaped w p h = tight_shaped (held w) (page_out_row w p) (page_out_tight w p h)

pub page_out_sane : (w : ℕ) (p : PageOut) → ProperPageOut w p → SaneBy (held w) (page_out_row w p)
page_out_sane w p h = tight_sane (held w) (page_out_row w p) (page_out_tight w p h)
