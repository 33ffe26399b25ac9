-- Templates out and page out as rows of fields and as bytes: the writer's side of 01's and 02's format. Assumes nothing: these are definitions.
use Rattle.std.specs.Prelude.{ℕ, Bool, true, false, not, ◌||◌, List, [], ◌∷◌, ◌++◌, Option, Some, None, T, length}
use Rattle.field.specs.Bytes.{Bytes, pick}
use Rattle.field.specs.Number.{big_endian}
use Rattle.field.specs.Row.{Row, end, field, field_bytes, bytes, long_body}
use Rattle.page.specs.Number.{number_tag, minus_tag, number_bytes}
use Rattle.page.specs.Encode.{boolean_byte, texts_row}
use Rattle.outs.specs.Tree.{Gap, attribute_gap, child_gap, Template, ProperTemplates, Callee, tag_name, identifier, member, Expr, string_literal, number_literal, boolean_literal, null_literal, other_literal, minus_literal, array_literal, other_expr, template_call, attr_call, escape_call, boolean_choice, jsx_call, Exprs, no_exprs, expr, Elements, no_elements, element, spread_element, hole, Pieces, no_pieces, source_piece, expr_piece, Props, null_props, object, Properties, no_properties, property, spread_property, Key, no_key, key, Item, export_item, declaration_item, statement_item, empty_item, Import, PageOut, ProperPageOut}
use Rattle.outs.specs.declared.Kind.{Kind}
use Rattle.outs.specs.declared.Kind.TheVariants.{Old, New}

-- 01, Field: no body over 65,535 bytes, so that its length says it
abbrev pub Sayable : Row → Type 0
Sayable x = T (not (long_body x))

-- ---- templates

abbrev pub gap_byte : Gap → ℕ
gap_byte attribute_gap = 1
gap_byte child_gap = 2

unfoldable pub gap_bytes : List Gap → Bytes
gap_bytes [] = []
gap_bytes (g ∷ gs) = gap_byte g ∷ gap_bytes gs

-- 80: the number in two bytes. 84: in four, then the count of gaps in two, then their kinds
unfoldable pub template_row : (k : Kind) → Template k → Row → Row
template_row Old t r = field 0x80 (big_endian 2 t.number []) (texts_row 0x81 t.strings) r
template_row New t r = field 0x84 (big_endian 4 t.number (big_endian 2 (length t.gaps) (gap_bytes t.gaps))) (texts_row 0x81 t.strings) r

unfoldable pub templates_row : (k : Kind) → List (Template k) → Row
templates_row k [] = end
templates_row k (t ∷ ts) = template_row k t (templates_row k ts)

unfoldable pub encode_templates : (k : Kind) → List (Template k) → Bytes
encode_templates k ts = bytes (templates_row k ts)

-- what templates out may hold
unfoldable pub TemplatesOk : (k : Kind) → List (Template k) → Type 0
TemplatesOk k ts = ProperTemplates k ts × Sayable (templates_row k ts)

-- ---- page out; the number is the width of a call's number. Texts, numbers, names and the import are bytes alone in its rows

-- 40 and 41; an 81 for a tag's name
unfoldable pub callee_row : Callee → Row → Row
callee_row (tag_name b) r = field 0x81 b end r
callee_row (identifier n) r = field 0x40 n end r
callee_row (member ns) r = field 0x41 (bytes (texts_row 0x40 ns)) end r

unfoldable mutual
  pub expr_row : Expr → ℕ → Row → Row
  expr_row (string_literal b) w r = field 0x70 b end r
  expr_row (number_literal n) w r = field (number_tag n) (number_bytes n) end r
  expr_row (boolean_literal b) w r = field 0x72 (boolean_byte b ∷ []) end r
  expr_row null_literal w r = field 0x73 [] end r
  expr_row (other_literal b) w r = field 0x74 b end r
  expr_row (minus_literal n) w r = field (minus_tag n) (number_bytes n) end r
  expr_row (array_literal es) w r = field 0x76 [] (elements_row es w) r
  expr_row (other_expr ps) w r = field 0x79 [] (pieces_row ps w) r
  expr_row (template_call n es) w r = field 0x90 (big_endian w n []) (exprs_row es w) r
  expr_row (attr_call b e) w r = field 0x91 [] (field 0x81 b end (expr_row e w end)) r
  expr_row (escape_call e) w r = field 0x92 [] (expr_row e w end) r
  expr_row (boolean_choice e b) w r = field 0x93 [] (expr_row e w (field 0x81 b end end)) r
  expr_row (jsx_call c ps k) w r = field 0x94 [] (callee_row c (props_row ps w (key_row k w))) r

  pub exprs_row : Exprs → ℕ → Row
  exprs_row no_exprs w = end
  exprs_row (expr e es) w = expr_row e w (exprs_row es w)

  pub elements_row : Elements → ℕ → Row
  elements_row no_elements w = end
  elements_row (element e es) w = expr_row e w (elements_row es w)
  elements_row (spread_element e es) w = field 0x77 [] (expr_row e w end) (elements_row es w)
  elements_row (hole es) w = field 0x78 [] end (elements_row es w)

  pub pieces_row : Pieces → ℕ → Row
  pieces_row no_pieces w = end
  pieces_row (source_piece b ps) w = field 0x20 b end (pieces_row ps w)
  pieces_row (expr_piece e ps) w = expr_row e w (pieces_row ps w)

  pub props_row : Props → ℕ → Row → Row
  props_row null_props w r = field 0x73 [] end r
  props_row (object ps) w r = field 0x95 [] (properties_row ps w) r

  pub properties_row : Properties → ℕ → Row
  properties_row no_properties w = end
  properties_row (property b e ps) w = field 0x96 [] (field 0x81 b end (expr_row e w end)) (properties_row ps w)
  properties_row (spread_property e ps) w = field 0x53 [] (expr_row e w end) (properties_row ps w)

  pub key_row : Key → ℕ → Row
  key_row no_key w = end
  key_row (key e) w = expr_row e w end

unfoldable pub item_row : Item → ℕ → Row → Row
item_row (export_item ps) w r = field 0x10 [] (pieces_row ps w) r
item_row (declaration_item ps) w r = field 0x11 [] (pieces_row ps w) r
item_row (statement_item ps) w r = field 0x12 [] (pieces_row ps w) r
item_row empty_item w r = field 0x13 [] end r

unfoldable pub items_row : List Item → ℕ → Row
items_row [] w = end
items_row (i ∷ is) w = item_row i w (items_row is w)

-- 01: before the first item 10 or 12, else before all items
unfoldable pub is_statement : Item → Bool
is_statement (export_item ps) = true
is_statement (declaration_item ps) = false
is_statement (statement_item ps) = true
is_statement empty_item = false

unfoldable pub items_have_statement : List Item → Bool
items_have_statement [] = false
items_have_statement (i ∷ is) = is_statement i || items_have_statement is

-- the place before the first statement, where there is one
unfoldable pub before_statement : List Item → ℕ → Row
before_statement [] w = end
before_statement (i ∷ is) w = pick (is_statement i) (field 0x83 [] end (item_row i w (items_row is w))) (item_row i w (before_statement is w))

unfoldable pub placed_row : Bool → List Item → ℕ → Row
placed_row false is w = items_row is w
placed_row true is w = pick (items_have_statement is) (before_statement is w) (field 0x83 [] end (items_row is w))

-- 82: behind the 81 one byte
abbrev pub import_bytes : Import → Bytes
import_bytes m = field_bytes 0x81 m.source ++ (m.sum ∷ [])

unfoldable pub import_row : Option Import → Row → Row
import_row None r = r
import_row (Some m) r = field 0x82 (import_bytes m) end r

unfoldable pub page_out_row : ℕ → PageOut → Row
page_out_row w p = import_row p.helpers (placed_row p.places_templates p.items w)

unfoldable pub encode_page_out : ℕ → PageOut → Bytes
encode_page_out w p = bytes (page_out_row w p)

-- what a page out may be
unfoldable pub PageOutOk : ℕ → PageOut → Type 0
PageOutOk w p = ProperPageOut w p × Sayable (page_out_row w p)
