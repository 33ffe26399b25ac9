-- How long the outputs are at most, and how many numbers are taken, for every page: the law that keeps the code's places within its
-- numbers. Main statements: `growth`, `taken_growth`, `page_growth`; `expr_growth` for an expression. Assumes nothing.
use Prim.Native.Nat.{ℕ, suc, ◌+◌, ◌*◌, ◌≤◌}
use native.Mathlib.Omega.{arith}
use mathlib.Core.Path.{◌≡◌, refl}
use mathlib.Core.Bool.{Bool, true, false}
use mathlib.Core.List.{List, [], ◌∷◌, ◌++◌}
use lib.ListN.{length, length-append}
use Rattle.field.specs.Bytes.{Bytes, ascii}
use Rattle.field.specs.Row.{Row, end, loose, field, bytes}
use Rattle.field.proofs.RowLaws.{length_bytes}
use Rattle.names.specs.Names as N
use Rattle.names.specs.Names.{AttrName, get_attr_name}
use Rattle.names.proofs.NameLaws.{normalize_longer}
use Rattle.page.specs.Number.{number_tag, minus_tag, number_bytes}
use Rattle.page.proofs.NumberLaws.{number_size, render_length}
use Rattle.page.specs.Page as P
use Rattle.page.specs.Page.{Page, Options}
use Rattle.page.specs.Encode.{boolean_byte, texts_row, name_row, attr_name_row, tag_row, attributes_row, value_row, children_row, expr_row, items_row, pieces_row, module_items_row, page_row, encode}
use Rattle.spec.specs.Pass.{Template, Mid, none}
use Rattle.spec.specs.Visit.{visit_exprs}
use Rattle.spec.specs.Transform.{transform, templates_row, page_out_row, with_templates, helper_sum, shape_of, child, raw_tag, attributes, value, children, expr, items, pieces, module_items}
use Rattle.spec.proofs.PageOut.{templates_related, import_row, import_related}
use Rattle.spec.proofs.Cost.{templates_size, written_size, RawCosts, raw_weaken, Costs, none_costs, costs_weaken, costs_node, costs_raw, costs_leaf, visit_costs}
use Rattle.spec.proofs.CostWalk.{shape_size, ChildCosts, ChildrenCosts, ValueCosts, AttributesCosts, no_attributes, children_end, children_more, attributes_more, attributes_spread, name_size, members_size, element_costs, fragment_costs, element_raw_costs, fragment_raw_costs}

-- ---- rows in front of others

abbrev pub size : Row → ℕ
size r = length (bytes r)

-- what an element or a fragment holds
unfoldable pub tag_body : P.Tag → Row
tag_body (P.element n as' cs) = name_row n (attributes_row as' (children_row cs))
tag_body (P.fragment cs) = children_row cs

pub tag_front : (t : P.Tag) (r : Row) → size (tag_row t r) ≡ 3 + size (tag_body t) + size r
unfolding tag_row tag_body bytes
tag_front (P.element n as' cs) r = length_bytes 0x30 [] (name_row n (attributes_row as' (children_row cs))) r
tag_front (P.fragment cs) r = length_bytes 0x31 [] (children_row cs) r

pub expr_front : (e : P.Expr) (r : Row) → size (expr_row e r) ≡ size (expr_row e end) + size r
unfolding expr_row bytes
expr_front (P.string_literal b) r = omega (arith, length_bytes 0x70 b end r, length_bytes 0x70 b end end)
expr_front (P.number_literal n) r = omega (arith, length_bytes (number_tag n) (number_bytes n) end r, length_bytes (number_tag n) (number_bytes n) end end)
expr_front (P.boolean_literal b) r = omega (arith, length_bytes 0x72 (boolean_byte b ∷ []) end r, length_bytes 0x72 (boolean_byte b ∷ []) end end)
expr_front P.null_literal r = omega (arith, length_bytes 0x73 [] end r, length_bytes 0x73 [] end end)
expr_front (P.other_literal b) r = omega (arith, length_bytes 0x74 b end r, length_bytes 0x74 b end end)
expr_front (P.minus_literal n) r = omega (arith, length_bytes (minus_tag n) (number_bytes n) end r, length_bytes (minus_tag n) (number_bytes n) end end)
expr_front (P.array_literal is) r = omega (arith, length_bytes 0x76 [] (items_row is) r, length_bytes 0x76 [] (items_row is) end)
expr_front (P.other_expr ps) r = omega (arith, length_bytes 0x79 [] (pieces_row ps) r, length_bytes 0x79 [] (pieces_row ps) end)
expr_front (P.tag_expr t) r = omega (arith, tag_front t r, tag_front t end)

attributes_front : (as' : P.Attributes) (r : Row) → size (attributes_row as' r) ≡ size (attributes_row as' end) + size r
unfolding attributes_row bytes
attributes_front P.no_attributes r = omega arith
attributes_front (P.attribute n v as') r =
    let i = attr_name_row n (value_row v) in omega (arith, length_bytes 0x50 [] i (attributes_row as' r), length_bytes 0x50 [] i (attributes_row as' end), attributes_front as' r)
attributes_front (P.spread_attribute e as') r =
    omega (arith, length_bytes 0x53 [] (expr_row e end) (attributes_row as' r), length_bytes 0x53 [] (expr_row e end) (attributes_row as' end), attributes_front as' r)

-- ---- names and literals

members_fit : (ns : List Bytes) → members_size ns ≡ size (texts_row 0x40 ns)
unfolding members_size texts_row bytes
members_fit [] = refl
members_fit (n ∷ ns) = omega (arith, length_bytes 0x40 n end (texts_row 0x40 ns), members_fit ns)

pub two_names : (n m : Bytes) → size (texts_row 0x40 (n ∷ m ∷ [])) ≡ 6 + length n + length m
unfolding texts_row bytes
two_names n m = omega (arith, length_bytes 0x40 n end (field 0x40 m end end), length_bytes 0x40 m end end)

name_fits : (n : P.Name) (r : Row) → 3 + name_size n + size r ≤ size (name_row n r)
unfolding name_size name_row bytes
name_fits (P.identifier n) r = omega (arith, length_bytes 0x40 n end r)
name_fits (P.member ns) r = omega (arith, length_bytes 0x41 [] (texts_row 0x40 ns) r, members_fit ns)
name_fits (P.namespaced n m) r = omega (arith, length_bytes 0x42 [] (texts_row 0x40 (n ∷ m ∷ [])) r, two_names n m)

-- an attribute's name as written, with a colon in it or not
unfoldable attr_name_size : AttrName → ℕ
attr_name_size (N.ident n) = length n
attr_name_size (N.namespaced n m) = suc (length n + length m)

attr_name_fits : (n : AttrName) (r : Row) → 3 + attr_name_size n + size r ≤ size (attr_name_row n r)
unfolding attr_name_size attr_name_row bytes
attr_name_fits (N.ident n) r = omega (arith, length_bytes 0x40 n end r)
attr_name_fits (N.namespaced n m) r = omega (arith, length_bytes 0x42 [] (texts_row 0x40 (n ∷ m ∷ [])) r, two_names n m)

attr_name_longer : (n : AttrName) (norm : Bool) → length (get_attr_name n norm) ≤ attr_name_size n + 2
unfolding attr_name_size get_attr_name
attr_name_longer (N.ident n) true = normalize_longer n
attr_name_longer (N.ident n) false = omega arith
attr_name_longer (N.namespaced n m) norm = omega (arith, normalize_longer (n ++ (58 ∷ m)), length-append n (58 ∷ m))

shape_fits : (e : P.Expr) → shape_size (shape_of e) ≤ 12 * size (expr_row e end)
unfolding shape_size shape_of expr_row bytes
shape_fits (P.string_literal b) = omega (arith, length_bytes 0x70 b end end)
shape_fits (P.number_literal n) = omega (arith, length_bytes (number_tag n) (number_bytes n) end end, number_size n, render_length n)
shape_fits (P.boolean_literal b) = omega arith
shape_fits P.null_literal = omega arith
shape_fits (P.other_literal b) = omega arith
shape_fits (P.minus_literal n) = omega (arith, length_bytes (minus_tag n) (number_bytes n) end end, number_size n, render_length n)
shape_fits (P.array_literal is) = omega arith
shape_fits (P.other_expr ps) = omega arith
shape_fits (P.tag_expr t) = omega arith

-- ---- the tree: a budget of 512 bytes for each byte of the page. What costs most is a literal in braces, with 36 · 12 by `shape_fits`:
-- 432 would do, 431 would not. No use of the law needs less than 512

nothing_behind : Costs none 0
nothing_behind = none_costs

module _ (o : Options) where
  mutual
    unfolding child tag_row tag_body ChildCosts ValueCosts bytes

    -- less than the header's share, since a child is paid for besides
    tag_child : (t : P.Tag) → ChildCosts 36 (child o t) (1500 + 512 * size (tag_body t))
    tag_child (P.element n as' cs) =
        element_costs o n (attributes o as') (children o cs) (512 * size (attributes_row as' end)) (28 + 512 * size (children_row cs)) (omega (arith, name_fits n (attributes_row as' (children_row cs)), attributes_front as' (children_row cs))) (attributes_cost as')
        (children_cost cs)
    tag_child (P.fragment cs) = fragment_costs (children o cs) (28 + 512 * size (children_row cs)) (omega arith) (children_cost cs)

    tag_raw : (t : P.Tag) → RawCosts (1500 + 512 * size (tag_body t)) (raw_tag o t)
    tag_raw (P.element n as' cs) =
        element_raw_costs (omega arith)
        (element_costs o n (attributes o as') (children o cs) (512 * size (attributes_row as' end)) (28 + 512 * size (children_row cs)) (omega (arith, name_fits n (attributes_row as' (children_row cs)), attributes_front as' (children_row cs))) (attributes_cost as')
        (children_cost cs))
    tag_raw (P.fragment cs) = fragment_raw_costs (children o cs) (28 + 512 * size (children_row cs)) (omega arith) (children_cost cs)

    attributes_cost : (as' : P.Attributes) → AttributesCosts (attributes o as') (512 * size (attributes_row as' end))
    attributes_cost P.no_attributes = no_attributes
    attributes_cost (P.attribute n v as') =
        attributes_more (attr_name_size n + 2) (512 * size (value_row v)) (512 * size (attributes_row as' end))
        (omega (arith, length_bytes 0x50 [] (attr_name_row n (value_row v)) (attributes_row as' end), attr_name_fits n (value_row v))) (attr_name_longer n) (value_cost v) (attributes_cost as')
    attributes_cost (P.spread_attribute e as') =
        attributes_spread (512 * size (expr_row e end)) (512 * size (attributes_row as' end)) (omega (arith, length_bytes 0x53 [] (expr_row e end) (attributes_row as' end))) (costs_weaken (omega arith) (expr_cost e none nothing_behind)) (attributes_cost as')

    value_cost : (v : P.Value) → ValueCosts (value o v) (512 * size (value_row v))
    value_cost P.absent = tt
    value_cost (P.string_value b) = omega (arith, length_bytes 0x51 b end end)
    value_cost P.empty_value = tt
    value_cost (P.container_value e) = (omega (arith, length_bytes 0x52 [] (expr_row e end) end, shape_fits e), costs_weaken (omega (arith, length_bytes 0x52 [] (expr_row e end) end)) (expr_cost e none nothing_behind))
    value_cost (P.tag_value t) = raw_weaken (omega (arith, tag_front t end)) (tag_raw t)

    children_cost : (cs : P.Children) → ChildrenCosts 36 28 (children o cs) (28 + 512 * size (children_row cs))
    children_cost P.no_children = children_end (omega arith)
    children_cost (P.text_child b cs) = children_more (36 * length b) (28 + 512 * size (children_row cs)) (omega (arith, length_bytes 0x60 b end (children_row cs))) (omega arith) (children_cost cs)
    children_cost (P.empty_child cs) = children_more 0 (28 + 512 * size (children_row cs)) (omega (arith, length_bytes 0x52 [] end (children_row cs))) tt (children_cost cs)
    children_cost (P.container_child e cs) =
        children_more (512 * size (expr_row e end)) (28 + 512 * size (children_row cs)) (omega (arith, length_bytes 0x52 [] (expr_row e end) (children_row cs))) (omega (arith, shape_fits e), costs_weaken (omega arith) (expr_cost e none nothing_behind)) (children_cost cs)
    children_cost (P.tag_child t cs) = children_more (1500 + 512 * size (tag_body t)) (28 + 512 * size (children_row cs)) (omega (arith, tag_front t (children_row cs))) (tag_child t) (children_cost cs)
    children_cost (P.spread_child e cs) = children_more 0 (28 + 512 * size (children_row cs)) (omega (arith, length_bytes 0x61 [] (expr_row e end) (children_row cs))) tt (children_cost cs)

    -- in front of others
    expr_cost : (e : P.Expr) (r : Mid) {b : ℕ} → Costs r b → Costs (expr o e r) (512 * size (expr_row e end) + b)
    expr_cost (P.string_literal s) r {b} x = costs_leaf b (omega (arith, length_bytes 0x70 s end end)) x
    expr_cost (P.number_literal n) r {b} x = costs_leaf b (omega (arith, length_bytes (number_tag n) (number_bytes n) end end)) x
    expr_cost (P.boolean_literal c) r {b} x = costs_leaf b (omega (arith, length_bytes 0x72 (boolean_byte c ∷ []) end end)) x
    expr_cost P.null_literal r {b} x = costs_leaf b (omega (arith, length_bytes 0x73 [] end end)) x
    expr_cost (P.other_literal s) r {b} x = costs_leaf b (omega (arith, length_bytes 0x74 s end end)) x
    expr_cost (P.minus_literal n) r {b} x = costs_leaf b (omega (arith, length_bytes (minus_tag n) (number_bytes n) end end)) x
    expr_cost (P.array_literal is) r {b} x = costs_node (512 * size (items_row is)) b (omega (arith, length_bytes 0x76 [] (items_row is) end)) (items_cost is) x
    expr_cost (P.other_expr ps) r {b} x = costs_node (512 * size (pieces_row ps)) b (omega (arith, length_bytes 0x79 [] (pieces_row ps) end)) (pieces_cost ps) x
    expr_cost (P.tag_expr t) r {b} x = costs_raw (1500 + 512 * size (tag_body t)) b (omega (arith, tag_front t end)) (tag_raw t) x

    items_cost : (is : P.Items) → Costs (items o is) (512 * size (items_row is))
    items_cost P.no_items = none_costs
    items_cost (P.item e is) = costs_weaken (omega (arith, expr_front e (items_row is))) (expr_cost e (items o is) (items_cost is))
    items_cost (P.spread_item e is) = costs_node (512 * size (expr_row e end)) (512 * size (items_row is)) (omega (arith, length_bytes 0x77 [] (expr_row e end) (items_row is))) (costs_weaken (omega arith) (expr_cost e none nothing_behind)) (items_cost is)
    items_cost (P.hole_item is) = costs_leaf (512 * size (items_row is)) (omega (arith, length_bytes 0x78 [] end (items_row is))) (items_cost is)

    pieces_cost : (ps : P.Pieces) → Costs (pieces o ps) (512 * size (pieces_row ps))
    pieces_cost P.no_pieces = none_costs
    pieces_cost (P.source_piece b ps) = costs_leaf (512 * size (pieces_row ps)) (omega (arith, length_bytes 0x20 b end (pieces_row ps))) (pieces_cost ps)
    pieces_cost (P.tag_piece t ps) = costs_raw (1500 + 512 * size (tag_body t)) (512 * size (pieces_row ps)) (omega (arith, tag_front t (pieces_row ps))) (tag_raw t) (pieces_cost ps)

  module_cost : (p : Page) → Costs (module_items o p) (512 * size (module_items_row p))
  unfolding module_items module_items_row bytes
  module_cost [] = none_costs
  module_cost (P.export_item ps ∷ is) = costs_node (512 * size (pieces_row ps)) (512 * size (module_items_row is)) (omega (arith, length_bytes 0x10 [] (pieces_row ps) (module_items_row is))) (pieces_cost ps) (module_cost is)
  module_cost (P.declaration_item ps ∷ is) = costs_node (512 * size (pieces_row ps)) (512 * size (module_items_row is)) (omega (arith, length_bytes 0x11 [] (pieces_row ps) (module_items_row is))) (pieces_cost ps) (module_cost is)
  module_cost (P.statement_item ps ∷ is) = costs_node (512 * size (pieces_row ps)) (512 * size (module_items_row is)) (omega (arith, length_bytes 0x12 [] (pieces_row ps) (module_items_row is))) (pieces_cost ps) (module_cost is)
  module_cost (P.empty_item ∷ is) = costs_leaf (512 * size (module_items_row is)) (omega (arith, length_bytes 0x13 [] end (module_items_row is))) (module_cost is)

-- ---- the law

-- outputs and numbers together
whole_growth : (o : Options) (p : Page) → written_size (transform o p) ≤ 512 * length (encode p)
unfolding transform encode page_row bytes
whole_growth o p = omega (arith, visit_costs (module_cost o p) 1, length_bytes 0x01 [] (module_items_row p) end)

pub growth : (o : Options) (p : Page) → length (bytes (templates_row (transform o p).templates)) + length (bytes (transform o p).value) ≤ 512 * length (encode p)
unfolding written_size templates_size
growth o p = omega (arith, whole_growth o p)

pub taken_growth : (o : Options) (p : Page) → (transform o p).taken ≤ 512 * length (encode p)
unfolding written_size
taken_growth o p = omega (arith, whole_growth o p)

-- an expression visited by itself
pub expr_growth : (o : Options) (e : P.Expr) (n : ℕ) → written_size (visit_exprs (expr o e none) n) ≤ 512 * size (expr_row e end)
expr_growth o e n = omega (arith, visit_costs (expr_cost o e none nothing_behind) n)

-- the place of the templates is three bytes
pub with_templates_growth : (ts : List Template) (r : Row) → size (with_templates ts r) ≤ size r + 3
unfolding bytes
with_templates_growth ts r =
    templates_related (λ (r s : Row). size s ≤ size r + 3) (λ r. omega arith) (λ r. omega (arith, length_bytes 0x83 [] end r)) (λ t f i r s h. omega (arith, length_bytes t f i r, length_bytes t f i s)) ts r

-- the import: two headers, the source, `/jsx-runtime` and the sum
import_growth : (source : Bytes) (sum : ℕ) (r : Row) → size (import_row (source ++ ascii "/jsx-runtime") sum r) ≡ size r + length source + 19
unfolding bytes
import_growth source sum r =
    let s = source ++ ascii "/jsx-runtime" in
    omega (arith, length_bytes 0x82 [] (field 0x81 s end (loose (sum ∷ []))) r, length_bytes 0x81 s end (loose (sum ∷ [])), length-append source (ascii "/jsx-runtime"))

pub page_growth : (o : Options) (p : Page) → length (bytes (templates_row (transform o p).templates)) + length (bytes (page_out_row o (transform o p))) ≤ 512 * length (encode p) + length o.import_source + 22
unfolding page_out_row
page_growth o p =
    let d = transform o p in
    let r = with_templates d.templates d.value in
    import_related (λ (x : Row). length (bytes (templates_row d.templates)) + size x ≤ 512 * length (encode p) + length o.import_source + 22) o.import_source (helper_sum d.value) r
    (omega (arith, growth o p, with_templates_growth d.templates d.value))
    (omega (arith, growth o p, with_templates_growth d.templates d.value, import_growth o.import_source (helper_sum d.value) r))
