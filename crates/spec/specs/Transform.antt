-- The knot: the page's tree, each tag turned into what 000 would do with it, by recursion on the tree; visit_mut_module. Assumes nothing:
-- these are definitions.
use Rattle.std.specs.Prelude.{ℕ, ◌+◌, Bool, true, false, ◌||◌, List, [], ◌∷◌, ◌++◌, eqb}
use Rattle.field.specs.Bytes.{Bytes, ascii, pick}
use Rattle.field.specs.Row.{Row, end, loose, field}
use Rattle.page.specs.Number.{number_tag, minus_tag, number_bytes}
use Rattle.page.specs.Encode.{boolean_byte}
use Rattle.page.specs.Page as P
use Rattle.page.specs.Page.{Options, Page}
use Rattle.spec.specs.Pass.{Template, Done, Raw, Mid, none, node, raw}
use Rattle.spec.specs.Output.{template_row}
use Rattle.spec.specs.Merge as M
use Rattle.spec.specs.Attributes as A
use Rattle.spec.specs.Children.{children_to_string, children_to_expr, to_call_expr, element_to_string_vec, serialize_jsx}
use Rattle.spec.specs.Visit.{visit_exprs, visit_after, visit_fragment}

-- an element and a fragment by what they hold
unfoldable pub element_of : Options → P.Name → List A.Attribute → List M.Child → M.Element
element_of o n as' cs = record { serializable = A.is_serializable o n as'; to_string_vec = element_to_string_vec o n as' cs; to_call_expr = to_call_expr n as' cs }

unfoldable pub fragment_of : List M.Child → M.Fragment
fragment_of cs = record { to_string = children_to_string false cs; to_expr = children_to_expr cs }

-- an element as an expression
unfoldable pub element_raw : M.Element → Raw
element_raw e = visit_after (serialize_jsx e)

unfoldable pub shape_of : P.Expr → M.Shape
shape_of (P.string_literal b) = M.string_shape b
shape_of (P.number_literal n) = M.number_shape n
shape_of (P.boolean_literal b) = M.boolean_shape b
shape_of P.null_literal = M.null_shape
shape_of (P.other_literal b) = M.literal_shape
shape_of (P.minus_literal n) = M.minus_shape n
shape_of (P.array_literal is) = M.other_shape
shape_of (P.other_expr ps) = M.other_shape
shape_of (P.tag_expr t) = M.other_shape

module _ (o : Options) where
  unfoldable mutual
    -- a tag as a child, and as an expression
    pub child : P.Tag → M.Child
    child (P.element n as' cs) = M.element (element_of o n (attributes as') (children cs))
    child (P.fragment cs) = M.fragment (fragment_of (children cs))

    pub raw_tag : P.Tag → Raw
    raw_tag (P.element n as' cs) = element_raw (element_of o n (attributes as') (children cs))
    raw_tag (P.fragment cs) = visit_fragment (children cs)

    pub attributes : P.Attributes → List A.Attribute
    attributes P.no_attributes = []
    attributes (P.attribute n v as') = A.attribute n (value v) ∷ attributes as'
    attributes (P.spread_attribute e as') = A.spread (expr e none) ∷ attributes as'

    pub value : P.Value → A.Value
    value P.absent = A.absent
    value (P.string_value b) = A.string b
    value P.empty_value = A.empty
    value (P.container_value e) = A.container (shape_of e) (expr e none)
    value (P.tag_value t) = A.tag (raw_tag t)

    pub children : P.Children → List M.Child
    children P.no_children = []
    children (P.text_child b cs) = M.text b ∷ children cs
    children (P.empty_child cs) = M.empty ∷ children cs
    children (P.container_child e cs) = M.container (shape_of e) (expr e none) ∷ children cs
    children (P.tag_child t cs) = child t ∷ children cs
    children (P.spread_child e cs) = M.spread (expr e none) ∷ children cs

    -- an expression in front of others
    pub expr : P.Expr → Mid → Mid
    expr (P.string_literal b) r = node 0x70 b none r
    expr (P.number_literal n) r = node (number_tag n) (number_bytes n) none r
    expr (P.boolean_literal b) r = node 0x72 (boolean_byte b ∷ []) none r
    expr P.null_literal r = node 0x73 [] none r
    expr (P.other_literal b) r = node 0x74 b none r
    expr (P.minus_literal n) r = node (minus_tag n) (number_bytes n) none r
    expr (P.array_literal is) r = node 0x76 [] (items is) r
    expr (P.other_expr ps) r = node 0x79 [] (pieces ps) r
    expr (P.tag_expr t) r = raw (raw_tag t) r

    pub items : P.Items → Mid
    items P.no_items = none
    items (P.item e is) = expr e (items is)
    items (P.spread_item e is) = node 0x77 [] (expr e none) (items is)
    items (P.hole_item is) = node 0x78 [] none (items is)

    pub pieces : P.Pieces → Mid
    pieces P.no_pieces = none
    pieces (P.source_piece b ps) = node 0x20 b none (pieces ps)
    pieces (P.tag_piece t ps) = raw (raw_tag t) (pieces ps)

  unfoldable pub module_items : Page → Mid
  module_items [] = none
  module_items (P.export_item ps ∷ is) = node 0x10 [] (pieces ps) (module_items is)
  module_items (P.declaration_item ps ∷ is) = node 0x11 [] (pieces ps) (module_items is)
  module_items (P.statement_item ps ∷ is) = node 0x12 [] (pieces ps) (module_items is)
  module_items (P.empty_item ∷ is) = node 0x13 [] none (module_items is)

-- ---- visit_mut_module

-- the items, visited; numbers from 1 on
unfoldable pub transform : Options → Page → Done Row
transform o p = visit_exprs (module_items o p) 1

unfoldable pub templates_row : List Template → Row
templates_row [] = end
templates_row (t ∷ ts) = template_row t (templates_row ts)

-- an export of a declaration or a statement, before the first of which the templates go
abbrev pub is_statement : ℕ → Bool
is_statement t = eqb t 0x10 || eqb t 0x12

unfoldable pub has_statement : Row → Bool
has_statement end = false
has_statement (loose b) = false
has_statement (field t f i r) = is_statement t || has_statement r

unfoldable pub before_statement : Row → Row
before_statement end = end
before_statement (loose b) = loose b
before_statement (field t f i r) = pick (is_statement t) (field 0x83 [] end (field t f i r)) (field t f i (before_statement r))

-- 83, only if templates exist: before the first 10 or 12, else before all items
unfoldable pub with_templates : List Template → Row → Row
with_templates [] r = r
with_templates (t ∷ ts) r = pick (has_statement r) (before_statement r) (field 0x83 [] end r)

-- ---- inject_runtime

-- a field with that tag at any depth
unfoldable pub stands : ℕ → Row → Bool
stands u end = false
stands u (loose b) = false
stands u (field t f i r) = eqb t u || (stands u i || stands u r)

abbrev pub bit : Bool → ℕ → ℕ
bit true n = n
bit false n = 0

-- 82: the sum of the helpers called
unfoldable pub helper_sum : Row → ℕ
helper_sum r = bit (stands 0x94 r) 1 + bit (stands 0x90 r) 2 + bit (stands 0x91 r) 4 + bit (stands 0x92 r) 8

unfoldable pub with_import : Bytes → ℕ → Row → Row
with_import source sum r = pick (eqb sum 0) r (field 0x82 [] (field 0x81 (source ++ ascii "/jsx-runtime") end (loose (sum ∷ []))) r)

-- page out
unfoldable pub page_out_row : Options → Done Row → Row
page_out_row o d = with_import o.import_source (helper_sum d.value) (with_templates d.templates d.value)
