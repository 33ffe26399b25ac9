-- The whole page as one row of expressions is the transform's, with the place of the templates in it: what the walk over it leaves, and the
-- import in front. Main statements: `import_free`, `has_html_takes`, `items_visited`, `items_walked`, `module_walked`, `walked_sum`,
-- `page_put`. Assumes nothing.
use Prim.Native.Nat.{ℕ, suc, ◌+◌, ◌≤◌}
use native.Mathlib.Omega.{arith}
use native.Mathlib.Nat.{zero-add, add-zero}
use mathlib.Core.Path.{◌≡◌, refl, sym, ap, ap₂, ◌∙◌, subst}
use mathlib.Core.Bool.{Bool, true, false, ◌&&◌, ◌||◌, not}
use mathlib.Core.List.{List, [], ◌∷◌, ◌++◌, append-nil}
use lib.Dec.{T, eqb, ltb, leb-suc-suc}
use lib.ListN.{length, length-append}
use Rattle.field.specs.Bytes.{Bytes, ascii, pick, same, among}
use Rattle.field.specs.Row.{Row, end, loose, field, field_bytes, bytes, long_body}
use Rattle.field.specs.Put.{put}
use Rattle.field.proofs.PutLaws.{put_back}
use Rattle.field.proofs.RowLaws.{length_bytes}
use Rattle.names.specs.Names.{get_attr_name, is_void_element}
use Rattle.text.specs.Escape.{escape_html}
use Rattle.page.specs.Page as P
use Rattle.page.specs.Page.{Options, Page, Name, identifier, member, namespaced}
use Rattle.page.specs.Tree.{choose, listed_in, options_in}
use Rattle.spec.specs.Pass.{Template, Done, pure, bind, both, Mid, none, node, raw, Part, chars, gap, mark}
use Rattle.spec.specs.Output.{gen_template}
use Rattle.spec.specs.Merge as M
use Rattle.spec.specs.Attributes as A
use Rattle.spec.specs.Attributes.{first_upper, keeps_from_serializing, is_serializable, listed_attr, plain_attr, attr_parts, attrs_parts, tag_flags}
use Rattle.spec.specs.Children.{children_to_string, to_call_expr, open_close, element_to_string_vec, serialize_jsx}
use Rattle.spec.specs.Visit.{visit_exprs, visit_after, visit_fragment}
use Rattle.spec.specs.Transform as Row
use Rattle.spec.specs.Transform.{bit, stands, helper_sum, with_import, with_templates, before_statement, templates_row, transform, element_of, fragment_of, element_raw, shape_of, child, raw_tag, attributes, value, children, expr, items, pieces, module_items}
use Rattle.spec.proofs.Ledger.{or_either, then, valued}
use Rattle.spec.proofs.PageOut.{templates_related}
use Rattle.decisions.specs.At.{opts}
use Rattle.decisions.specs.Index.{names_of}
use Rattle.strings.specs.Due.{graver, long_due, grave}
use Rattle.strings.specs.declared.due.Due.{Due}
use Rattle.strings.specs.Recorded.{recorded}
use Rattle.strings.proofs.DueLaws.{none_graver}
use Rattle.walk.specs.declared.state.Walk.{Walk}
use Rattle.walk.specs.See.{World, at, see, wrote}
use Rattle.transform.specs.Run.{placed_before, module_mid, page_has_statement, items_mid, tag_html, piece_html, has_html, started, sum_of, import_bytes}

-- ---- the transform does not look at the import's source, and of the lists only at what stands among them

module _ (o o' : Options) (e : (n : Bytes) → among n o.skip_serialize ≡ among n o'.skip_serialize) (f : (n : Bytes) → among n o.skip_prop_serialize ≡ among n o'.skip_prop_serialize) where
  attr_same : (a : A.Attribute) → attr_parts o a ≡ attr_parts o' a
  unfolding attr_parts
  attr_same (A.attribute n v) = ap (λ (b : Bool). pick b (listed_attr (get_attr_name n false) v) (plain_attr (get_attr_name n true) v)) (f (get_attr_name n false))
  attr_same (A.spread m) = refl

  attrs_same : (as' : List A.Attribute) → attrs_parts o as' ≡ attrs_parts o' as'
  unfolding attrs_parts
  attrs_same [] = refl
  attrs_same (a ∷ as') = ap₂ (λ (x y : List Part). x ++ y) (attr_same a) (attrs_same as')

  serializable_same : (n : Name) (as' : List A.Attribute) → is_serializable o n as' ≡ is_serializable o' n as'
  unfolding is_serializable
  serializable_same (identifier n) as' = ap (λ (b : Bool). not (first_upper n) && not b && not (keeps_from_serializing as')) (e n)
  serializable_same (member ns) as' = refl
  serializable_same (namespaced n m) as' = refl

  open_same : (n : Bytes) (as' : List A.Attribute) (cs : List M.Child) → open_close o n as' cs ≡ open_close o' n as' cs
  unfolding open_close
  open_same n as' cs =
      ap
      (λ (ps : List Part). mark (tag_flags n as') ∷ chars (60 ∷ escape_html n) ∷ (ps ++ (chars (62 ∷ []) ∷ pick (is_void_element n) [] (children_to_string true cs ++ (chars (60 ∷ 47 ∷ (n ++ (62 ∷ []))) ∷ [])))))
      (attrs_same as')

  parts_same : (n : Name) (as' : List A.Attribute) (cs : List M.Child) → element_to_string_vec o n as' cs ≡ element_to_string_vec o' n as' cs
  unfolding element_to_string_vec
  parts_same (identifier n) as' cs =
      ap₂ (λ (b : Bool) (ps : List Part). choose b (λ _. ps) λ _. gap (to_call_expr (identifier n) as' cs) ∷ []) (serializable_same (identifier n) as') (open_same n as' cs)
  parts_same (member ns) as' cs = refl
  parts_same (namespaced n m) as' cs = refl

  element_same : (n : Name) (as' : List A.Attribute) (cs : List M.Child) → element_of o n as' cs ≡ element_of o' n as' cs
  unfolding element_of
  element_same n as' cs = ap₂ made (serializable_same n as') (parts_same n as' cs)
    where
      made : Bool → List Part → M.Element
      made b ps = record { serializable = b; to_string_vec = ps; to_call_expr = to_call_expr n as' cs }

  mutual
    unfolding child

    child_same : (t : P.Tag) → child o t ≡ child o' t
    child_same (P.element n as' cs) = ap M.element (ap₂ (element_of o n) (attributes_same as') (children_same cs) ∙ element_same n (attributes o' as') (children o' cs))
    child_same (P.fragment cs) = ap (λ (x : List M.Child). M.fragment (fragment_of x)) (children_same cs)

    raw_same : (t : P.Tag) → raw_tag o t ≡ raw_tag o' t
    raw_same (P.element n as' cs) = ap element_raw (ap₂ (element_of o n) (attributes_same as') (children_same cs) ∙ element_same n (attributes o' as') (children o' cs))
    raw_same (P.fragment cs) = ap visit_fragment (children_same cs)

    attributes_same : (as' : P.Attributes) → attributes o as' ≡ attributes o' as'
    attributes_same P.no_attributes = refl
    attributes_same (P.attribute n v as') = ap₂ (λ (x : A.Value) (xs : List A.Attribute). A.attribute n x ∷ xs) (value_same v) (attributes_same as')
    attributes_same (P.spread_attribute d as') = ap₂ (λ (x : Mid) (xs : List A.Attribute). A.spread x ∷ xs) (expr_same d none) (attributes_same as')

    value_same : (v : P.Value) → value o v ≡ value o' v
    value_same P.absent = refl
    value_same (P.string_value b) = refl
    value_same P.empty_value = refl
    value_same (P.container_value d) = ap (A.container (shape_of d)) (expr_same d none)
    value_same (P.tag_value t) = ap A.tag (raw_same t)

    children_same : (cs : P.Children) → children o cs ≡ children o' cs
    children_same P.no_children = refl
    children_same (P.text_child b cs) = ap (λ (xs : List M.Child). M.text b ∷ xs) (children_same cs)
    children_same (P.empty_child cs) = ap (λ (xs : List M.Child). M.empty ∷ xs) (children_same cs)
    children_same (P.container_child d cs) = ap₂ (λ (x : Mid) (xs : List M.Child). M.container (shape_of d) x ∷ xs) (expr_same d none) (children_same cs)
    children_same (P.tag_child t cs) = ap₂ (λ (x : M.Child) (xs : List M.Child). x ∷ xs) (child_same t) (children_same cs)
    children_same (P.spread_child d cs) = ap₂ (λ (x : Mid) (xs : List M.Child). M.spread x ∷ xs) (expr_same d none) (children_same cs)

    expr_same : (d : P.Expr) (r : Mid) → expr o d r ≡ expr o' d r
    expr_same (P.string_literal b) r = refl
    expr_same (P.number_literal n) r = refl
    expr_same (P.boolean_literal b) r = refl
    expr_same P.null_literal r = refl
    expr_same (P.other_literal b) r = refl
    expr_same (P.minus_literal n) r = refl
    expr_same (P.array_literal is) r = ap (λ (i : Mid). node 0x76 [] i r) (items_same is)
    expr_same (P.other_expr ps) r = ap (λ (i : Mid). node 0x79 [] i r) (pieces_same ps)
    expr_same (P.tag_expr t) r = ap (λ x. raw x r) (raw_same t)

    items_same : (is : P.Items) → items o is ≡ items o' is
    items_same P.no_items = refl
    items_same (P.item d is) = expr_same d (items o is) ∙ ap (expr o' d) (items_same is)
    items_same (P.spread_item d is) = ap₂ (λ (i r : Mid). node 0x77 [] i r) (expr_same d none) (items_same is)
    items_same (P.hole_item is) = ap (λ (r : Mid). node 0x78 [] none r) (items_same is)

    pieces_same : (ps : P.Pieces) → pieces o ps ≡ pieces o' ps
    pieces_same P.no_pieces = refl
    pieces_same (P.source_piece b ps) = ap (λ (r : Mid). node 0x20 b none r) (pieces_same ps)
    pieces_same (P.tag_piece t ps) = ap₂ (λ x (r : Mid). raw x r) (raw_same t) (pieces_same ps)

  module_same : (p : Page) → module_items o p ≡ module_items o' p
  unfolding module_items
  module_same [] = refl
  module_same (P.export_item ps ∷ is) = ap₂ (λ (i r : Mid). node 0x10 [] i r) (pieces_same ps) (module_same is)
  module_same (P.declaration_item ps ∷ is) = ap₂ (λ (i r : Mid). node 0x11 [] i r) (pieces_same ps) (module_same is)
  module_same (P.statement_item ps ∷ is) = ap₂ (λ (i r : Mid). node 0x12 [] i r) (pieces_same ps) (module_same is)
  module_same (P.empty_item ∷ is) = ap (λ (r : Mid). node 0x13 [] none r) (module_same is)

-- by what stands among the names of 02 and 03 alone
pub import_free : (skip props : Bytes) (r : Row) (p : Page) →
    ((n : Bytes) → among n (names_of skip) ≡ among n (listed_in 2 r)) → ((n : Bytes) → among n (names_of props) ≡ among n (listed_in 3 r)) → transform (opts skip props) p ≡ transform (options_in r) p
unfolding transform options_in
import_free skip props r p e f = ap (λ (m : Mid). visit_exprs m 1) (module_same (opts skip props) (options_in r) e f p)

-- ---- a field that holds no expression, in front of others

leaf_first : (t : ℕ) (f : Bytes) (m : Mid) (n : ℕ) → visit_exprs (node t f none m) n ≡ valued (field t f end (visit_exprs m n).value) (visit_exprs m n)
unfolding visit_exprs both pure
leaf_first t f m n = ap (λ (k : ℕ). first (0 + (visit_exprs m k).taken) (visit_exprs m k)) (add-zero n) ∙ ap (λ (k : ℕ). first k (visit_exprs m n)) (zero-add (visit_exprs m n).taken)
  where
    first : ℕ → Done Row → Done Row
    first k d = record { value = field t f end d.value; taken = k; templates = d.templates; flags = d.flags }

leaf_takes : (t : ℕ) (f : Bytes) (m : Mid) (n : ℕ) → (visit_exprs (node t f none m) n).taken ≡ (visit_exprs m n).taken
leaf_takes t f m n = ap (λ (d : Done Row). d.taken) (leaf_first t f m n)

-- ---- an element among the pieces that becomes a template takes a number, whatever 03 lists

keeps_same : (o o' : Options) (as' : P.Attributes) → keeps_from_serializing (attributes o as') ≡ keeps_from_serializing (attributes o' as')
unfolding keeps_from_serializing child
keeps_same o o' P.no_attributes = refl
keeps_same o o' (P.attribute n v as') = ap (λ (b : Bool). same (get_attr_name n false) (ascii "dangerouslySetInnerHTML") || b) (keeps_same o o' as')
keeps_same o o' (P.spread_attribute d as') = refl

-- a template takes one
template_takes : (b : Bool) (e : M.Element) (n : ℕ) → T b → 1 ≤ (visit_after (choose b (λ _. gen_template e.to_string_vec) λ _. e.to_call_expr) n).taken
unfolding choose visit_after bind gen_template
template_takes true e n t = omega arith
template_takes false e n t = absurd t

module _ (o o' : Options) (e : o.skip_serialize ≡ o'.skip_serialize) where
  html_same : (t : P.Tag) → tag_html o t ≡ tag_html o' t
  unfolding tag_html element_of is_serializable
  html_same (P.element (identifier n) as' cs) = ap₂ (λ (l : List Bytes) (b : Bool). not (first_upper n) && not (among n l) && not b) e (keeps_same o o' as')
  html_same (P.element (member ns) as' cs) = refl
  html_same (P.element (namespaced n m) as' cs) = refl
  html_same (P.fragment cs) = refl

  tag_takes : (t : P.Tag) → T (tag_html o' t) → (n : ℕ) → 1 ≤ (raw_tag o' t n).taken
  unfolding tag_html child element_raw serialize_jsx
  tag_takes (P.element m as' cs) h n = let x = element_of o' m (attributes o' as') (children o' cs) in template_takes x.serializable x n h
  tag_takes (P.fragment cs) h n = absurd h

  pieces_take : (ps : P.Pieces) → T (piece_html o ps) → (n : ℕ) → 1 ≤ (visit_exprs (pieces o' ps) n).taken
  unfolding piece_html child visit_exprs both pure
  pieces_take P.no_pieces h n = absurd h
  pieces_take (P.source_piece b ps) h n = rw (leaf_takes 0x20 b (pieces o' ps) n) (pieces_take ps h n)
  pieces_take (P.tag_piece t ps) h n =
      let d = raw_tag o' t n in
      or_either (tag_html o t) (piece_html o ps) (λ x. omega (arith, tag_takes t (subst T (html_same t) x) n)) (λ x. omega (arith, pieces_take ps x (n + d.taken))) h

  module_takes : (p : Page) → T (has_html o p) → (n : ℕ) → 1 ≤ (visit_exprs (module_items o' p) n).taken
  unfolding has_html module_items visit_exprs both pure
  module_takes [] h n = absurd h
  module_takes (P.export_item ps ∷ is) h n = or_either (piece_html o ps) (has_html o is) (λ x. omega (arith, pieces_take ps x n)) (λ x. omega (arith, module_takes is x (n + (visit_exprs (pieces o' ps) n).taken))) h
  module_takes (P.declaration_item ps ∷ is) h n = or_either (piece_html o ps) (has_html o is) (λ x. omega (arith, pieces_take ps x n)) (λ x. omega (arith, module_takes is x (n + (visit_exprs (pieces o' ps) n).taken))) h
  module_takes (P.statement_item ps ∷ is) h n = or_either (piece_html o ps) (has_html o is) (λ x. omega (arith, pieces_take ps x n)) (λ x. omega (arith, module_takes is x (n + (visit_exprs (pieces o' ps) n).taken))) h
  module_takes (P.empty_item ∷ is) h n = rw (leaf_takes 0x13 [] (module_items o' is) n) (module_takes is h n)

pub called_sum : (r : Row) → stands 0x90 r ≡ true → 1 ≤ helper_sum r
unfolding helper_sum
called_sum r e = rw e (omega arith)

pub has_html_takes : (skip props : Bytes) (p : Page) → has_html (opts skip []) p ≡ true → 1 ≤ (transform (opts skip props) p).taken
unfolding transform
has_html_takes skip props p h = module_takes (opts skip []) (opts skip props) refl p (subst T (sym h) tt) 1

-- ---- the items with the place of the templates among them

module _ (o : Options) where
  pub not_due : (is : Page) → module_mid o false is ≡ module_items o is
  unfolding module_mid module_items
  not_due [] = refl
  not_due (P.export_item ps ∷ is) = ap (node 0x10 [] (pieces o ps)) (not_due is)
  not_due (P.declaration_item ps ∷ is) = ap (node 0x11 [] (pieces o ps)) (not_due is)
  not_due (P.statement_item ps ∷ is) = ap (node 0x12 [] (pieces o ps)) (not_due is)
  not_due (P.empty_item ∷ is) = ap (node 0x13 [] none) (not_due is)

  -- behind a field
  behind : (t : ℕ) (f : Bytes) (i r r' : Mid) (n : ℕ) (v : Row) → let d = visit_exprs i n in let e = visit_exprs r (n + d.taken) in visit_exprs r' (n + d.taken) ≡ valued v e → visit_exprs (node t f i r') n ≡ valued (field t f d.value v) (visit_exprs (node t f i r) n)
  unfolding visit_exprs both
  behind t f i r r' n v h = let d = visit_exprs i n in ap (λ (x : Done Row). then (field t f d.value x.value) d x) h

  module_visited : (is : Page) (n : ℕ) → visit_exprs (module_mid o true is) n ≡ valued (before_statement (visit_exprs (module_items o is) n).value) (visit_exprs (module_items o is) n)
  unfolding module_mid module_items before_statement visit_exprs both pure
  module_visited [] n = refl
  module_visited (P.export_item ps ∷ is) n = ap (λ (r : Mid). visit_exprs (node 0x83 [] none (node 0x10 [] (pieces o ps) r)) n) (not_due is) ∙ leaf_first 0x83 [] (node 0x10 [] (pieces o ps) (module_items o is)) n
  module_visited (P.declaration_item ps ∷ is) n = behind 0x11 [] (pieces o ps) (module_items o is) (module_mid o true is) n _ (module_visited is (n + (visit_exprs (pieces o ps) n).taken))
  module_visited (P.statement_item ps ∷ is) n = ap (λ (r : Mid). visit_exprs (node 0x83 [] none (node 0x12 [] (pieces o ps) r)) n) (not_due is) ∙ leaf_first 0x83 [] (node 0x12 [] (pieces o ps) (module_items o is)) n
  module_visited (P.empty_item ∷ is) n = behind 0x13 [] none (module_items o is) (module_mid o true is) n _ (module_visited is (n + 0))

  pub statement_same : (is : Page) (n : ℕ) → Row.has_statement (visit_exprs (module_items o is) n).value ≡ page_has_statement is
  unfolding module_items page_has_statement Row.has_statement visit_exprs both pure
  statement_same [] n = refl
  statement_same (P.export_item ps ∷ is) n = refl
  statement_same (P.declaration_item ps ∷ is) n = statement_same is (n + (visit_exprs (pieces o ps) n).taken)
  statement_same (P.statement_item ps ∷ is) n = refl
  statement_same (P.empty_item ∷ is) n = statement_same is (n + 0)

  -- the same but for the place
  pub items_visited : (is : Page) (n : ℕ) → 1 ≤ length (visit_exprs (module_items o is) n).templates →
      visit_exprs (items_mid o is) n ≡ valued (with_templates (visit_exprs (module_items o is) n).templates (visit_exprs (module_items o is) n).value) (visit_exprs (module_items o is) n)
  items_visited is n l = on (page_has_statement is) d.templates l (statement_same is n)
    where
      d : Done Row
      d = visit_exprs (module_items o is) n

      on : (h : Bool) (ts : List Template) → 1 ≤ length ts → Row.has_statement d.value ≡ h → visit_exprs (placed_before (not h) (module_mid o h is)) n ≡ valued (with_templates ts d.value) d
      on h [] l g = absurd (omega arith)
      on true (t ∷ ts) l g = unfold with_templates in module_visited is n ∙ ap (λ (c : Bool). valued (pick c (before_statement d.value) (field 0x83 [] end d.value)) d) (sym g)
      on false (t ∷ ts) l g =
          unfold with_templates in
          ap (λ (m : Mid). visit_exprs (node 0x83 [] none m) n) (not_due is) ∙ leaf_first 0x83 [] (module_items o is) n
          ∙ ap (λ (c : Bool). valued (pick c (before_statement d.value) (field 0x83 [] end d.value)) d) (sym g)

-- ---- neither the helpers called nor a body too long comes with the place

place_stands : (u : ℕ) → eqb 0x83 u ≡ false → (ts : List Template) (r : Row) → stands u (with_templates ts r) ≡ stands u r
place_stands u h ts r = templates_related (λ (r s : Row). stands u s ≡ stands u r) (λ r. refl) past past_field ts r
  where
    past : (r : Row) → stands u (field 0x83 [] end r) ≡ stands u r
    past r = unfold stands in ap (λ (b : Bool). b || stands u r) h

    past_field : (t : ℕ) (f : Bytes) (i r s : Row) → stands u s ≡ stands u r → stands u (field t f i s) ≡ stands u (field t f i r)
    past_field t f i r s e = unfold stands in ap (λ (b : Bool). eqb t u || (stands u i || b)) e

pub place_long : (ts : List Template) (r : Row) → long_body (with_templates ts r) ≡ long_body r
place_long ts r = templates_related (λ (r s : Row). long_body s ≡ long_body r) (λ r. refl) past past_field ts r
  where
    past : (r : Row) → long_body (field 0x83 [] end r) ≡ long_body r
    past r = unfold long_body bytes in refl

    past_field : (t : ℕ) (f : Bytes) (i r s : Row) → long_body s ≡ long_body r → long_body (field t f i s) ≡ long_body (field t f i r)
    past_field t f i r s e = unfold long_body in ap (λ (b : Bool). ltb 65535 (length (f ++ bytes i)) || (long_body i || b)) e

-- what the state says of a row is the same of another
pub record Alike (r s : Row) : Type 0 where
  pub jsx_alike : stands 0x94 r ≡ stands 0x94 s
  pub attr_alike : stands 0x91 r ≡ stands 0x91 s
  pub escape_alike : stands 0x92 r ≡ stands 0x92 s
  pub long_alike : long_body r ≡ long_body s

pub place_alike : (ts : List Template) (r : Row) → Alike (with_templates ts r) r
place_alike ts r = record { jsx_alike = place_stands 0x94 refl ts r; attr_alike = place_stands 0x91 refl ts r; escape_alike = place_stands 0x92 refl ts r; long_alike = place_long ts r }

-- ---- the state behind the walk

-- what is due by the flags of a result and by the bodies of that row
abbrev due_of : Done Row → Row → Due
due_of d r = graver (grave d.flags) (long_due (long_body (templates_row d.templates) || long_body r))

-- from q on, over a result of that row
abbrev pub walked : Done Row → Row → ℕ → Walk
walked d r q =
    record {
      first = 1;
      later = 1 + d.taken;
      templates = length (bytes (templates_row d.templates));
      page = q + length (bytes r);
      seen =
          record {
            jsx = stands 0x94 d.value;
            attr = stands 0x91 d.value;
            escape = stands 0x92 d.value;
            due = due_of d d.value;
          };
    }

abbrev pub world : Done Row → Row → ℕ → (t p : Bytes) → World
world d r q t p = at (recorded d.templates t 0) (put p q (bytes r)) (walked d r q)

wrote_walked : (d : Done Row) (r : Row) (q : ℕ) (t p : Bytes) → Alike r d.value → wrote (valued r d) (at t p (started q)) ≡ world d r q t p
wrote_walked d r q t p a =
    ap₂ (λ (k : ℕ) (n : Due). noted k (stands 0x94 r) (stands 0x91 r) (stands 0x92 r) n) (zero-add (length (bytes (templates_row d.templates)))) (none_graver (due_of d r))
    ∙ ap₂ (λ (x y : Bool). noted size x y (stands 0x92 r) (due_of d r)) a.jsx_alike a.attr_alike
    ∙ ap₂ (λ (x l : Bool). noted size (stands 0x94 d.value) (stands 0x91 d.value) x (graver (grave d.flags) (long_due (long_body (templates_row d.templates) || l)))) a.escape_alike a.long_alike
  where
    size : ℕ
    size = length (bytes (templates_row d.templates))

    noted : ℕ → (x y z : Bool) → Due → World
    noted k x y z n =
        at (recorded d.templates t 0) (put p q (bytes r))
        (record {
          first = 1;
          later = 1 + d.taken;
          templates = k;
          page = q + length (bytes r);
          seen = record { jsx = x; attr = y; escape = z; due = n };
        })

-- the items with the place, and without
pub items_walked : (o : Options) (is : Page) (q : ℕ) (t p : Bytes) → 1 ≤ length (transform o is).templates →
    see (items_mid o is) (at t p (started q)) ≡ world (transform o is) (with_templates (transform o is).templates (transform o is).value) q t p
unfolding see transform
items_walked o is q t p l =
    let d = visit_exprs (module_items o is) 1 in
    ap (λ (x : Done Row). wrote x (at t p (started q))) (items_visited o is 1 l) ∙ wrote_walked d (with_templates d.templates d.value) q t p (place_alike d.templates d.value)

pub module_walked : (o : Options) (is : Page) (q : ℕ) (t p : Bytes) → see (module_mid o false is) (at t p (started q)) ≡ world (transform o is) (transform o is).value q t p
unfolding see transform
module_walked o is q t p =
    let d = visit_exprs (module_items o is) 1 in
    ap (λ (m : Mid). wrote (visit_exprs m 1) (at t p (started q))) (not_due o is) ∙ wrote_walked d d.value q t p (record { jsx_alike = refl; attr_alike = refl; escape_alike = refl; long_alike = refl })

-- ---- the sum of the helpers called; the premise is `called` of spec

bit_is : (b : Bool) (n : ℕ) → pick b n 0 ≡ bit b n
bit_is true n = refl
bit_is false n = refl

more_taken : (k : ℕ) → ltb 1 (1 + k) ≡ ltb 0 k
more_taken k = let e : 1 + k ≡ suc k = omega arith in ap (ltb 1) e ∙ leb-suc-suc 1 k

pub walked_sum : (d : Done Row) (r : Row) (q : ℕ) → stands 0x90 d.value ≡ ltb 0 d.taken → sum_of (walked d r q) ≡ helper_sum d.value
unfolding helper_sum
walked_sum d r q called =
    let v = d.value in
    omega (arith, bit_is (stands 0x94 v) 1, bit_is (ltb 1 (1 + d.taken)) 2, ap (λ (b : Bool). bit b 2) (more_taken d.taken ∙ sym called), bit_is (stands 0x91 v) 4, bit_is (stands 0x92 v) 8)

-- ---- the import in front of the row

abbrev import_row : Bytes → ℕ → Row
import_row source sum = field 0x81 (source ++ ascii "/jsx-runtime") end (loose (sum ∷ []))

pub import_length : (source : Bytes) (sum : ℕ) → length (import_bytes source sum) ≡ 19 + length source
unfolding import_bytes bytes
import_length source sum =
    let s = source ++ ascii "/jsx-runtime" in
    omega (arith, length_bytes 0x82 [] (import_row source sum) end, length_bytes 0x81 s end (loose (sum ∷ [])), length-append source (ascii "/jsx-runtime"))

pub import_first : (source : Bytes) (sum : ℕ) (r : Row) → eqb sum 0 ≡ false → bytes (with_import source sum r) ≡ import_bytes source sum ++ bytes r
unfolding import_bytes with_import bytes
import_first source sum r h = rw h (ap (λ (b : Bytes). b ++ bytes r) (sym (append-nil (field_bytes 0x82 (bytes (import_row source sum))))))

-- written after the row that stands behind it
pub page_put : (page source : Bytes) (sum : ℕ) (r : Row) (q : ℕ) → q ≡ 19 + length source → eqb sum 0 ≡ false → put (put page q (bytes r)) 0 (import_bytes source sum) ≡ put page 0 (bytes (with_import source sum r))
page_put page source sum r q e h =
    let k : q ≡ 0 + length (import_bytes source sum) = omega (arith, import_length source sum) in
    ap (λ (n : ℕ). put (put page n (bytes r)) 0 (import_bytes source sum)) k ∙ put_back page 0 (import_bytes source sum) (bytes r) ∙ ap (put page 0) (sym (import_first source sum r h))
