-- The whole page keeps the grammar of a page out, by recursion on its tree within 01's limits. Main statements: `page_texts`, `page_row_formed`.
-- Assumes nothing.
use Prim.Native.Nat.{ℕ, suc}
use mathlib.Core.Path.{◌≡◌, refl, sym, ap, ◌∙◌, subst}
use mathlib.Core.Bool.{Bool, true, false, not}
use mathlib.Core.List.{[], ◌∷◌}
use lib.Dec.{T, eqb}
use Rattle.page.proofs.Booleans.{is_true}
use Rattle.field.specs.Bytes.{Bytes, pick}
use Rattle.utf8.specs.Utf8.{utf8}
use Rattle.page.specs.Check.{check_text, check_empty, check_boolean}
use Rattle.page.specs.Encode.{boolean_byte}
use Rattle.page.specs.Limits.{TagOk, AttributesOk, ValueOk, ChildrenOk, ExprOk, ItemsOk, PiecesOk, ModuleItemsOk}
use Rattle.page.specs.Number.{in_range, Number, whole, scaled, number_tag, minus_tag, number_bytes}
use Rattle.page.specs.Page as P
use Rattle.page.specs.Page.{Page, Options}
use Rattle.refusal.specs.Refusal.{Fine}
use Rattle.page.specs.Tree.{choose}
use Rattle.page.proofs.NumberLaws.{whole_back, scaled_back}
use Rattle.outs.specs.Held.{nests}
use Rattle.outs.specs.PageOut.{expression, left, within, check_leaf}
use Rattle.outs.specs.declared.Expect.{Expect}
use Rattle.outs.specs.declared.Expect.TheVariants as E
use Rattle.spec.specs.Pass.{Raw, Mid, none, node, raw}
use Rattle.spec.specs.Transform.{transform, shape_of, child, raw_tag, attributes, value, children, expr, items, pieces, module_items}
use Rattle.spec.proofs.Characters.{Text}
use Rattle.spec.proofs.Texts.{attr_name_text}
use Rattle.convert.proofs.Formed.{FormedRow, AllTexts, FormedRaw, Takes, Formed, Stands, formed_none, formed_leaf, formed_nest, takes_pieces, takes_elements, takes_one, visits_texts, visits_row}
use Rattle.convert.proofs.EveryTag as W
use Rattle.convert.proofs.EveryTag.{Contained, ShapeText, text_fine, name_leaf, string_leaf}

utf8_text : (b : Bytes) → T (utf8 b) → Text b
utf8_text b h = is_true (utf8 b) h

boolean_fine : (b : Bool) → check_leaf 0x72 (boolean_byte b ∷ []) ≡ Fine
unfolding check_leaf choose check_boolean
boolean_fine true = refl
boolean_fine false = refl

-- ---- an expression in front of others

module _ {c : Expect} (k : Takes c) where
  leaf_in : (t : ℕ) (f : Bytes) {r : Mid} → expression t ≡ true → nests t ≡ false → check_leaf t f ≡ Fine → Stands (left c 0x90) r → Stands c (node t f none r)
  leaf_in t f {r} a n h x = let e = k t a in formed_leaf t f e.0 n h (subst (λ (y : Expect). Stands y r) (sym e.1) x)

  nest_in : (t : ℕ) {i r : Mid} → expression t ≡ true → nests t ≡ true → eqb t 0x90 ≡ false → Stands (within t) i → Stands (left c 0x90) r → Stands c (node t [] i r)
  nest_in t {i} {r} a n z x y = let e = k t a in formed_nest t e.0 n (ap (λ (b : Bool). pick b 4 0) z) x (subst (λ (y : Expect). Stands y r) (sym e.1) y)

  raw_in : {q : Raw} {r : Mid} → FormedRaw q → Stands (left c 0x90) r → Stands c (raw q r)
  unfolding Formed
  raw_in g x = record { formed = (k, g, x.formed) }

  number_in : (n : Number) {r : Mid} → T (in_range n) → Stands (left c 0x90) r → Stands c (node (number_tag n) (number_bytes n) none r)
  unfolding number_tag check_leaf choose
  number_in (whole n) h x = leaf_in 0x71 _ refl refl (whole_back 0x71 n refl h).0 x
  number_in (scaled n p) h x = leaf_in 0x7a _ refl refl (scaled_back 0x7a n p refl h).0 x

  minus_in : (n : Number) {r : Mid} → T (in_range n) → Stands (left c 0x90) r → Stands c (node (minus_tag n) (number_bytes n) none r)
  unfolding minus_tag check_leaf choose
  minus_in (whole n) h x = leaf_in 0x75 _ refl refl (whole_back 0x75 n refl h).0 x
  minus_in (scaled n p) h x = leaf_in 0x7b _ refl refl (scaled_back 0x7b n p refl h).0 x

  text_in : (t : ℕ) (b : Bytes) {r : Mid} → expression t ≡ true → nests t ≡ false → check_leaf t b ≡ check_text b → Text b → Stands (left c 0x90) r → Stands c (node t b none r)
  text_in t b a n e h x = leaf_in t b a n (e ∙ text_fine b h) x

-- ---- the tree

module _ (o : Options) where
  mutual
    unfolding child raw_tag attributes value children expr items pieces shape_of ShapeText TagOk W.ChildOk W.ChildrenOk W.ValueOk W.AttributesOk within check_leaf choose check_empty

    tag_child : (t : P.Tag) (d : ℕ) → TagOk t d → W.ChildOk (child o t)
    tag_child (P.element n as' cs) d h = W.element_formed o (suc d) n (attributes o as') (children o cs) h.1 (attributes_formed as' (suc d) h.2) (children_formed cs (suc d) h.3)
    tag_child (P.fragment cs) d h = W.fragment_formed (children o cs) (children_formed cs (suc d) h.1)

    tag_raw : (t : P.Tag) (d : ℕ) → TagOk t d → FormedRaw (raw_tag o t)
    tag_raw (P.element n as' cs) d h = W.element_raw_formed _ (W.element_formed o (suc d) n (attributes o as') (children o cs) h.1 (attributes_formed as' (suc d) h.2) (children_formed cs (suc d) h.3))
    tag_raw (P.fragment cs) d h = W.fragment_raw_formed (children o cs) (children_formed cs (suc d) h.1)

    attributes_formed : (as' : P.Attributes) (d : ℕ) → AttributesOk as' d → W.AttributesOk (attributes o as')
    attributes_formed P.no_attributes d h = tt
    attributes_formed (P.attribute n v as') d h = ((λ norm. attr_name_text (suc d) n norm h.1), value_formed v (suc d) h.2, attributes_formed as' d h.3)
    attributes_formed (P.spread_attribute e as') d h = (expr_formed takes_one e (suc d) h.1 (formed_none refl), attributes_formed as' d h.2)

    value_formed : (v : P.Value) (d : ℕ) → ValueOk v d → W.ValueOk (value o v)
    value_formed P.absent d h = tt
    value_formed (P.string_value b) d h = utf8_text b h.1
    value_formed P.empty_value d h = tt
    value_formed (P.container_value e) d h = record { stands = expr_formed takes_one e (suc d) h.1 (formed_none refl); text_is = shape_text e (suc d) h.1 }
    value_formed (P.tag_value t) d h = tag_raw t d h

    children_formed : (cs : P.Children) (d : ℕ) → ChildrenOk cs d → W.ChildrenOk (children o cs)
    children_formed P.no_children d h = tt
    children_formed (P.text_child b cs) d h = (utf8_text b h.1, children_formed cs d h.2)
    children_formed (P.empty_child cs) d h = (tt, children_formed cs d h.1)
    children_formed (P.container_child e cs) d h = (record { stands = expr_formed takes_one e (suc d) h.1 (formed_none refl); text_is = shape_text e (suc d) h.1 }, children_formed cs d h.2)
    children_formed (P.tag_child t cs) d h = (tag_child t d h.0, children_formed cs d h.1)
    children_formed (P.spread_child e cs) d h = (tt, children_formed cs d h.2)

    shape_text : (e : P.Expr) (d : ℕ) → ExprOk e d → ShapeText (shape_of e)
    shape_text (P.string_literal b) d h = utf8_text b h.1
    shape_text (P.number_literal n) d h = tt
    shape_text (P.boolean_literal b) d h = tt
    shape_text P.null_literal d h = tt
    shape_text (P.other_literal b) d h = tt
    shape_text (P.minus_literal n) d h = tt
    shape_text (P.array_literal is) d h = tt
    shape_text (P.other_expr ps) d h = tt
    shape_text (P.tag_expr t) d h = tt

    -- in front of others
    expr_formed : {c : Expect} {r : Mid} → Takes c → (e : P.Expr) (d : ℕ) → ExprOk e d → Stands (left c 0x90) r → Stands c (expr o e r)
    expr_formed k (P.string_literal b) d h x = text_in k 0x70 b refl refl refl (utf8_text b h.1) x
    expr_formed k (P.number_literal n) d h x = number_in k n h.1 x
    expr_formed k (P.boolean_literal b) d h x = leaf_in k 0x72 _ refl refl (boolean_fine b) x
    expr_formed k P.null_literal d h x = leaf_in k 0x73 [] refl refl refl x
    expr_formed k (P.other_literal b) d h x = text_in k 0x74 b refl refl refl (utf8_text b h.1) x
    expr_formed k (P.minus_literal n) d h x = minus_in k n h.1 x
    expr_formed k (P.array_literal is) d h x = nest_in k 0x76 refl refl refl (items_formed is (suc d) h.1) x
    expr_formed k (P.other_expr ps) d h x = nest_in k 0x79 refl refl refl (pieces_formed ps (suc d) h.1) x
    expr_formed k (P.tag_expr t) d h x = raw_in k (tag_raw t d h) x

    items_formed : (is : P.Items) (d : ℕ) → ItemsOk is d → Stands E.Elements (items o is)
    items_formed P.no_items d h = formed_none refl
    items_formed (P.item e is) d h = expr_formed takes_elements e d h.0 (items_formed is d h.1)
    items_formed (P.spread_item e is) d h = formed_nest 0x77 refl refl refl (expr_formed takes_one e (suc d) h.1 (formed_none refl)) (items_formed is d h.2)
    items_formed (P.hole_item is) d h = formed_leaf 0x78 [] refl refl refl (items_formed is d h.1)

    pieces_formed : (ps : P.Pieces) (d : ℕ) → PiecesOk ps d → Stands E.Pieces (pieces o ps)
    pieces_formed P.no_pieces d h = formed_none refl
    pieces_formed (P.source_piece b ps) d h = formed_leaf 0x20 b refl refl (text_fine b (utf8_text b h.1)) (pieces_formed ps d h.2)
    pieces_formed (P.tag_piece t ps) d h = raw_in takes_pieces (tag_raw t d h.0) (pieces_formed ps d h.1)

  -- the items, behind the place of the templates
  page_formed : (p : Page) → ModuleItemsOk p → Stands E.Rest (module_items o p)
  unfolding module_items ModuleItemsOk within check_leaf choose check_empty
  page_formed [] h = formed_none refl
  page_formed (P.export_item ps ∷ is) h = formed_nest 0x10 refl refl refl (pieces_formed ps 3 h.0) (page_formed is h.1)
  page_formed (P.declaration_item ps ∷ is) h = formed_nest 0x11 refl refl refl (pieces_formed ps 3 h.0) (page_formed is h.1)
  page_formed (P.statement_item ps ∷ is) h = formed_nest 0x12 refl refl refl (pieces_formed ps 3 h.0) (page_formed is h.1)
  page_formed (P.empty_item ∷ is) h = formed_leaf 0x13 [] refl refl refl (page_formed is h)

  module _ (p : Page) (ok : ModuleItemsOk p) where
    pub page_texts : AllTexts (transform o p).templates
    unfolding transform
    page_texts = visits_texts (page_formed p ok) 1

    pub page_row_formed : T (not (transform o p).flags.left) → FormedRow E.Rest (transform o p).value
    unfolding transform
    page_row_formed h = visits_row (page_formed p ok) 1 h
