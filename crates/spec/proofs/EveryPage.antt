-- Every page keeps an invariant that asks nothing of names and flags, and in which a tag weighs nothing by itself: the knot over the tree.
-- Main statement: `page_ok`. Assumes nothing.
use Prim.Native.Nat.{ℕ, ◌+◌}
use native.Mathlib.Omega.{arith}
use mathlib.Core.Path.{◌≡◌, refl, subst}
use mathlib.Core.Bool.{Bool, not}
use mathlib.Core.List.{[], ◌∷◌}
use lib.Dec.{T}
use Rattle.field.specs.Bytes.{Bytes}
use Rattle.field.specs.Row.{inside}
use Rattle.page.specs.Number.{whole, scaled, number_tag, minus_tag}
use Rattle.page.specs.Page as P
use Rattle.page.specs.Page.{Name, identifier, member, namespaced, Options, Page}
use Rattle.spec.specs.Pass.{Mid, none}
use Rattle.spec.specs.Attributes.{is_component}
use Rattle.spec.specs.Transform.{shape_of, child, raw_tag, attributes, value, children, expr, items, pieces, module_items}
use Rattle.spec.specs.Kept.{own_pieces, in_tag, in_opening, in_call, in_value, in_children, in_expr, in_items, in_pieces, in_page}
use Rattle.spec.proofs.Good.{FormedBy}
use Rattle.spec.proofs.Invariant.{Invariant}
use Rattle.spec.proofs.Shapes.{is_text, Items, expr_alone, expr_bare, expr_items, pieces_sources}
use Rattle.spec.proofs.EveryPass.{ExprOk, ElementOk, FragmentOk, ChildOk, ChildrenOk, ValueOk, AttributesOk, split, NamedOk, element_ok, fragment_ok, element_visits, fragment_visits}

nothing_behind : {a : ℕ} → a + 0 ≡ a
nothing_behind = omega arith

-- where a tag weighs nothing by itself, and nothing is asked of names and flags
module _ (I : Invariant) (light : I.tag ≡ 0) (spares : (w : ℕ) → w ≡ 0 → I.Spare w) (left_ok : I.Left) (names_ok : (n : Bytes) → I.NameOk n) (o : Options) where
  open I use {literal, other, own, tag, Spare, MidOk, VisitOk, spare_none, mid_none, mid_node, mid_literal, mid_other, mid_raw}

  text_weightless : (e : P.Expr) → T (is_text (shape_of e)) → in_expr literal other own o e ≡ 0
  unfolding is_text shape_of in_expr
  text_weightless (P.string_literal b) h = refl
  text_weightless (P.number_literal n) h = refl
  text_weightless (P.boolean_literal b) h = refl
  text_weightless P.null_literal h = refl
  text_weightless (P.other_literal b) h = absurd h
  text_weightless (P.minus_literal n) h = refl
  text_weightless (P.array_literal is) h = absurd h
  text_weightless (P.other_expr ps) h = absurd h
  text_weightless (P.tag_expr t) h = absurd h

  contained : (e : P.Expr) → MidOk 0 (expr o e none) (in_expr literal other own o e) → ExprOk I (shape_of e) (expr o e none) (in_expr literal other own o e)
  unfolding Items
  contained e x = record { held = x; alone = expr_alone o e; bare = expr_bare o e; items = expr_items o e none tt; texts = λ h. spares _ (text_weightless e h) }

  named : (n : P.Name) → NamedOk I n
  unfolding NamedOk
  named (P.identifier n) = names_ok n
  named (P.member ns) = tt
  named (P.namespaced n m) = tt

  lighten : {w : ℕ} → tag + w ≡ w
  lighten = omega (arith, light)

  mutual
    unfolding child in_tag ChildOk ChildrenOk ValueOk AttributesOk own_pieces FormedBy inside number_tag minus_tag

    child_ok : (t : P.Tag) → ChildOk I (child o t) (in_tag literal other own o t)
    child_ok (P.element n as' cs) = subst (ElementOk I _) lighten (element_ok I o n (named n) (attributes o as') (children o cs) _ _ _ (attributes_ok as' (not (is_component n))) (children_ok cs))
    child_ok (P.fragment cs) = subst (FragmentOk I _) lighten (fragment_ok I left_ok (children o cs) _ (children_ok cs))

    tag_ok : (t : P.Tag) → VisitOk (raw_tag o t) (in_tag literal other own o t)
    tag_ok (P.element n as' cs) = subst (VisitOk _) lighten (element_visits I _ (element_ok I o n (named n) (attributes o as') (children o cs) _ _ _ (attributes_ok as' (not (is_component n))) (children_ok cs)))
    tag_ok (P.fragment cs) = subst (VisitOk _) lighten (fragment_visits I left_ok (children o cs) _ (children_ok cs))

    attributes_ok : (as' : P.Attributes) (norm : Bool) → AttributesOk I o norm (attributes o as') (in_opening literal other own o as') (in_call literal other own o norm as')
    attributes_ok P.no_attributes norm = (spare_none, spare_none)
    attributes_ok (P.attribute n v as') norm = record { own = in_value literal other own o v; opening = in_opening literal other own o as'; call = in_call literal other own o norm as'; holds = value_ok v; opening_spared = 0; call_spared = 0; opening_spare = spare_none; call_spare = spare_none; rest = attributes_ok as' norm; in_opening = omega arith; in_call = omega arith }
    attributes_ok (P.spread_attribute e as') norm = record { own = in_expr literal other own o e; opening = in_opening literal other own o as'; call = in_call literal other own o norm as'; holds = expr_ok e none nothing_behind mid_none; opening_spared = 0; call_spared = 0; opening_spare = spare_none; call_spare = spare_none; rest = attributes_ok as' norm; in_opening = omega arith; in_call = omega arith }

    value_ok : (v : P.Value) → ValueOk I (value o v) (in_value literal other own o v)
    value_ok P.absent = spare_none
    value_ok (P.string_value b) = spare_none
    value_ok P.empty_value = spare_none
    value_ok (P.container_value e) = contained e (expr_ok e none nothing_behind mid_none)
    value_ok (P.tag_value t) = tag_ok t

    children_ok : (cs : P.Children) → ChildrenOk I (children o cs) (in_children literal other own o cs)
    children_ok P.no_children = spare_none
    children_ok (P.text_child b cs) = split I 0 (in_children literal other own o cs) (omega arith) spare_none (children_ok cs)
    children_ok (P.empty_child cs) = split I 0 (in_children literal other own o cs) (omega arith) spare_none (children_ok cs)
    children_ok (P.container_child e cs) = split I (in_expr literal other own o e) (in_children literal other own o cs) refl (contained e (expr_ok e none nothing_behind mid_none)) (children_ok cs)
    children_ok (P.tag_child t cs) = split I (in_tag literal other own o t) (in_children literal other own o cs) refl (child_ok t) (children_ok cs)
    children_ok (P.spread_child e cs) = split I 0 (in_children literal other own o cs) (omega arith) spare_none (children_ok cs)

    -- in front of others
    expr_ok : (e : P.Expr) (r : Mid) {v w : ℕ} → in_expr literal other own o e + v ≡ w → MidOk 0 r v → MidOk 0 (expr o e r) w
    expr_ok (P.string_literal b) r k x = mid_node 0x70 _ tt tt (omega arith) k mid_none x
    expr_ok (P.number_literal (whole n)) r k x = mid_node 0x71 _ tt tt (omega arith) k mid_none x
    expr_ok (P.number_literal (scaled n p)) r k x = mid_node 0x7a _ tt tt (omega arith) k mid_none x
    expr_ok (P.boolean_literal b) r k x = mid_node 0x72 _ tt tt (omega arith) k mid_none x
    expr_ok P.null_literal r k x = mid_node 0x73 _ tt tt (omega arith) k mid_none x
    expr_ok (P.other_literal b) r k x = mid_literal b k x
    expr_ok (P.minus_literal (whole n)) r k x = mid_node 0x75 _ tt tt (omega arith) k mid_none x
    expr_ok (P.minus_literal (scaled n p)) r k x = mid_node 0x7b _ tt tt (omega arith) k mid_none x
    expr_ok (P.array_literal is) r k x = mid_node 0x76 _ tt tt (omega arith) k (items_ok is) x
    expr_ok (P.other_expr ps) r k x = mid_other (pieces o ps) (rw (pieces_sources o ps) (omega arith)) (pieces_ok ps) x
    expr_ok (P.tag_expr t) r k x = mid_raw k (tag_ok t) x

    items_ok : (is : P.Items) → MidOk 0 (items o is) (in_items literal other own o is)
    items_ok P.no_items = mid_none
    items_ok (P.item e is) = expr_ok e (items o is) refl (items_ok is)
    items_ok (P.spread_item e is) = mid_node 0x77 [] tt tt (omega arith) refl (expr_ok e none nothing_behind mid_none) (items_ok is)
    items_ok (P.hole_item is) = mid_node 0x78 [] tt tt (omega arith) (omega arith) mid_none (items_ok is)

    pieces_ok : (ps : P.Pieces) → MidOk 0 (pieces o ps) (in_pieces literal other own o ps)
    pieces_ok P.no_pieces = mid_none
    pieces_ok (P.source_piece b ps) = mid_node 0x20 b tt tt (omega arith) (omega arith) mid_none (pieces_ok ps)
    pieces_ok (P.tag_piece t ps) = mid_raw refl (tag_ok t) (pieces_ok ps)

  pub page_ok : (p : Page) → MidOk 0 (module_items o p) (in_page literal other own o p)
  unfolding module_items in_page FormedBy inside
  page_ok [] = mid_none
  page_ok (P.export_item ps ∷ is) = mid_node 0x10 [] tt tt (omega arith) refl (pieces_ok ps) (page_ok is)
  page_ok (P.declaration_item ps ∷ is) = mid_node 0x11 [] tt tt (omega arith) refl (pieces_ok ps) (page_ok is)
  page_ok (P.statement_item ps ∷ is) = mid_node 0x12 [] tt tt (omega arith) refl (pieces_ok ps) (page_ok is)
  page_ok (P.empty_item ∷ is) = mid_node 0x13 [] tt tt (omega arith) (omega arith) mid_none (page_ok is)
