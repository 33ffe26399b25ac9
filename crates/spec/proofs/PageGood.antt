-- The whole page is good, by recursion on its tree. Main statement: `page_good`. Assumes nothing.
use Prim.Native.Nat.{ℕ, suc, ◌+◌, ◌-◌, ◌≤◌}
use native.Mathlib.Omega.{arith}
use mathlib.Core.Path.{◌≡◌, refl}
use mathlib.Core.Bool.{Bool, true, false, ◌&&◌, ◌||◌, not}
use mathlib.Core.List.{[], ◌∷◌}
use lib.Dec.{T, eqb}
use Rattle.page.proofs.Booleans.{or_left, or_right}
use Rattle.field.specs.Bytes.{Bytes, pick}
use Rattle.field.specs.Row.{inside}
use Rattle.page.specs.Number.{whole, scaled, number_tag, minus_tag}
use Rattle.page.specs.Page as P
use Rattle.page.specs.Page.{Page, Options}
use Rattle.page.specs.Limits.{TagOk, ElementNameOk, AttributesOk, ValueOk, ChildrenOk, ExprOk, ItemsOk, PiecesOk, ModuleItemsOk}
use Rattle.spec.specs.Pass.{Mid, none, node}
use Rattle.spec.specs.Merge as M
use Rattle.spec.specs.Attributes.{is_serializable, is_component}
use Rattle.spec.specs.Transform.{transform, element_of, fragment_of, element_raw, shape_of, child, raw_tag, attributes, value, children, expr, items, pieces, module_items}
use Rattle.spec.specs.Acceptance.{has_fragment, tag_has_fragment, attributes_have_fragment, value_has_fragment, children_have_fragment, expr_has_fragment, items_have_fragment, pieces_have_fragment}
use Rattle.spec.specs.Kept.{is_tag, listed, reads_key, key_follows, is_void}
use Rattle.spec.proofs.Good.{GoodRaw, Still, FormedBy}
use Rattle.spec.proofs.Weight.{page_weight, tag_weight, attributes_weight, value_weight, children_weight, expr_weight, items_weight, pieces_weight}
use Rattle.spec.proofs.Closure.{Visited, still_none, still_node, still_raw, still_weaken, good_visits}
use Rattle.spec.proofs.Invariant.{Invariant}
use Rattle.spec.proofs.Shapes.{Items, expr_alone, expr_bare, expr_items}
use Rattle.spec.proofs.EveryPass as W
use Rattle.spec.proofs.GoodInvariant.{good_invariant, visit_weaken}

-- ---- the tree

module _ (Fragments : Type 0) (o : Options) where
  abbrev I : Invariant
  I = good_invariant Fragments

  -- a field in front of others, which holds nothing
  leaf_on : {r : Mid} {w : ℕ} (t : ℕ) (f : Bytes) → T (not (eqb t 0x30 || eqb t 0x31)) → FormedBy (inside t) f none → Still Fragments w r → Still Fragments w (node t f none r)
  leaf_on {r} {w} t f h g x = still_weaken Fragments (omega arith) (still_node Fragments {a = 0} {b = w} t f h g (still_none Fragments 0) x)

  name_ok : (d : ℕ) (n : P.Name) → ElementNameOk d n → W.NamedOk I n
  unfolding ElementNameOk W.NamedOk good_invariant
  name_ok d (P.identifier n) h = h.1
  name_ok d (P.member ns) h = tt
  name_ok d (P.namespaced n m) h = tt

  left : (a b : Bool) → (T (a || b) → Fragments) → T a → Fragments
  left a b f t = f (or_left a b t)

  right : (a b : Bool) → (T (a || b) → Fragments) → T b → Fragments
  right a b f t = f (or_right a b t)

  -- an expression with nothing behind it
  alone : {m : Mid} {w : ℕ} → Still Fragments (w + 0) m → Still Fragments w m
  alone x = still_weaken Fragments (omega arith) x

  made : (e : P.Expr) → Still Fragments (expr_weight e) (expr o e none) → W.ExprOk I (shape_of e) (expr o e none) (expr_weight e)
  unfolding Items good_invariant
  made e x = record { held = x; alone = expr_alone o e; bare = expr_bare o e; items = expr_items o e none tt; texts = λ h. tt }

  -- what is lost need not be paid for
  unlost : (b : Bool) (x y : ℕ) → pick b 0 x + y + pick b x 0 ≡ x + y
  unlost true x y = omega arith
  unlost false x y = omega arith

  either_way : (s v : Bool) (a c : ℕ) → 1 + pick s (0 + (a + pick v 0 c)) (a + c) ≤ suc (a + c)
  either_way true true a c = omega arith
  either_way true false a c = omega arith
  either_way false v a c = omega arith

  element_within : (n : P.Name) (as' : P.Attributes) (cs : P.Children) → W.NamedOk I n → W.AttributesOk I o (not (is_component n)) (attributes o as') (attributes_weight as') (attributes_weight as') →
      W.ChildrenOk I (children o cs) (children_weight cs) → W.ElementOk I (element_of o n (attributes o as') (children o cs)) (suc (attributes_weight as' + children_weight cs))
  unfolding W.ChildOk good_invariant
  element_within n as' cs ok g h =
      let a = attributes_weight as' in
      let c = children_weight cs in
      let s = is_serializable o n (attributes o as') in
      let used = 1 + pick s (0 + (a + pick (is_void n) 0 c)) (a + c) in
      W.child_spare I (M.element (element_of o n (attributes o as') (children o cs))) (suc (a + c) - used) used (suc (a + c)) (omega (arith, either_way s (is_void n) a c)) tt
      (W.element_ok I o n ok (attributes o as') (children o cs) a a c g h)

  mutual
    unfolding child TagOk tag_weight tag_has_fragment W.ChildOk W.AttributesOk W.ValueOk W.ChildrenOk FormedBy inside good_invariant element_raw number_tag minus_tag

    tag_child : (t : P.Tag) (d : ℕ) → TagOk t d → (T (tag_has_fragment t) → Fragments) → W.ChildOk I (child o t) (tag_weight t)
    tag_child (P.element n as' cs) d h f =
        element_within n as' cs (name_ok (suc d) n h.1) (attributes_good as' (not (is_component n)) (suc d) h.2 (left (attributes_have_fragment as') (children_have_fragment cs) f)) (children_good cs (suc d) h.3 (right (attributes_have_fragment as') (children_have_fragment cs) f))
    tag_child (P.fragment cs) d h f =
        W.child_spare I (M.fragment (fragment_of (children o cs))) 0 (1 + children_weight cs) (suc (children_weight cs)) (omega arith) tt (W.fragment_ok I (f tt) (children o cs) (children_weight cs) (children_good cs (suc d) h.1 (λ t. f tt)))

    tag_raw : (t : P.Tag) (d : ℕ) → TagOk t d → (T (tag_has_fragment t) → Fragments) → GoodRaw Fragments (tag_weight t) (raw_tag o t)
    tag_raw (P.element n as' cs) d h f =
        let e = element_within n as' cs (name_ok (suc d) n h.1) (attributes_good as' (not (is_component n)) (suc d) h.2 (left (attributes_have_fragment as') (children_have_fragment cs) f)) (children_good cs (suc d) h.3 (right (attributes_have_fragment as') (children_have_fragment cs) f)) in
        record { visits = W.element_visits I _ e }
    tag_raw (P.fragment cs) d h f =
        let g = children_good cs (suc d) h.1 (λ t. f tt) in
        record { visits = λ n. visit_weaken Fragments (omega arith) (W.fragment_visits I (f tt) (children o cs) (children_weight cs) g n) }

    attributes_good : (as' : P.Attributes) (norm : Bool) (d : ℕ) → AttributesOk as' d → (T (attributes_have_fragment as') → Fragments) → W.AttributesOk I o norm (attributes o as') (attributes_weight as') (attributes_weight as')
    attributes_good P.no_attributes norm d h f = (tt, tt)
    attributes_good (P.attribute n v as') norm d h f =
        let in_tag : Bool = not (listed o n) && is_tag (value o v) in
        let in_call : Bool = is_tag (value o v) || (reads_key norm n && key_follows norm (attributes o as')) in
        record {
          own = value_weight v;
          opening = attributes_weight as';
          call = attributes_weight as';
          opening_spared = pick in_tag (value_weight v) 0;
          call_spared = pick in_call (value_weight v) 0;
          holds = value_good v (suc d) h.2 (left (value_has_fragment v) (attributes_have_fragment as') f);
          rest = attributes_good as' norm d h.3 (right (value_has_fragment v) (attributes_have_fragment as') f);
          opening_spare = tt;
          call_spare = tt;
          in_opening = unlost in_tag (value_weight v) (attributes_weight as');
          in_call = unlost in_call (value_weight v) (attributes_weight as');
        }
    attributes_good (P.spread_attribute e as') norm d h f =
        record {
          own = expr_weight e;
          opening = attributes_weight as';
          call = attributes_weight as';
          opening_spared = 0;
          call_spared = 0;
          holds = alone (expr_on e none (suc d) h.1 (left (expr_has_fragment e) (attributes_have_fragment as') f) (still_none Fragments 0));
          rest = attributes_good as' norm d h.2 (right (expr_has_fragment e) (attributes_have_fragment as') f);
          opening_spare = tt;
          call_spare = tt;
          in_opening = omega arith;
          in_call = omega arith;
        }

    value_good : (v : P.Value) (d : ℕ) → ValueOk v d → (T (value_has_fragment v) → Fragments) → W.ValueOk I (value o v) (value_weight v)
    value_good P.absent d h f = tt
    value_good (P.string_value b) d h f = tt
    value_good P.empty_value d h f = tt
    value_good (P.container_value e) d h f = made e (alone (expr_on e none (suc d) h.1 f (still_none Fragments 0)))
    value_good (P.tag_value t) d h f = (tag_raw t d h f).visits

    children_good : (cs : P.Children) (d : ℕ) → ChildrenOk cs d → (T (children_have_fragment cs) → Fragments) → W.ChildrenOk I (children o cs) (children_weight cs)
    children_good P.no_children d h f = tt
    children_good (P.text_child b cs) d h f = W.split I 0 (children_weight cs) (omega arith) tt (children_good cs d h.2 f)
    children_good (P.empty_child cs) d h f = W.split I 0 (children_weight cs) (omega arith) tt (children_good cs d h.1 f)
    children_good (P.container_child e cs) d h f =
        W.split I (expr_weight e) (children_weight cs) refl (made e (alone (expr_on e none (suc d) h.1 (left (expr_has_fragment e) (children_have_fragment cs) f) (still_none Fragments 0)))) (children_good cs d h.2 (right (expr_has_fragment e) (children_have_fragment cs) f))
    children_good (P.tag_child t cs) d h f =
        W.split I (tag_weight t) (children_weight cs) refl (tag_child t d h.0 (left (tag_has_fragment t) (children_have_fragment cs) f)) (children_good cs d h.1 (right (tag_has_fragment t) (children_have_fragment cs) f))
    children_good (P.spread_child e cs) d h f =
        W.split I 0 (children_weight cs) (omega arith) tt
        (children_good cs d h.2 (right (expr_has_fragment e) (children_have_fragment cs) f))

    -- in front of others
    expr_on : (e : P.Expr) (r : Mid) {b : ℕ} (d : ℕ) → ExprOk e d → (T (expr_has_fragment e) → Fragments) → Still Fragments b r → Still Fragments (expr_weight e + b) (expr o e r)
    expr_on (P.string_literal s) r d h f x = still_weaken Fragments (omega arith) (leaf_on 0x70 s tt tt x)
    expr_on (P.number_literal (whole n)) r d h f x = still_weaken Fragments (omega arith) (leaf_on 0x71 _ tt tt x)
    expr_on (P.number_literal (scaled n p)) r d h f x = still_weaken Fragments (omega arith) (leaf_on 0x7a _ tt tt x)
    expr_on (P.boolean_literal c) r d h f x = still_weaken Fragments (omega arith) (leaf_on 0x72 _ tt tt x)
    expr_on P.null_literal r d h f x = still_weaken Fragments (omega arith) (leaf_on 0x73 [] tt tt x)
    expr_on (P.other_literal s) r d h f x = still_weaken Fragments (omega arith) (leaf_on 0x74 s tt tt x)
    expr_on (P.minus_literal (whole n)) r d h f x = still_weaken Fragments (omega arith) (leaf_on 0x75 _ tt tt x)
    expr_on (P.minus_literal (scaled n p)) r d h f x = still_weaken Fragments (omega arith) (leaf_on 0x7b _ tt tt x)
    expr_on (P.array_literal is) r d h f x = still_node Fragments 0x76 [] tt tt (items_still is (suc d) h.1 f) x
    expr_on (P.other_expr ps) r d h f x = still_node Fragments 0x79 [] tt tt (pieces_still ps (suc d) h.1 f) x
    expr_on (P.tag_expr t) r d h f x = still_raw Fragments (tag_raw t d h f) x

    items_still : (is : P.Items) (d : ℕ) → ItemsOk is d → (T (items_have_fragment is) → Fragments) → Still Fragments (items_weight is) (items o is)
    items_still P.no_items d h f = still_none Fragments 0
    items_still (P.item e is) d h f = expr_on e (items o is) d h.0 (left (expr_has_fragment e) (items_have_fragment is) f) (items_still is d h.1 (right (expr_has_fragment e) (items_have_fragment is) f))
    items_still (P.spread_item e is) d h f =
        still_node Fragments 0x77 [] tt tt (alone (expr_on e none (suc d) h.1 (left (expr_has_fragment e) (items_have_fragment is) f) (still_none Fragments 0))) (items_still is d h.2 (right (expr_has_fragment e) (items_have_fragment is) f))
    items_still (P.hole_item is) d h f = leaf_on 0x78 [] tt tt (items_still is d h.1 f)

    pieces_still : (ps : P.Pieces) (d : ℕ) → PiecesOk ps d → (T (pieces_have_fragment ps) → Fragments) → Still Fragments (pieces_weight ps) (pieces o ps)
    pieces_still P.no_pieces d h f = still_none Fragments 0
    pieces_still (P.source_piece b ps) d h f = leaf_on 0x20 b tt tt (pieces_still ps d h.2 f)
    pieces_still (P.tag_piece t ps) d h f = still_raw Fragments (tag_raw t d h.0 (left (tag_has_fragment t) (pieces_have_fragment ps) f)) (pieces_still ps d h.1 (right (tag_has_fragment t) (pieces_have_fragment ps) f))

  module_still : (p : Page) → ModuleItemsOk p → (T (has_fragment p) → Fragments) → Still Fragments (page_weight p) (module_items o p)
  unfolding module_items ModuleItemsOk page_weight has_fragment FormedBy inside
  module_still [] h f = still_none Fragments 0
  module_still (P.export_item ps ∷ is) h f = still_node Fragments 0x10 [] tt tt (pieces_still ps 3 h.0 (left (pieces_have_fragment ps) (has_fragment is) f)) (module_still is h.1 (right (pieces_have_fragment ps) (has_fragment is) f))
  module_still (P.declaration_item ps ∷ is) h f = still_node Fragments 0x11 [] tt tt (pieces_still ps 3 h.0 (left (pieces_have_fragment ps) (has_fragment is) f)) (module_still is h.1 (right (pieces_have_fragment ps) (has_fragment is) f))
  module_still (P.statement_item ps ∷ is) h f = still_node Fragments 0x12 [] tt tt (pieces_still ps 3 h.0 (left (pieces_have_fragment ps) (has_fragment is) f)) (module_still is h.1 (right (pieces_have_fragment ps) (has_fragment is) f))
  module_still (P.empty_item ∷ is) h f = leaf_on 0x13 [] tt tt (module_still is h f)

module _ (Fragments : Type 0) where
  pub page_good : (o : Options) (p : Page) → ModuleItemsOk p → (T (has_fragment p) → Fragments) → Visited Fragments (page_weight p) (transform o p)
  unfolding transform good_invariant
  page_good o p ok f = good_visits Fragments (module_items o p) (module_still Fragments o p ok f).clean 1
