-- The tree of a worked row is the worked tree, whatever the row. `Alike i j`: every reading of j is the worked reading of i; one induction
-- on rows. Main statement: `page_worked`. Assumes nothing.
use Prim.Native.Nat.{ℕ, ◌<◌, ◌^◌}
use mathlib.Core.Path.{◌≡◌, refl, sym, ◌∙◌, ap, ap₂, subst}
use mathlib.Core.Bool.{Bool, true, false}
use mathlib.Core.List.{[], ◌∷◌}
use native.Mathlib.Omega.{arith}
use lib.Dec.{eqb}
use lib.ListN.{take}
use lib.Seq.{take_all}
use borrow.Author.Tests.{eqb-true}
use Rattle.field.specs.Bytes.{Bytes, pick}
use Rattle.field.specs.Number.{big_endian, number_of}
use Rattle.field.specs.Row.{Row, end, loose, field}
use Rattle.field.proofs.NumberLaws.{length_big_endian, eight_read}
use Rattle.names.specs.Names as A
use Rattle.names.specs.Names.{AttrName}
use Rattle.page.specs.Number.{whole, number_bytes, number_in}
use Rattle.page.specs.Page.{Name, identifier, member, namespaced, Tag, element, fragment, attribute, spread_attribute, Value, tag_value, Children, text_child, tag_child, spread_child, Expr, number_literal, minus_literal, array_literal, other_expr, tag_expr, Items, item, spread_item, hole_item, Pieces, no_pieces, source_piece, tag_piece, ModuleItem, export_item, declaration_item, statement_item, empty_item, Page}
use Rattle.page.specs.Tree.{choose, texts_in, first_in, second_in, name_by, attr_name_by, expr_by, Contained, nothing_contained, contained, contained_value, contained_child, value_by, child_by, element_in, fragment_in, attributes_in, attr_name_in, value_in, value_behind, children_in, contained_in, expr_in, items_in, pieces_in, module_item_by, module_items_in, page_in}
use Rattle.sums.proofs.Proper.{Proper, sum_proper}
use Rattle.sums.specs.Value.{Worked}
use Rattle.sums.specs.declared.value.Sum.TheVariants.{Plus, Minus}
use Rattle.std.specs.Prelude.{Some, None}
use Rattle.worked.specs.Worked.{pieces_sum, literal_or, worked_tag, worked_attributes, worked_value, worked_children, worked_expr, worked_items, worked_pieces, worked_item, worked}
use Rattle.worked.specs.Row.{holds, field_sum, number_or, worked_row}
use Rattle.worked.proofs.Tests.{chosen, passed}

unfoldable pub worked_contained : Contained → Contained
worked_contained nothing_contained = nothing_contained
worked_contained (contained e) = contained (worked_expr e)

pub record Alike (i j : Row) : Type 0 where
  pub element_is : element_in j ≡ worked_tag (element_in i)
  pub fragment_is : fragment_in j ≡ worked_tag (fragment_in i)
  pub attributes_are : attributes_in j ≡ worked_attributes (attributes_in i)
  pub name_is : attr_name_in j ≡ attr_name_in i
  pub value_is : value_in j ≡ worked_value (value_in i)
  pub behind_is : value_behind j ≡ worked_value (value_behind i)
  pub children_are : children_in j ≡ worked_children (children_in i)
  pub contained_is : contained_in j ≡ worked_contained (contained_in i)
  pub expr_is : expr_in j ≡ worked_expr (expr_in i)
  pub items_are : items_in j ≡ worked_items (items_in i)
  pub pieces_are : pieces_in j ≡ worked_pieces (pieces_in i)

-- ---- choices by one test

step : {S U : Type 0} (g : S → U) (b : Bool) (x y : Unit {0} → S) (x' y' : Unit {0} → U) → (b ≡ true → x' tt ≡ g (x tt)) → y' tt ≡ g (y tt) → choose b x' y' ≡ g (choose b x y)
unfolding choose
step g true x y x' y' p q = p refl
step g false x y x' y' p q = q

value_joins : (c : Contained) → contained_value (worked_contained c) ≡ worked_value (contained_value c)
unfolding contained_value worked_contained worked_value
value_joins nothing_contained = refl
value_joins (contained e) = refl

child_joins : (c : Contained) (cs : Children) → contained_child (worked_contained c) (worked_children cs) ≡ worked_children (contained_child c cs)
unfolding contained_child worked_contained worked_children
child_joins nothing_contained cs = refl
child_joins (contained e) cs = refl

-- ---- a field that keeps its tag

holds_at : (t k : ℕ) → eqb t k ≡ true → holds k ≡ true → holds t ≡ true
holds_at t k e h = ap holds (eqb-true t k e) ∙ h

module _ (t : ℕ) (f : Bytes) (i j r q : Row) (h : holds t ≡ true → Alike i j) (n : holds t ≡ false → j ≡ i) (s : eqb t 0x79 ≡ true → pieces_sum (pieces_in i) ≡ None) (a : Alike r q) where
  at : (k : ℕ) → eqb t k ≡ true → holds k ≡ true → Alike i j
  at k e p = h (holds_at t k e p)

  off : (k : ℕ) → eqb t k ≡ true → holds k ≡ false → j ≡ i
  off k e p = n (ap holds (eqb-true t k e) ∙ p)

  name_kept : name_by t f j ≡ name_by t f i
  unfolding name_by holds
  name_kept =
      step (λ (x : Name). x) _ _ _ _ _ (λ _. refl)
      (step (λ (x : Name). x) _ _ _ _ _ (λ e. ap (λ (x : Row). member (texts_in 0x40 x)) (off 0x41 e refl))
      (step (λ (x : Name). x) _ _ _ _ _ (λ e. ap (λ (x : Row). namespaced (first_in (texts_in 0x40 x)) (second_in (texts_in 0x40 x))) (off 0x42 e refl)) refl))

  attr_name_kept : attr_name_by t f j ≡ attr_name_by t f i
  unfolding attr_name_by holds
  attr_name_kept =
      step (λ (x : AttrName). x) _ _ _ _ _ (λ _. refl)
      (step (λ (x : AttrName). x) _ _ _ _ _ (λ e. ap (λ (x : Row). A.namespaced (first_in (texts_in 0x40 x)) (second_in (texts_in 0x40 x))) (off 0x42 e refl)) refl)

  other_kept : eqb t 0x79 ≡ true → other_expr (pieces_in j) ≡ worked_expr (other_expr (pieces_in i))
  unfolding worked_expr literal_or holds
  other_kept e = ap other_expr (at 0x79 e refl).pieces_are ∙ sym (ap (λ (x : Worked). literal_or x (other_expr (worked_pieces (pieces_in i)))) (s e))

  expr_kept : expr_by t f (λ _. items_in j) (λ _. pieces_in j) (λ _. element_in j) (λ _. fragment_in j) ≡ worked_expr (expr_by t f (λ _. items_in i) (λ _. pieces_in i) (λ _. element_in i) (λ _. fragment_in i))
  unfolding expr_by worked_expr holds
  expr_kept =
      step worked_expr _ _ _ _ _ (λ _. refl)
      (step worked_expr _ _ _ _ _ (λ _. refl)
      (step worked_expr _ _ _ _ _ (λ _. refl)
      (step worked_expr _ _ _ _ _ (λ _. refl)
      (step worked_expr _ _ _ _ _ (λ _. refl)
      (step worked_expr _ _ _ _ _ (λ e. ap array_literal (at 0x76 e refl).items_are)
      (step worked_expr _ _ _ _ _ (λ e. other_kept e)
      (step worked_expr _ _ _ _ _ (λ e. ap tag_expr (at 0x30 e refl).element_is) (step worked_expr _ _ _ _ _ (λ e. ap tag_expr (at 0x31 e refl).fragment_is) refl))))))))

  value_kept : value_by t f (λ _. contained_in j) (λ _. element_in j) (λ _. fragment_in j) ≡ worked_value (value_by t f (λ _. contained_in i) (λ _. element_in i) (λ _. fragment_in i))
  unfolding value_by worked_value holds
  value_kept =
      step worked_value _ _ _ _ _ (λ _. refl)
      (step worked_value _ _ _ _ _ (λ e. ap contained_value (at 0x52 e refl).contained_is ∙ value_joins (contained_in i))
      (step worked_value _ _ _ _ _ (λ e. ap tag_value (at 0x30 e refl).element_is) (step worked_value _ _ _ _ _ (λ e. ap tag_value (at 0x31 e refl).fragment_is) refl)))

  child_kept : child_by t f (λ _. contained_in j) (λ _. expr_in j) (λ _. element_in j) (λ _. fragment_in j) (children_in q) ≡ worked_children (child_by t f (λ _. contained_in i) (λ _. expr_in i) (λ _. element_in i) (λ _. fragment_in i) (children_in r))
  unfolding child_by worked_children holds
  child_kept =
      step worked_children _ _ _ _ _ (λ _. ap (text_child f) a.children_are)
      (step worked_children _ _ _ _ _ (λ e. ap₂ contained_child (at 0x52 e refl).contained_is a.children_are ∙ child_joins (contained_in i) (children_in r))
      (step worked_children _ _ _ _ _ (λ e. ap₂ tag_child (at 0x30 e refl).element_is a.children_are)
      (step worked_children _ _ _ _ _ (λ e. ap₂ tag_child (at 0x31 e refl).fragment_is a.children_are)
      (step worked_children _ _ _ _ _ (λ e. ap₂ spread_child (at 0x61 e refl).expr_is a.children_are) a.children_are))))

  attributes_kept : attributes_in (field t f j q) ≡ worked_attributes (attributes_in (field t f i r))
  unfolding attributes_in worked_attributes holds
  attributes_kept =
      step worked_attributes _ _ _ _ _
      (λ e. ap₂ (λ (x : AttrName) (v : Value). attribute x v (attributes_in q)) (at 0x50 e refl).name_is (at 0x50 e refl).value_is ∙ ap (attribute (attr_name_in i) (worked_value (value_in i))) a.attributes_are)
      (step worked_attributes _ _ _ _ _ (λ e. ap₂ spread_attribute (at 0x53 e refl).expr_is a.attributes_are) refl)

  items_kept : items_in (field t f j q) ≡ worked_items (items_in (field t f i r))
  unfolding items_in worked_items holds
  items_kept =
      step worked_items _ _ _ _ _ (λ e. ap₂ spread_item (at 0x77 e refl).expr_is a.items_are)
      (step worked_items _ _ _ _ _ (λ _. ap hole_item a.items_are) (ap₂ item expr_kept a.items_are))

  pieces_kept : pieces_in (field t f j q) ≡ worked_pieces (pieces_in (field t f i r))
  unfolding pieces_in worked_pieces holds
  pieces_kept =
      step worked_pieces _ _ _ _ _ (λ _. ap (source_piece f) a.pieces_are)
      (step worked_pieces _ _ _ _ _ (λ e. ap₂ tag_piece (at 0x30 e refl).element_is a.pieces_are)
      (step worked_pieces _ _ _ _ _ (λ e. ap₂ tag_piece (at 0x31 e refl).fragment_is a.pieces_are) a.pieces_are))

  element_kept : element_in (field t f j q) ≡ worked_tag (element_in (field t f i r))
  unfolding element_in worked_tag
  element_kept = ap (λ (x : Name). element x (attributes_in q) (children_in q)) name_kept ∙ ap₂ (element (name_by t f i)) a.attributes_are a.children_are

  pub kept : Alike (field t f i r) (field t f j q)
  unfolding fragment_in attr_name_in value_in value_behind children_in contained_in expr_in worked_tag worked_contained
  kept =
      record {
        element_is = element_kept;
        fragment_is = ap fragment child_kept;
        attributes_are = attributes_kept;
        name_is = attr_name_kept;
        value_is = a.behind_is;
        behind_is = value_kept;
        children_are = child_kept;
        contained_is = ap contained expr_kept;
        expr_is = expr_kept;
        items_are = items_kept;
        pieces_are = pieces_kept;
      }

-- ---- a 79 that becomes a number

whole_back : (n : ℕ) → n < 2 ^ 64 → number_of (take 8 (big_endian 8 n [])) ≡ n
whole_back n l = ap number_of (take_all 8 (big_endian 8 n []) (omega (arith, length_big_endian 8 n []))) ∙ eight_read n l

-- what the field of a number is read as
plus_read : (n : ℕ) (is : Unit {0} → Items) (ps : Unit {0} → Pieces) (el fr : Unit {0} → Tag) → n < 2 ^ 64 → expr_by 0x71 (number_bytes (whole n)) is ps el fr ≡ number_literal (whole n)
unfolding expr_by choose number_in number_bytes
plus_read n is ps el fr l = ap (λ (x : ℕ). number_literal (whole x)) (whole_back n l)

minus_read : (n : ℕ) (is : Unit {0} → Items) (ps : Unit {0} → Pieces) (el fr : Unit {0} → Tag) → n < 2 ^ 64 → expr_by 0x75 (number_bytes (whole n)) is ps el fr ≡ minus_literal (whole n)
unfolding expr_by choose number_in number_bytes
minus_read n is ps el fr l = ap (λ (x : ℕ). minus_literal (whole x)) (whole_back n l)

literal_is : (w : Worked) (i : Row) (e : Expr) → pieces_sum (pieces_in i) ≡ w → e ≡ literal_or w (other_expr (worked_pieces (pieces_in i))) → e ≡ worked_expr (other_expr (pieces_in i))
unfolding worked_expr
literal_is w i e p l = l ∙ ap (λ (x : Worked). literal_or x (other_expr (worked_pieces (pieces_in i)))) (sym p)

-- g is the number's tag, and x the literal that it reads as
module _ (f b : Bytes) (i r q : Row) (a : Alike r q) where
  pub to_plus : (p : expr_by 0x71 b (λ _. items_in end) (λ _. pieces_in end) (λ _. element_in end) (λ _. fragment_in end) ≡ worked_expr (other_expr (pieces_in i))) → Alike (field 0x79 f i r) (field 0x71 b end q)
  unfolding element_in fragment_in attributes_in attr_name_in value_in value_behind children_in contained_in expr_in items_in pieces_in worked_tag worked_attributes worked_value worked_items worked_contained name_by attr_name_by value_by child_by choose expr_by
  to_plus p =
      record {
        element_is = ap₂ (element (identifier [])) a.attributes_are a.children_are;
        fragment_is = ap fragment a.children_are;
        attributes_are = refl;
        name_is = refl;
        value_is = a.behind_is;
        behind_is = refl;
        children_are = a.children_are;
        contained_is = ap contained p;
        expr_is = p;
        items_are = ap₂ item p a.items_are;
        pieces_are = a.pieces_are;
      }

  pub to_minus : (p : expr_by 0x75 b (λ _. items_in end) (λ _. pieces_in end) (λ _. element_in end) (λ _. fragment_in end) ≡ worked_expr (other_expr (pieces_in i))) → Alike (field 0x79 f i r) (field 0x75 b end q)
  unfolding element_in fragment_in attributes_in attr_name_in value_in value_behind children_in contained_in expr_in items_in pieces_in worked_tag worked_attributes worked_value worked_items worked_contained name_by attr_name_by value_by child_by choose expr_by
  to_minus p =
      record {
        element_is = ap₂ (element (identifier [])) a.attributes_are a.children_are;
        fragment_is = ap fragment a.children_are;
        attributes_are = refl;
        name_is = refl;
        value_is = a.behind_is;
        behind_is = refl;
        children_are = a.children_are;
        contained_is = ap contained p;
        expr_is = p;
        items_are = ap₂ item p a.items_are;
        pieces_are = a.pieces_are;
      }

-- ---- every row

pub pieces_proper : (ps : Pieces) → Proper (pieces_sum ps)
unfolding pieces_sum Proper
pieces_proper no_pieces = tt
pieces_proper (source_piece s no_pieces) = sum_proper s
pieces_proper (source_piece s (source_piece u ps)) = tt
pieces_proper (source_piece s (tag_piece t ps)) = tt
pieces_proper (tag_piece t ps) = tt

sum_at_79 : (t : ℕ) (i : Row) (b : Bool) → eqb t 0x79 ≡ b → (field_sum t i ≡ None → ⊥) → (t ≡ 0x79) × (field_sum t i ≡ pieces_sum (pieces_in i))
unfolding field_sum
sum_at_79 t i true e n = (eqb-true t 0x79 e, chosen (eqb t 0x79) _ _ e)
sum_at_79 t i false e n = absurd (n (passed (eqb t 0x79) _ _ e))

by_sum : (t : ℕ) (f : Bytes) (i j r q : Row) (w : Worked) → field_sum t i ≡ w → (holds t ≡ true → Alike i j) → (holds t ≡ false → j ≡ i) → Alike r q → Alike (field t f i r) (number_or w t f j q)
unfolding number_or field_sum Proper literal_or
by_sum t f i j r q None e h n a = kept t f i j r q h n (λ z. sym (chosen (eqb t 0x79) _ _ z) ∙ e) a
by_sum t f i j r q (Some (Plus k)) e h n a =
    let p = sum_at_79 t i (eqb t 0x79) refl (λ z. let y : Some (Plus k) ≡ None = sym e ∙ z in let x : ◌≡◌ {A = ℕ} 0 1 = cc in omega arith) in
    let s : pieces_sum (pieces_in i) ≡ Some (Plus k) = sym p.1 ∙ e in
    let l : k < 2 ^ 64 = below (subst Proper s (pieces_proper (pieces_in i))) in
    subst (λ (x : ℕ). Alike (field x f i r) (field 0x71 (number_bytes (whole k)) end q)) (sym p.0) (to_plus f (number_bytes (whole k)) i r q a (literal_is (Some (Plus k)) i _ s (plus_read k _ _ _ _ l)))
  where
    below : Proper (Some (Plus k)) → k < 2 ^ 64
    below p = omega arith
by_sum t f i j r q (Some (Minus k)) e h n a =
    let p = sum_at_79 t i (eqb t 0x79) refl (λ z. let y : Some (Minus k) ≡ None = sym e ∙ z in let x : ◌≡◌ {A = ℕ} 0 1 = cc in omega arith) in
    let s : pieces_sum (pieces_in i) ≡ Some (Minus k) = sym p.1 ∙ e in
    let l : k < 2 ^ 64 = below (subst Proper s (pieces_proper (pieces_in i))) in
    subst (λ (x : ℕ). Alike (field x f i r) (field 0x75 (number_bytes (whole k)) end q)) (sym p.0) (to_minus f (number_bytes (whole k)) i r q a (literal_is (Some (Minus k)) i _ s (minus_read k _ _ _ _ l)))
  where
    below : Proper (Some (Minus k)) → k < 2 ^ 64
    below p = omega (arith, p.1)

picked : (b : Bool) (i j : Row) → Alike i j → b ≡ true → Alike i (pick b j i)
picked true i j a e = a
picked false i j a e = absurd (let z : ◌≡◌ {A = ℕ} 0 1 = cc in omega arith)

left : (b : Bool) (i j : Row) → b ≡ false → pick b j i ≡ i
left true i j e = absurd (let z : ◌≡◌ {A = ℕ} 0 1 = cc in omega arith)
left false i j e = refl

pub alike : (x : Row) → Alike x (worked_row x)
unfolding worked_row element_in fragment_in attributes_in attr_name_in value_in value_behind children_in contained_in expr_in items_in pieces_in worked_tag worked_attributes worked_value worked_children worked_expr worked_items worked_pieces worked_contained
alike end =
    record {
      element_is = refl;
      fragment_is = refl;
      attributes_are = refl;
      name_is = refl;
      value_is = refl;
      behind_is = refl;
      children_are = refl;
      contained_is = refl;
      expr_is = refl;
      items_are = refl;
      pieces_are = refl;
    }
alike (loose b) =
    record {
      element_is = refl;
      fragment_is = refl;
      attributes_are = refl;
      name_is = refl;
      value_is = refl;
      behind_is = refl;
      children_are = refl;
      contained_is = refl;
      expr_is = refl;
      items_are = refl;
      pieces_are = refl;
    }
alike (field t f i r) =
    by_sum t f i (pick (holds t) (worked_row i) i) r (worked_row r) (field_sum t i) refl (picked (holds t) i (worked_row i) (alike i)) (left (holds t) i (worked_row i)) (alike r)

-- ---- the page

item_kept : (t : ℕ) (i j : Row) → (holds t ≡ true → pieces_in j ≡ worked_pieces (pieces_in i)) → module_item_by t j ≡ worked_item (module_item_by t i)
unfolding module_item_by worked_item holds
item_kept t i j h =
    step worked_item _ _ _ _ _ (λ e. ap export_item (h (holds_at t 0x10 e refl)))
    (step worked_item _ _ _ _ _ (λ e. ap declaration_item (h (holds_at t 0x11 e refl))) (step worked_item _ _ _ _ _ (λ e. ap statement_item (h (holds_at t 0x12 e refl))) refl))

no_item : (t : ℕ) (i : Row) → t ≡ 0x79 → empty_item ≡ worked_item (module_item_by t i)
unfolding module_item_by worked_item choose
no_item t i e = sym (ap (λ (x : ℕ). worked_item (module_item_by x i)) e)

-- the items of a page
module_by : (t : ℕ) (f : Bytes) (i j r q : Row) (w : Worked) → field_sum t i ≡ w → (holds t ≡ true → pieces_in j ≡ worked_pieces (pieces_in i)) → module_items_in q ≡ worked (module_items_in r) → module_items_in (number_or w t f j q) ≡ worked (module_items_in (field t f i r))
unfolding number_or module_items_in worked module_item_by choose
module_by t f i j r q None e h a = ap₂ (λ (x : ModuleItem) (y : Page). x ∷ y) (item_kept t i j h) a
module_by t f i j r q (Some (Plus k)) e h a =
    let p = sum_at_79 t i (eqb t 0x79) refl (λ z. let y : Some (Plus k) ≡ None = sym e ∙ z in let x : ◌≡◌ {A = ℕ} 0 1 = cc in omega arith) in
    ap₂ (λ (x : ModuleItem) (y : Page). x ∷ y) (no_item t i p.0) a
module_by t f i j r q (Some (Minus k)) e h a =
    let p = sum_at_79 t i (eqb t 0x79) refl (λ z. let y : Some (Minus k) ≡ None = sym e ∙ z in let x : ◌≡◌ {A = ℕ} 0 1 = cc in omega arith) in
    ap₂ (λ (x : ModuleItem) (y : Page). x ∷ y) (no_item t i p.0) a

modules_worked : (x : Row) → module_items_in (worked_row x) ≡ worked (module_items_in x)
unfolding worked_row module_items_in worked
modules_worked end = refl
modules_worked (loose b) = refl
modules_worked (field t f i r) =
    module_by t f i (pick (holds t) (worked_row i) i) r (worked_row r) (field_sum t i) refl (λ e. (picked (holds t) i (worked_row i) (alike i) e).pieces_are) (modules_worked r)

picked_items : (b : Bool) (i : Row) → b ≡ true → module_items_in (pick b (worked_row i) i) ≡ worked (module_items_in i)
picked_items true i e = modules_worked i
picked_items false i e = absurd (let z : ◌≡◌ {A = ℕ} 0 1 = cc in omega arith)

page_by : (t : ℕ) (f : Bytes) (i j r q : Row) (w : Worked) → field_sum t i ≡ w → (holds t ≡ true → module_items_in j ≡ worked (module_items_in i)) → page_in (number_or w t f j q) ≡ worked (page_in (field t f i r))
unfolding number_or page_in worked holds choose
page_by t f i j r q None e h = step worked _ _ _ _ _ (λ z. h (holds_at t 0x01 z refl)) refl
page_by t f i j r q (Some (Plus k)) e h =
    let p = sum_at_79 t i (eqb t 0x79) refl (λ z. let y : Some (Plus k) ≡ None = sym e ∙ z in let x : ◌≡◌ {A = ℕ} 0 1 = cc in omega arith) in
    sym (ap (λ (x : ℕ). worked (page_in (field x f i r))) p.0)
page_by t f i j r q (Some (Minus k)) e h =
    let p = sum_at_79 t i (eqb t 0x79) refl (λ z. let y : Some (Minus k) ≡ None = sym e ∙ z in let x : ◌≡◌ {A = ℕ} 0 1 = cc in omega arith) in
    sym (ap (λ (x : ℕ). worked (page_in (field x f i r))) p.0)

pub page_worked : (x : Row) → page_in (worked_row x) ≡ worked (page_in x)
unfolding worked_row page_in worked
page_worked end = refl
page_worked (loose b) = refl
page_worked (field t f i r) = page_by t f i (pick (holds t) (worked_row i) i) r (worked_row r) (field_sum t i) refl (picked_items (holds t) i)
