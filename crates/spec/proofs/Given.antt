-- The page that is given (02, A12) is a page within the limits, its length apart, and has as many tags and fragments as the page that came:
-- a sum stands alone in its 79, so working it out takes no tag away. Main statements: `given_ok`, `given_weight`, `given_fragment`.
-- Assumes nothing.
use Prim.Native.Nat.{ℕ, suc, ◌+◌}
use mathlib.Core.Path.{◌≡◌, refl, ap, ap₂}
use mathlib.Core.Bool.{Bool, true, false, ◌||◌}
use mathlib.Core.List.{[], ◌∷◌}
use Rattle.page.specs.Page.{Tag, element, fragment, Attributes, no_attributes, attribute, spread_attribute, Value, absent, string_value, empty_value, container_value, tag_value, Children, no_children, text_child, empty_child, container_child, tag_child, spread_child, Expr, string_literal, number_literal, boolean_literal, null_literal, other_literal, minus_literal, array_literal, other_expr, tag_expr, Items, no_items, item, spread_item, hole_item, Pieces, no_pieces, source_piece, tag_piece, export_item, declaration_item, statement_item, empty_item, Page}
use Rattle.page.specs.Limits.{ModuleItemsOk}
use Rattle.sums.specs.Machine.{sum_of}
use Rattle.sums.specs.Value.{Worked}
use Rattle.sums.specs.declared.value.Sum.TheVariants.{Plus, Minus}
use Rattle.std.specs.Prelude.{Some, None}
use Rattle.worked.specs.Worked.{pieces_sum, literal_or, worked_tag, worked_attributes, worked_value, worked_children, worked_expr, worked_items, worked_pieces, worked_item, worked}
use Rattle.worked.proofs.Limits.{worked_ok}
use Rattle.spec.specs.Answer.{worked_if}
use Rattle.spec.specs.Acceptance.{has_fragment, tag_has_fragment, attributes_have_fragment, value_has_fragment, children_have_fragment, expr_has_fragment, items_have_fragment, pieces_have_fragment}
use Rattle.spec.proofs.Weight.{tag_weight, attributes_weight, value_weight, children_weight, expr_weight, items_weight, pieces_weight, page_weight}

-- as many tags, and a fragment or none
record Same (n m : ℕ) (a b : Bool) : Type 0 where
  tags : n ≡ m
  fragments : a ≡ b

same : {n : ℕ} {a : Bool} → Same n n a a
same = record { tags = refl; fragments = refl }

two : {n m k l : ℕ} {a b c d : Bool} → Same n m a b → Same k l c d → Same (n + k) (m + l) (a || c) (b || d)
two x y = record { tags = ap₂ (λ (n k : ℕ). n + k) x.tags y.tags; fragments = ap₂ (λ (a c : Bool). a || c) x.fragments y.fragments }

-- one 79: a number only where a source piece stood alone
sum_same : (s : Worked) (ps : Pieces) → pieces_weight ps ≡ 0 → pieces_have_fragment ps ≡ false → Same (expr_weight (literal_or s (other_expr ps))) 0 (expr_has_fragment (literal_or s (other_expr ps))) false
unfolding literal_or expr_weight expr_has_fragment
sum_same None ps e f = record { tags = e; fragments = f }
sum_same (Some (Plus n)) ps e f = same
sum_same (Some (Minus n)) ps e f = same

other_same : (ps : Pieces) → Same (pieces_weight (worked_pieces ps)) (pieces_weight ps) (pieces_have_fragment (worked_pieces ps)) (pieces_have_fragment ps) →
    Same (expr_weight (literal_or (pieces_sum ps) (other_expr (worked_pieces ps)))) (pieces_weight ps) (expr_has_fragment (literal_or (pieces_sum ps) (other_expr (worked_pieces ps)))) (pieces_have_fragment ps)
unfolding pieces_sum literal_or worked_pieces expr_weight expr_has_fragment
other_same no_pieces x = x
other_same (source_piece s no_pieces) x = sum_same (sum_of s) (source_piece s no_pieces) refl refl
other_same (source_piece s (source_piece u ps)) x = x
other_same (source_piece s (tag_piece t ps)) x = x
other_same (tag_piece t ps) x = x

mutual
  unfolding worked_tag tag_weight tag_has_fragment

  tag_same : (t : Tag) → Same (tag_weight (worked_tag t)) (tag_weight t) (tag_has_fragment (worked_tag t)) (tag_has_fragment t)
  tag_same (element n bs cs) = let x = two (attributes_same bs) (children_same cs) in record { tags = ap suc x.tags; fragments = x.fragments }
  tag_same (fragment cs) = record { tags = ap suc (children_same cs).tags; fragments = refl }

  attributes_same : (bs : Attributes) → Same (attributes_weight (worked_attributes bs)) (attributes_weight bs) (attributes_have_fragment (worked_attributes bs)) (attributes_have_fragment bs)
  attributes_same no_attributes = same
  attributes_same (attribute n v bs) = two (value_same v) (attributes_same bs)
  attributes_same (spread_attribute e bs) = two (expr_same e) (attributes_same bs)

  value_same : (v : Value) → Same (value_weight (worked_value v)) (value_weight v) (value_has_fragment (worked_value v)) (value_has_fragment v)
  value_same absent = same
  value_same (string_value b) = same
  value_same empty_value = same
  value_same (container_value e) = expr_same e
  value_same (tag_value t) = tag_same t

  children_same : (cs : Children) → Same (children_weight (worked_children cs)) (children_weight cs) (children_have_fragment (worked_children cs)) (children_have_fragment cs)
  children_same no_children = same
  children_same (text_child b cs) = children_same cs
  children_same (empty_child cs) = children_same cs
  children_same (container_child e cs) = two (expr_same e) (children_same cs)
  children_same (tag_child t cs) = two (tag_same t) (children_same cs)
  children_same (spread_child e cs) = record { tags = (children_same cs).tags; fragments = (two (expr_same e) (children_same cs)).fragments }

  expr_same : (e : Expr) → Same (expr_weight (worked_expr e)) (expr_weight e) (expr_has_fragment (worked_expr e)) (expr_has_fragment e)
  expr_same (string_literal b) = same
  expr_same (number_literal n) = same
  expr_same (boolean_literal b) = same
  expr_same null_literal = same
  expr_same (other_literal b) = same
  expr_same (minus_literal n) = same
  expr_same (array_literal is) = items_same is
  expr_same (other_expr ps) = other_same ps (pieces_same ps)
  expr_same (tag_expr t) = tag_same t

  items_same : (is : Items) → Same (items_weight (worked_items is)) (items_weight is) (items_have_fragment (worked_items is)) (items_have_fragment is)
  items_same no_items = same
  items_same (item e is) = two (expr_same e) (items_same is)
  items_same (spread_item e is) = two (expr_same e) (items_same is)
  items_same (hole_item is) = items_same is

  pieces_same : (ps : Pieces) → Same (pieces_weight (worked_pieces ps)) (pieces_weight ps) (pieces_have_fragment (worked_pieces ps)) (pieces_have_fragment ps)
  pieces_same no_pieces = same
  pieces_same (source_piece s ps) = pieces_same ps
  pieces_same (tag_piece t ps) = two (tag_same t) (pieces_same ps)

page_same : (p : Page) → Same (page_weight (worked p)) (page_weight p) (has_fragment (worked p)) (has_fragment p)
unfolding worked worked_item page_weight has_fragment
page_same [] = same
page_same (export_item ps ∷ is) = two (pieces_same ps) (page_same is)
page_same (declaration_item ps ∷ is) = two (pieces_same ps) (page_same is)
page_same (statement_item ps ∷ is) = two (pieces_same ps) (page_same is)
page_same (empty_item ∷ is) = page_same is

-- ---- the page that is given

pub given_ok : (b : Bool) (p : Page) → ModuleItemsOk p → ModuleItemsOk (worked_if b p)
unfolding worked_if
given_ok true p h = worked_ok p h
given_ok false p h = h

pub given_weight : (b : Bool) (p : Page) → page_weight (worked_if b p) ≡ page_weight p
unfolding worked_if
given_weight true p = (page_same p).tags
given_weight false p = refl

pub given_fragment : (b : Bool) (p : Page) → has_fragment (worked_if b p) ≡ has_fragment p
unfolding worked_if
given_fragment true p = (page_same p).fragments
given_fragment false p = refl
