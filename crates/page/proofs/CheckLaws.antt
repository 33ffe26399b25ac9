-- What the code of the checker learns at each return and at each turn of a loop: the checks of `Check` by the tag in front and the bytes of
-- its body (`nodes_child`, `items_step` and the like), and of one field by its tag (`child_60` and the like). Assumes nothing.
use mathlib.Core.Path.{◌≡◌, refl, sym, ap, ◌∙◌}
use mathlib.Core.Bool.{Bool, true, false, ◌||◌, or-false}
use mathlib.Core.Logic.{◌⊎◌, ⊎_elim}
use Prim.Native.Nat.{ℕ, suc, ◌+◌, ◌≤◌, ◌<◌}
use native.Mathlib.Omega.{arith}
use native.Mathlib.Numerals.{add-one}
use lib.Dec.{eqb}
use lib.ListN.{length}
use borrow.Author.Tests.{le-leb, lt-leb, ne_eqb}
use Rattle.field.specs.Bytes.{Bytes}
use Rattle.field.specs.Row.{Row, end, loose, field, read, Inside, only_bytes, fields_after, counted, inside, opened, Next, nothing, no_field, next, next_of, built}
use Rattle.field.specs.Front.{behind_of, behind_by}
use Rattle.field.specs.Fields.{IsFront, IsEnd}
use Rattle.field.proofs.RowLaws.{read_step, next_sizes}
use Rattle.field.proofs.FrontLaws.{read_empty}
use Rattle.refusal.specs.Refusal.{Verdict, Fine, Refused, after}
use Rattle.page.specs.Tree.{choose}
use Rattle.page.specs.Check.{check_header, check_end, check_text, check_empty, check_number, check_boolean, check_name_by, is_name_tag, is_tag, is_expr, is_child, check_child_by, check_expr_by, check_element, check_attributes, check_attribute, check_value, check_children, check_container, check_expr, check_items, check_pieces, check_nothing_after}
use Rattle.page.specs.CheckField.{check_missing, check_element_name, check_nodes, check_tag_field, check_expr_field}
use Rattle.refusal.specs.declared.Refusal.TheVariants as R
use Rattle.page.proofs.RowEnds.{NotEnd, not_end, header_other}
use Rattle.page.proofs.Steps.{Checked, Then, front, inner, row_at, same_body, one_field, ended, tested, name_tag_cases, child_cases, value_cases, piece_cases, expr_cases, item_cases}

-- ---- one field of a series by its tag and the bytes of its body

unfoldable pub check_child_field : ℕ → ℕ → Bytes → Verdict
check_child_field depth t w =
    after (check_header (is_child t) depth) λ _.
    check_child_by t w (λ _. check_container (suc depth) (read w)) (λ _. check_expr (suc depth) (read w)) (λ _. check_element (suc depth) (read w)) (λ _. check_children (suc depth) (read w))

unfoldable pub check_value_field : ℕ → ℕ → Bytes → Verdict
check_value_field depth t w =
    after (check_header (eqb t 0x51 || eqb t 0x52 || is_tag t) depth) λ _.
    choose (eqb t 0x51) (λ _. check_text w) λ _.
    choose (eqb t 0x52) (λ _. check_container (suc depth) (read w)) λ _.
    choose (eqb t 0x30) (λ _. check_element (suc depth) (read w)) λ _. check_children (suc depth) (read w)

unfoldable pub check_item_field : ℕ → ℕ → Bytes → Verdict
check_item_field depth t w =
    after (check_header (is_expr t || eqb t 0x77 || eqb t 0x78) depth) λ _.
    choose (eqb t 0x77) (λ _. check_expr (suc depth) (read w)) λ _.
    choose (eqb t 0x78) (λ _. check_empty w) λ _.
    check_expr_by t w (λ _. check_items (suc depth) (read w)) (λ _. check_pieces (suc depth) (read w)) (λ _. check_element (suc depth) (read w)) (λ _. check_children (suc depth) (read w))

unfoldable pub check_piece_field : ℕ → ℕ → Bytes → Verdict
check_piece_field depth t w =
    after (check_header (eqb t 0x20 || is_tag t) depth) λ _.
    choose (eqb t 0x20) (λ _. check_text w) λ _.
    choose (eqb t 0x30) (λ _. check_element (suc depth) (read w)) λ _. check_children (suc depth) (read w)

-- ---- the bytes of a body in the place of the row's front and fields

abbrev child_row : ℕ → ℕ → Bytes → Row → Verdict
child_row depth t f i = check_child_by t f (λ _. check_container (suc depth) i) (λ _. check_expr (suc depth) i) (λ _. check_element (suc depth) i) (λ _. check_children (suc depth) i)

abbrev expr_row : ℕ → ℕ → Bytes → Row → Verdict
expr_row depth t f i = check_expr_by t f (λ _. check_items (suc depth) i) (λ _. check_pieces (suc depth) i) (λ _. check_element (suc depth) i) (λ _. check_children (suc depth) i)

abbrev tag_row : ℕ → ℕ → Row → Verdict
tag_row depth t i = choose (eqb t 0x30) (λ _. check_element (suc depth) i) λ _. check_children (suc depth) i

abbrev value_row : ℕ → ℕ → Bytes → Row → Verdict
value_row depth t f i = choose (eqb t 0x51) (λ _. check_text f) λ _. choose (eqb t 0x52) (λ _. check_container (suc depth) i) λ _. tag_row depth t i

abbrev item_row : ℕ → ℕ → Bytes → Row → Verdict
item_row depth t f i = choose (eqb t 0x77) (λ _. check_expr (suc depth) i) λ _. choose (eqb t 0x78) (λ _. check_empty f) λ _. expr_row depth t f i

abbrev piece_row : ℕ → ℕ → Bytes → Row → Verdict
piece_row depth t f i = choose (eqb t 0x20) (λ _. check_text f) λ _. tag_row depth t i

module _ (depth t : ℕ) (w : Bytes) where
  child_body : is_child t ≡ true → child_row depth t (front (inside t) w) (inner (inside t) w) ≡ child_row depth t w (read w)
  unfolding inside choose check_child_by
  child_body = child_cases (λ (t : ℕ). child_row depth t (front (inside t) w) (inner (inside t) w) ≡ child_row depth t w (read w)) t refl refl refl refl refl

  expr_body : is_expr t ≡ true → expr_row depth t (front (inside t) w) (inner (inside t) w) ≡ expr_row depth t w (read w)
  unfolding inside choose check_expr_by
  expr_body = expr_cases (λ (t : ℕ). expr_row depth t (front (inside t) w) (inner (inside t) w) ≡ expr_row depth t w (read w)) t refl refl refl refl refl refl refl refl refl refl refl refl

  value_body : (eqb t 0x51 || eqb t 0x52 || is_tag t) ≡ true → value_row depth t (front (inside t) w) (inner (inside t) w) ≡ value_row depth t w (read w)
  unfolding inside choose
  value_body = value_cases (λ (t : ℕ). value_row depth t (front (inside t) w) (inner (inside t) w) ≡ value_row depth t w (read w)) t refl refl refl refl

  item_body : (is_expr t || eqb t 0x77 || eqb t 0x78) ≡ true → item_row depth t (front (inside t) w) (inner (inside t) w) ≡ item_row depth t w (read w)
  unfolding inside choose check_expr_by
  item_body = item_cases (λ (t : ℕ). item_row depth t (front (inside t) w) (inner (inside t) w) ≡ item_row depth t w (read w)) t refl refl refl refl refl refl refl refl refl refl refl refl refl refl

  piece_body : (eqb t 0x20 || is_tag t) ≡ true → piece_row depth t (front (inside t) w) (inner (inside t) w) ≡ piece_row depth t w (read w)
  unfolding inside choose
  piece_body = piece_cases (λ (t : ℕ). piece_row depth t (front (inside t) w) (inner (inside t) w) ≡ piece_row depth t w (read w)) t refl refl refl

  name_body : is_name_tag t ≡ true → check_name_by t (suc depth) (front (inside t) w) (inner (inside t) w) ≡ check_name_by t (suc depth) w (read w)
  unfolding inside choose check_name_by
  name_body = name_tag_cases (λ (t : ℕ). check_name_by t (suc depth) (front (inside t) w) (inner (inside t) w) ≡ check_name_by t (suc depth) w (read w)) t refl refl refl

-- ---- a series, and what holds one expression or one value, at a field in front: b is its body, r what lies behind it

module _ (depth : ℕ) {s : Bytes} {t : ℕ} {b r : Bytes} (f : IsFront s t b r) where
  pub children_step : Then (check_children depth (read s)) (check_child_field depth t b) (check_children depth (read r))
  unfolding check_children check_child_field
  children_step = record { then_is = ap (check_children depth) (row_at f) ∙ one_field (is_child t) depth _ _ _ (child_body depth t b) }

  pub items_step : Then (check_items depth (read s)) (check_item_field depth t b) (check_items depth (read r))
  unfolding check_items check_item_field
  items_step = record { then_is = ap (check_items depth) (row_at f) ∙ one_field (is_expr t || eqb t 0x77 || eqb t 0x78) depth _ _ _ (item_body depth t b) }

  pub pieces_step : Then (check_pieces depth (read s)) (check_piece_field depth t b) (check_pieces depth (read r))
  unfolding check_pieces check_piece_field
  pieces_step = record { then_is = ap (check_pieces depth) (row_at f) ∙ one_field (eqb t 0x20 || is_tag t) depth _ _ _ (piece_body depth t b) }

  pub value_step : Then (check_value depth (read s)) (check_value_field depth t b) (check_end (read r))
  unfolding check_value check_value_field
  value_step = record { then_is = ap (check_value depth) (row_at f) ∙ one_field (eqb t 0x51 || eqb t 0x52 || is_tag t) depth _ _ _ (value_body depth t b) }

  pub expr_step : Then (check_expr depth (read s)) (check_expr_field depth t b) (check_end (read r))
  unfolding check_expr check_expr_field
  expr_step = record { then_is = ap (check_expr depth) (row_at f) ∙ one_field (is_expr t) depth _ _ _ (expr_body depth t b) }

  -- a name in front, as the code's match on its tag has it
  pub element_name : 0x40 ≤ t → t < 0x43 → Checked (check_element_name depth (read s)) depth (check_name_by t (depth + 1) b (read b))
  unfolding check_element_name
  element_name l m =
      record { then_is = ap (check_element_name depth) (row_at f) ∙ rw (name_body depth t b fits, le-leb 0x40 t l, le-leb t 0x42 (omega arith), add-one depth) }
    where
      fits : is_name_tag t ≡ true
      fits = rw (le-leb 0x40 t l, le-leb t 0x42 (omega arith))

  pub element_below : t < 0x40 → Refused R.Misplaced ≡ check_element_name depth (read s)
  unfolding check_element_name check_header after
  element_below l = sym (ap (check_element_name depth) (row_at f) ∙ rw (lt-leb 0x40 t l))

  pub element_above : 0x43 ≤ t → Refused R.Misplaced ≡ check_element_name depth (read s)
  unfolding check_element_name check_header after
  element_above l = sym (ap (check_element_name depth) (row_at f) ∙ rw (le-leb 0x40 t (omega arith), lt-leb t 0x42 (omega arith)))

  pub attribute_name : ((t ≡ 0x40 → ⊥) → (t ≡ 0x42 → ⊥) → ⊥) → Checked (check_attribute depth (read s)) depth (after (check_name_by t (depth + 1) b (read b)) λ _. check_value depth (read r))
  unfolding check_attribute
  attribute_name n = record { then_is = ap (check_attribute depth) (row_at f) ∙ same_body (eqb t 0x40 || eqb t 0x42) depth _ _ _ (λ z. name_body depth t b named) ∙ rw (fits, add-one depth) }
    where
      named : is_name_tag t ≡ true
      named = tested t 0x40 (λ z. rw z) λ x. tested t 0x42 (λ z. rw z) λ y. absurd (n x y)

      fits : (eqb t 0x40 || eqb t 0x42) ≡ true
      fits = tested t 0x40 (λ z. rw z) λ x. tested t 0x42 (λ z. rw z) λ y. absurd (n x y)

  pub attribute_other : (t ≡ 0x40 → ⊥) → (t ≡ 0x42 → ⊥) → Refused R.Misplaced ≡ check_attribute depth (read s)
  unfolding check_attribute check_header after
  attribute_other n m = sym (ap (check_attribute depth) (row_at f) ∙ rw (ne_eqb t 0x40 n, ne_eqb t 0x42 m))

-- ---- an element, and the nodes behind its name

-- what follows the name is checked once that is fine
pub element_then : (depth : ℕ) (s : Bytes) {r : Bytes} → r ≡ behind_of s → Then (check_element depth (read s)) (check_element_name depth (read s)) (check_nodes true depth (read r))
unfolding check_element check_element_name check_nodes behind_of built opened after
element_then depth s u = record { then_is = rw u (rw (read_step s) (on (next_of s))) }
  where
    in_row : (a b w : Verdict) → after a (λ _. after b λ _. w) ≡ after (after a λ _. b) λ _. w
    in_row Fine b w = refl
    in_row (Refused n) b w = refl

    in_field : (c : Inside) (t : ℕ) (w r : Bytes) → check_element depth (opened c read t w r) ≡ after (check_element_name depth (opened c read t w r)) λ _. check_attributes depth (read r)
    in_field only_bytes t w r = in_row (check_header (is_name_tag t) depth) _ _
    in_field (fields_after n) t w r = in_row (check_header (is_name_tag t) depth) _ _
    in_field (counted n) t w r = in_row (check_header (is_name_tag t) depth) _ _

    on : (n : Next) → check_element depth (built read s n) ≡ after (check_element_name depth (built read s n)) λ _. check_attributes depth (read (behind_by n))
    on nothing = refl
    on no_field = refl
    on (next t w r) = in_field (inside t) t w r

-- behind the front lie no more bytes than there are
pub behind_short : (s : Bytes) → length (behind_of s) ≤ length s
unfolding behind_of
behind_short s = on (next_of s) refl
  where
    on : (n : Next) → next_of s ≡ n → length (behind_by n) ≤ length s
    on nothing e = omega arith
    on no_field e = omega arith
    on (next t w r) e = omega (arith, next_sizes s t w r e)

module _ (first : Bool) (depth : ℕ) {s : Bytes} {t : ℕ} {b r : Bytes} (f : IsFront s t b r) where
  attributes_last : (t ≡ 0x50 → ⊥) → (t ≡ 0x53 → ⊥) → check_attributes depth (read s) ≡ check_children depth (read s)
  unfolding check_attributes check_children choose
  attributes_last n m = rw (row_at f, ne_eqb t 0x50 n, ne_eqb t 0x53 m)

  -- what is no attribute, or stands where none may come: behind it none may come
  pub nodes_child : (t ≡ 0x50 → first ≡ false) → (t ≡ 0x53 → first ≡ false) → Then (check_nodes first depth (read s)) (check_child_field depth t b) (check_nodes false depth (read r))
  unfolding check_nodes
  nodes_child n m = record { then_is = on first refl ∙ (children_step depth f).then_is }
    where
      on : (o : Bool) → first ≡ o → check_nodes o depth (read s) ≡ check_children depth (read s)
      on true e = attributes_last (λ k. absurd (let z : first ≡ false = n k in cc)) (λ k. absurd (let z : first ≡ false = m k in cc))
      on false e = refl

  module _ (o : first ≡ true) where
    pub nodes_50 : t ≡ 0x50 → Checked (check_nodes first depth (read s)) depth (after (check_attribute (depth + 1) (read b)) λ _. check_nodes first depth (read r))
    unfolding check_nodes check_attributes inside choose
    nodes_50 k = record { then_is = rw (o, row_at f, k, add-one depth) }

    pub nodes_53 : t ≡ 0x53 → Checked (check_nodes first depth (read s)) depth (after (check_expr (depth + 1) (read b)) λ _. check_nodes first depth (read r))
    unfolding check_nodes check_attributes inside choose
    nodes_53 k = record { then_is = rw (o, row_at f, k, add-one depth) }

-- ---- no field in front

module _ (depth : ℕ) {s r : Bytes} (e : IsEnd s r) where
  pub items_end : check_nothing_after (read r) ≡ check_items depth (read s)
  unfolding check_nothing_after check_items
  items_end = ended check_nothing_after (check_items depth) refl (λ b. refl) e

  pub pieces_end : check_nothing_after (read r) ≡ check_pieces depth (read s)
  unfolding check_nothing_after check_pieces
  pieces_end = ended check_nothing_after (check_pieces depth) refl (λ b. refl) e

  pub value_end : check_nothing_after (read r) ≡ check_value depth (read s)
  unfolding check_nothing_after check_value
  value_end = ended check_nothing_after (check_value depth) refl (λ b. refl) e

  pub expr_end : check_missing (read r) ≡ check_expr depth (read s)
  unfolding check_missing check_expr
  expr_end = ended check_missing (check_expr depth) refl (λ b. refl) e

  pub attribute_end : check_missing (read r) ≡ check_attribute depth (read s)
  unfolding check_missing check_attribute
  attribute_end = ended check_missing (check_attribute depth) refl (λ b. refl) e

  pub element_end : check_missing (read r) ≡ check_element_name depth (read s)
  unfolding check_missing check_element_name
  element_end = ended check_missing (check_element_name depth) refl (λ b. refl) e

  pub nodes_end : (first : Bool) → check_nothing_after (read r) ≡ check_nodes first depth (read s)
  unfolding check_nothing_after check_nodes check_attributes check_children
  nodes_end true = ended check_nothing_after (check_attributes depth) refl (λ b. refl) e
  nodes_end false = ended check_nothing_after (check_children depth) refl (λ b. refl) e

-- ---- a container: nothing, or one expression

module _ (depth : ℕ) (s : Bytes) where
  pub container_empty : length s ≡ 0 → Fine ≡ check_container depth (read s)
  unfolding check_container
  container_empty h = rw (read_empty s h)

  pub container_expr : (length s ≡ 0 → ⊥) → check_expr depth (read s) ≡ check_container depth (read s)
  unfolding check_expr check_container
  container_expr h = on (read s) (not_end s h)
    where
      on : (r : Row) → NotEnd r → check_expr depth r ≡ check_container depth r
      on end i = absurd i
      on (loose b) i = refl
      on (field t f j r) i = refl

-- ---- a field by its tag

module _ (depth : ℕ) {t : ℕ} (w : Bytes) where
  pub tag_30 : t ≡ 0x30 → Checked (check_tag_field depth t w) depth (check_element (depth + 1) (read w))
  unfolding check_tag_field choose
  tag_30 k = record { then_is = rw (k, add-one depth) }

  pub tag_31 : t ≡ 0x31 → Checked (check_tag_field depth t w) depth (check_nodes false (depth + 1) (read w))
  unfolding check_tag_field check_nodes choose
  tag_31 k = record { then_is = rw (k, add-one depth) }

  pub tag_other : (t ≡ 0x30 → ⊥) → (t ≡ 0x31 → ⊥) → Refused R.Misplaced ≡ check_tag_field depth t w
  unfolding check_tag_field check_header after
  tag_other n m = rw (ne_eqb t 0x30 n, ne_eqb t 0x31 m)

  pub child_60 : t ≡ 0x60 → Checked (check_child_field depth t w) depth (check_text w)
  unfolding check_child_field check_child_by choose
  child_60 k = record { then_is = rw k }

  pub child_52 : t ≡ 0x52 → Checked (check_child_field depth t w) depth (check_container (depth + 1) (read w))
  unfolding check_child_field check_child_by choose
  child_52 k = record { then_is = rw (k, add-one depth) }

  pub child_61 : t ≡ 0x61 → Checked (check_child_field depth t w) depth (check_expr (depth + 1) (read w))
  unfolding check_child_field check_child_by choose
  child_61 k = record { then_is = rw (k, add-one depth) }

  pub child_tag : (t ≡ 0x60 → ⊥) → (t ≡ 0x52 → ⊥) → (t ≡ 0x61 → ⊥) → check_tag_field depth t w ≡ check_child_field depth t w
  unfolding check_tag_field check_child_field check_child_by choose
  child_tag n m o = rw (ne_eqb t 0x60 n, ne_eqb t 0x52 m, ne_eqb t 0x61 o, or-false (is_tag t))

  pub value_51 : t ≡ 0x51 → Checked (check_value_field depth t w) depth (check_text w)
  unfolding check_value_field choose
  value_51 k = record { then_is = rw k }

  pub value_52 : t ≡ 0x52 → Checked (check_value_field depth t w) depth (check_container (depth + 1) (read w))
  unfolding check_value_field choose
  value_52 k = record { then_is = rw (k, add-one depth) }

  pub value_tag : (t ≡ 0x51 → ⊥) → (t ≡ 0x52 → ⊥) → check_tag_field depth t w ≡ check_value_field depth t w
  unfolding check_tag_field check_value_field choose
  value_tag n m = rw (ne_eqb t 0x51 n, ne_eqb t 0x52 m)

  pub expr_text : (t ≡ 0x70) ⊎ (t ≡ 0x74) → Checked (check_expr_field depth t w) depth (check_text w)
  unfolding check_expr_field check_expr_by choose
  expr_text k = record { then_is = ⊎_elim (λ z. rw z) (λ z. rw z) k }

  pub expr_72 : t ≡ 0x72 → Checked (check_expr_field depth t w) depth (check_boolean w)
  unfolding check_expr_field check_expr_by choose
  expr_72 k = record { then_is = rw k }

  pub expr_73 : t ≡ 0x73 → Checked (check_expr_field depth t w) depth (check_empty w)
  unfolding check_expr_field check_expr_by choose
  expr_73 k = record { then_is = rw k }

  pub expr_76 : t ≡ 0x76 → Checked (check_expr_field depth t w) depth (check_items (depth + 1) (read w))
  unfolding check_expr_field check_expr_by choose
  expr_76 k = record { then_is = rw (k, add-one depth) }

  pub expr_79 : t ≡ 0x79 → Checked (check_expr_field depth t w) depth (check_pieces (depth + 1) (read w))
  unfolding check_expr_field check_expr_by choose
  expr_79 k = record { then_is = rw (k, add-one depth) }

  pub expr_number : ((t ≡ 0x71 → ⊥) → (t ≡ 0x75 → ⊥) → (t ≡ 0x7a → ⊥) → (t ≡ 0x7b → ⊥) → ⊥) → Checked (check_expr_field depth t w) depth (check_number t w)
  unfolding check_expr_field check_expr_by choose
  expr_number n =
      tested t 0x71 (λ z. record { then_is = rw z }) λ i. tested t 0x75 (λ z. record { then_is = rw z }) λ j.
      tested t 0x7a (λ z. record { then_is = rw z }) λ k. tested t 0x7b (λ z. record { then_is = rw z }) λ l. absurd (n i j k l)

  pub expr_tag : ((t ≡ 0x30 → ⊥) → (t ≡ 0x31 → ⊥) → ⊥) → check_tag_field depth t w ≡ check_expr_field depth t w
  unfolding check_tag_field check_expr_field check_expr_by choose
  expr_tag n = tested t 0x30 (λ z. rw z) λ x. tested t 0x31 (λ z. rw z) λ y. absurd (n x y)

  pub item_77 : t ≡ 0x77 → Checked (check_item_field depth t w) depth (check_expr (depth + 1) (read w))
  unfolding check_item_field choose
  item_77 k = record { then_is = rw (k, add-one depth) }

  pub item_78 : t ≡ 0x78 → Checked (check_item_field depth t w) depth (check_empty w)
  unfolding check_item_field choose
  item_78 k = record { then_is = rw k }

  pub item_expr : (t ≡ 0x77 → ⊥) → (t ≡ 0x78 → ⊥) → check_expr_field depth t w ≡ check_item_field depth t w
  unfolding check_expr_field check_item_field choose
  item_expr n m = rw (ne_eqb t 0x77 n, ne_eqb t 0x78 m) (simp or-false)

  pub piece_20 : t ≡ 0x20 → Checked (check_piece_field depth t w) depth (check_text w)
  unfolding check_piece_field choose
  piece_20 k = record { then_is = rw k }

  pub piece_tag : (t ≡ 0x20 → ⊥) → check_tag_field depth t w ≡ check_piece_field depth t w
  unfolding check_tag_field check_piece_field choose
  piece_tag n = rw (ne_eqb t 0x20 n)

-- no expression's tag
module _ (depth : ℕ) {t : ℕ} (w : Bytes) (a : t ≡ 0x70 → ⊥) (b : t ≡ 0x71 → ⊥) (c : t ≡ 0x72 → ⊥) (d : t ≡ 0x73 → ⊥) (e : t ≡ 0x74 → ⊥) (f : t ≡ 0x75 → ⊥) (g : t ≡ 0x76 → ⊥) (h : t ≡ 0x79 → ⊥) (i : t ≡ 0x7a → ⊥) (j : t ≡ 0x7b → ⊥) (k : t ≡ 0x30 → ⊥) (l : t ≡ 0x31 → ⊥) where
  none : (o : Bool) → is_expr t ≡ o → is_expr t ≡ false
  none true q = absurd (expr_cases (λ (n : ℕ). t ≡ n → ⊥) t a b c d e f g h i j k l q refl)
  none false q = q

  pub expr_other : Refused R.Misplaced ≡ check_expr_field depth t w
  unfolding check_expr_field
  expr_other = header_other (is_expr t) depth _ (none (is_expr t) refl)
