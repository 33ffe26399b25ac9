-- The tree that bytes are read as, by the tag of the field at the front: one law for each kind of reading and each tag that it tells apart.
-- Main statements: `texts_here`, `texts_past`, `name_40` and the like, `attr_name_40`, `attributes_50`, `value_51`, `children_60`,
-- `contained_field`, `expr_70`, `items_77`, `pieces_20` and the like; `-none` where no field stands. Assumes nothing.
use mathlib.Core.Path.{◌≡◌, refl, sym, ap, ◌∙◌, subst}
use mathlib.Core.Bool.{Bool, true, false}
use mathlib.Core.Logic.{◌⊎◌, inl, inr}
use Prim.Native.Nat.{ℕ}
use mathlib.Core.List.{[], ◌∷◌}
use lib.Dec.{T, ltb, eqb}
use lib.ListN.{take, drop}
use borrow.Author.Tests.{eq-eqb, ne_eqb, eqb-true, eqb-false}
use Rattle.field.specs.Bytes.{Bytes}
use Rattle.field.specs.Row.{Row, end, loose, field, read, Ended, Inside, only_bytes, fields_after, counted, counted_front, inside, opened, Next, nothing, no_field, next, next_of, built}
use Rattle.field.specs.Front.{tag_of_front, body_of, behind_of, tag_by, behind_by}
use Rattle.field.proofs.RowLaws.{read_step, read_nil}
use Rattle.field.proofs.FrontLaws.{read_at, leaf_at, nest_at}
use Rattle.names.specs.Names as A
use Rattle.page.specs.Number.{number_in}
use Rattle.page.specs.Page.{identifier, member, namespaced, fragment, no_attributes, attribute, spread_attribute, absent, string_value, tag_value, no_children, text_child, tag_child, spread_child, string_literal, number_literal, boolean_literal, null_literal, other_literal, minus_literal, array_literal, other_expr, tag_expr, no_items, item, spread_item, hole_item, no_pieces, source_piece, tag_piece}
use Rattle.page.specs.Tree.{choose, texts_in, first_in, second_in, name_by, attr_name_by, boolean_in, expr_by, nothing_contained, contained, contained_value, contained_child, value_by, child_by, element_in, fragment_in, attributes_in, attr_name_in, value_in, value_behind, children_in, contained_in, expr_in, items_in, pieces_in}
use Rattle.decisions.specs.At.{element_name, behind_name}

-- ---- the row in front

-- equal or not
pub tested : {A : Type 0} (t k : ℕ) → (t ≡ k → A) → ((t ≡ k → ⊥) → A) → A
tested {A} t k f g = on (eqb t k) refl
  where
    on : (b : Bool) → eqb t k ≡ b → A
    on true q = f (eqb-true t k q)
    on false q = g (eqb-false t k q)

module _ (P : Row → Type 0) where
  -- no field stands in front
  pub ended : P end → ((b : Bytes) → P (loose b)) → (r : Row) → Ended r → P r
  ended a l end i = a
  ended a l (loose b) i = l b
  ended a l (field t f j r) i = absurd i

  module _ (s : Bytes) (t : ℕ) (e : t ≡ tag_of_front s) where
    -- a field of that tag, whatever it holds
    pub any_field : (t ≡ 256 → ⊥) → ((f : Bytes) (i : Row) → P (field t f i (read (behind_of s)))) → P (read s)
    unfolding opened
    any_field h k = subst P (sym (read_at s t e h)) (on (inside t))
      where
        on : (c : Inside) → P (opened c read t (body_of s) (behind_of s))
        on only_bytes = k _ _
        on (fields_after n) = k _ _
        on (counted n) = k _ _

    -- the same, or no field
    pub any_front : P end → ((b : Bytes) → P (loose b)) → ((f : Bytes) (i : Row) → P (field t f i (read (behind_of s)))) → P (read s)
    unfolding tag_of_front behind_of built opened
    any_front a l k = subst P (sym (read_step s)) (on (next_of s) e k)
      where
        on : (n : Next) → t ≡ tag_by n → ((f : Bytes) (i : Row) → P (field t f i (read (behind_by n)))) → P (built read s n)
        on nothing q g = a
        on no_field q g = l s
        on (next u w r) q g = in_field (inside u)
          where
            in_field : (c : Inside) → P (opened c read u w r)
            in_field only_bytes = subst (λ (x : ℕ). P (field x w end (read r))) q (g _ _)
            in_field (fields_after n) = subst (λ (x : ℕ). P (field x (take n w) (read (drop n w)) (read r))) q (g _ _)
            in_field (counted n) = subst (λ (x : ℕ). P (field x (take (counted_front n w) w) (read (drop (counted_front n w) w)) (read r))) q (g _ _)

-- what lies behind the first field is read from what lies behind its bytes
pub behind_name_at : (s : Bytes) → behind_name (read s) ≡ read (behind_of s)
unfolding behind_name behind_of built opened
behind_name_at s = ap behind_name (read_step s) ∙ on (next_of s)
  where
    on : (n : Next) → behind_name (built read s n) ≡ read (behind_by n)
    on nothing = sym read_nil
    on no_field = sym read_nil
    on (next t w r) = in_field (inside t)
      where
        in_field : (c : Inside) → behind_name (opened c read t w r) ≡ read r
        in_field only_bytes = refl
        in_field (fields_after n) = refl
        in_field (counted n) = refl

pub value_in_behind : (r : Row) → value_in r ≡ value_behind (behind_name r)
unfolding value_in value_behind behind_name
value_in_behind end = refl
value_in_behind (loose b) = refl
value_in_behind (field t f i r) = refl

pub value_in_at : (s : Bytes) → value_in (read s) ≡ value_behind (read (behind_of s))
value_in_at s = value_in_behind (read s) ∙ ap value_behind (behind_name_at s)

-- a fragment is its children
pub fragment_is : (r : Row) → fragment_in r ≡ fragment (children_in r)
unfolding fragment_in children_in
fragment_is end = refl
fragment_is (loose b) = refl
fragment_is (field t f i r) = refl

-- ---- no field

module _ (r : Row) (i : Ended r) where
  pub texts_none : (u : ℕ) → texts_in u r ≡ []
  unfolding texts_in
  texts_none u = ended (λ (r : Row). texts_in u r ≡ []) refl (λ b. refl) r i

  pub name_none : element_name r ≡ identifier []
  unfolding element_name
  name_none = ended (λ (r : Row). element_name r ≡ identifier []) refl (λ b. refl) r i

  pub attr_name_none : attr_name_in r ≡ A.ident []
  unfolding attr_name_in
  attr_name_none = ended (λ (r : Row). attr_name_in r ≡ A.ident []) refl (λ b. refl) r i

  pub attributes_none : attributes_in r ≡ no_attributes
  unfolding attributes_in
  attributes_none = ended (λ (r : Row). attributes_in r ≡ no_attributes) refl (λ b. refl) r i

  pub value_none : value_behind r ≡ absent
  unfolding value_behind
  value_none = ended (λ (r : Row). value_behind r ≡ absent) refl (λ b. refl) r i

  pub children_none : children_in r ≡ no_children
  unfolding children_in
  children_none = ended (λ (r : Row). children_in r ≡ no_children) refl (λ b. refl) r i

  pub contained_none : contained_in r ≡ nothing_contained
  unfolding contained_in
  contained_none = ended (λ (r : Row). contained_in r ≡ nothing_contained) refl (λ b. refl) r i

  pub expr_none : expr_in r ≡ null_literal
  unfolding expr_in
  expr_none = ended (λ (r : Row). expr_in r ≡ null_literal) refl (λ b. refl) r i

  pub items_none : items_in r ≡ no_items
  unfolding items_in
  items_none = ended (λ (r : Row). items_in r ≡ no_items) refl (λ b. refl) r i

  pub pieces_none : pieces_in r ≡ no_pieces
  unfolding pieces_in
  pieces_none = ended (λ (r : Row). pieces_in r ≡ no_pieces) refl (λ b. refl) r i

-- ---- a field of a known tag, and of any other

module _ (s : Bytes) (t : ℕ) (e : t ≡ tag_of_front s) where
  -- texts: a tag that holds bytes alone
  pub texts_here : (u : ℕ) → T (ltb u 256) → inside u ≡ only_bytes → t ≡ u → texts_in u (read s) ≡ body_of s ∷ texts_in u (read (behind_of s))
  unfolding texts_in choose
  texts_here u l q k = ap (texts_in u) (leaf_at s t e u k l q) ∙ rw (eq-eqb u u refl)

  pub texts_20 : t ≡ 0x20 → texts_in 0x20 (read s) ≡ body_of s ∷ texts_in 0x20 (read (behind_of s))
  unfolding inside
  texts_20 k = texts_here 0x20 tt refl k

  pub texts_40 : t ≡ 0x40 → texts_in 0x40 (read s) ≡ body_of s ∷ texts_in 0x40 (read (behind_of s))
  unfolding inside
  texts_40 k = texts_here 0x40 tt refl k

  pub texts_past : (u : ℕ) → (t ≡ 256 → ⊥) → (t ≡ u → ⊥) → texts_in u (read s) ≡ texts_in u (read (behind_of s))
  unfolding texts_in choose
  texts_past u h n = any_field (λ (r : Row). texts_in u r ≡ texts_in u (read (behind_of s))) s t e h λ f i. rw (ne_eqb t u n)

  -- names
  pub name_40 : t ≡ 0x40 → element_name (read s) ≡ identifier (body_of s)
  unfolding element_name name_by choose inside
  name_40 k = ap element_name (leaf_at s t e 0x40 k tt refl)

  pub name_41 : t ≡ 0x41 → element_name (read s) ≡ member (texts_in 0x40 (read (body_of s)))
  unfolding element_name name_by choose inside
  name_41 k = ap element_name (nest_at s t e 0x41 k tt refl)

  pub name_42 : t ≡ 0x42 → element_name (read s) ≡ namespaced (first_in (texts_in 0x40 (read (body_of s)))) (second_in (texts_in 0x40 (read (body_of s))))
  unfolding element_name name_by choose inside
  name_42 k = ap element_name (nest_at s t e 0x42 k tt refl)

  pub name_other : (t ≡ 0x40 → ⊥) → (t ≡ 0x41 → ⊥) → (t ≡ 0x42 → ⊥) → element_name (read s) ≡ identifier []
  unfolding element_name name_by choose
  name_other a b c =
      any_front (λ (r : Row). element_name r ≡ identifier []) s t e refl (λ x. refl) λ f i. rw (ne_eqb t 0x40 a, ne_eqb t 0x41 b, ne_eqb t 0x42 c)

  pub attr_name_40 : t ≡ 0x40 → attr_name_in (read s) ≡ A.ident (body_of s)
  unfolding attr_name_in attr_name_by choose inside
  attr_name_40 k = ap attr_name_in (leaf_at s t e 0x40 k tt refl)

  pub attr_name_42 : t ≡ 0x42 → attr_name_in (read s) ≡ A.namespaced (first_in (texts_in 0x40 (read (body_of s)))) (second_in (texts_in 0x40 (read (body_of s))))
  unfolding attr_name_in attr_name_by choose inside
  attr_name_42 k = ap attr_name_in (nest_at s t e 0x42 k tt refl)

  pub attr_name_other : (t ≡ 0x40 → ⊥) → (t ≡ 0x42 → ⊥) → attr_name_in (read s) ≡ A.ident []
  unfolding attr_name_in attr_name_by choose
  attr_name_other a b =
      any_front (λ (r : Row). attr_name_in r ≡ A.ident []) s t e refl (λ x. refl) λ f i. rw (ne_eqb t 0x40 a, ne_eqb t 0x42 b)

  -- attributes
  pub attributes_50 : t ≡ 0x50 → attributes_in (read s) ≡ attribute (attr_name_in (read (body_of s))) (value_in (read (body_of s))) (attributes_in (read (behind_of s)))
  unfolding attributes_in choose inside
  attributes_50 k = ap attributes_in (nest_at s t e 0x50 k tt refl)

  pub attributes_53 : t ≡ 0x53 → attributes_in (read s) ≡ spread_attribute (expr_in (read (body_of s))) (attributes_in (read (behind_of s)))
  unfolding attributes_in choose inside
  attributes_53 k = ap attributes_in (nest_at s t e 0x53 k tt refl)

  pub attributes_other : (t ≡ 0x50 → ⊥) → (t ≡ 0x53 → ⊥) → attributes_in (read s) ≡ no_attributes
  unfolding attributes_in choose
  attributes_other a b =
      any_front (λ (r : Row). attributes_in r ≡ no_attributes) s t e refl (λ x. refl) λ f i. rw (ne_eqb t 0x50 a, ne_eqb t 0x53 b)

  -- values: s is what lies behind the name
  pub value_51 : t ≡ 0x51 → value_behind (read s) ≡ string_value (body_of s)
  unfolding value_behind value_by choose inside
  value_51 k = ap value_behind (leaf_at s t e 0x51 k tt refl)

  pub value_52 : t ≡ 0x52 → value_behind (read s) ≡ contained_value (contained_in (read (body_of s)))
  unfolding value_behind value_by choose inside
  value_52 k = ap value_behind (nest_at s t e 0x52 k tt refl)

  pub value_30 : t ≡ 0x30 → value_behind (read s) ≡ tag_value (element_in (read (body_of s)))
  unfolding value_behind value_by choose inside
  value_30 k = ap value_behind (nest_at s t e 0x30 k tt refl)

  pub value_31 : t ≡ 0x31 → value_behind (read s) ≡ tag_value (fragment_in (read (body_of s)))
  unfolding value_behind value_by choose inside
  value_31 k = ap value_behind (nest_at s t e 0x31 k tt refl)

  pub value_other : (t ≡ 0x51 → ⊥) → (t ≡ 0x52 → ⊥) → (t ≡ 0x30 → ⊥) → (t ≡ 0x31 → ⊥) → value_behind (read s) ≡ absent
  unfolding value_behind value_by choose
  value_other a b c d =
      any_front (λ (r : Row). value_behind r ≡ absent) s t e refl (λ x. refl) λ f i. rw (ne_eqb t 0x51 a, ne_eqb t 0x52 b, ne_eqb t 0x30 c, ne_eqb t 0x31 d)

  -- children
  pub children_60 : t ≡ 0x60 → children_in (read s) ≡ text_child (body_of s) (children_in (read (behind_of s)))
  unfolding children_in child_by choose inside
  children_60 k = ap children_in (leaf_at s t e 0x60 k tt refl)

  pub children_52 : t ≡ 0x52 → children_in (read s) ≡ contained_child (contained_in (read (body_of s))) (children_in (read (behind_of s)))
  unfolding children_in child_by choose inside
  children_52 k = ap children_in (nest_at s t e 0x52 k tt refl)

  pub children_30 : t ≡ 0x30 → children_in (read s) ≡ tag_child (element_in (read (body_of s))) (children_in (read (behind_of s)))
  unfolding children_in child_by choose inside
  children_30 k = ap children_in (nest_at s t e 0x30 k tt refl)

  pub children_31 : t ≡ 0x31 → children_in (read s) ≡ tag_child (fragment_in (read (body_of s))) (children_in (read (behind_of s)))
  unfolding children_in child_by choose inside
  children_31 k = ap children_in (nest_at s t e 0x31 k tt refl)

  pub children_61 : t ≡ 0x61 → children_in (read s) ≡ spread_child (expr_in (read (body_of s))) (children_in (read (behind_of s)))
  unfolding children_in child_by choose inside
  children_61 k = ap children_in (nest_at s t e 0x61 k tt refl)

  pub children_other : (t ≡ 256 → ⊥) → (t ≡ 0x60 → ⊥) → (t ≡ 0x52 → ⊥) → (t ≡ 0x30 → ⊥) → (t ≡ 0x31 → ⊥) → (t ≡ 0x61 → ⊥) →
      children_in (read s) ≡ children_in (read (behind_of s))
  unfolding children_in child_by choose
  children_other h a b c d g =
      any_field (λ (r : Row). children_in r ≡ children_in (read (behind_of s))) s t e h λ f i.
      rw (ne_eqb t 0x60 a, ne_eqb t 0x52 b, ne_eqb t 0x30 c, ne_eqb t 0x31 d, ne_eqb t 0x61 g)

  -- expressions
  pub contained_field : (t ≡ 256 → ⊥) → contained_in (read s) ≡ contained (expr_in (read s))
  unfolding contained_in expr_in
  contained_field h = any_field (λ (r : Row). contained_in r ≡ contained (expr_in r)) s t e h λ f i. refl

  pub expr_70 : t ≡ 0x70 → expr_in (read s) ≡ string_literal (body_of s)
  unfolding expr_in expr_by choose inside
  expr_70 k = ap expr_in (leaf_at s t e 0x70 k tt refl)

  pub expr_71 : t ≡ 0x71 → expr_in (read s) ≡ number_literal (number_in (tag_of_front s) (body_of s))
  unfolding expr_in expr_by choose inside
  expr_71 k = ap expr_in (leaf_at s t e 0x71 k tt refl) ∙ ap (λ (x : ℕ). number_literal (number_in x (body_of s))) (sym k ∙ e)

  pub expr_72 : t ≡ 0x72 → expr_in (read s) ≡ boolean_literal (boolean_in (body_of s))
  unfolding expr_in expr_by choose inside
  expr_72 k = ap expr_in (leaf_at s t e 0x72 k tt refl)

  pub expr_74 : t ≡ 0x74 → expr_in (read s) ≡ other_literal (body_of s)
  unfolding expr_in expr_by choose inside
  expr_74 k = ap expr_in (leaf_at s t e 0x74 k tt refl)

  pub expr_75 : t ≡ 0x75 → expr_in (read s) ≡ minus_literal (number_in (tag_of_front s) (body_of s))
  unfolding expr_in expr_by choose inside
  expr_75 k = ap expr_in (leaf_at s t e 0x75 k tt refl) ∙ ap (λ (x : ℕ). minus_literal (number_in x (body_of s))) (sym k ∙ e)

  pub expr_76 : t ≡ 0x76 → expr_in (read s) ≡ array_literal (items_in (read (body_of s)))
  unfolding expr_in expr_by choose inside
  expr_76 k = ap expr_in (nest_at s t e 0x76 k tt refl)

  pub expr_79 : t ≡ 0x79 → expr_in (read s) ≡ other_expr (pieces_in (read (body_of s)))
  unfolding expr_in expr_by choose inside
  expr_79 k = ap expr_in (nest_at s t e 0x79 k tt refl)

  pub expr_7a : t ≡ 0x7a → expr_in (read s) ≡ number_literal (number_in (tag_of_front s) (body_of s))
  unfolding expr_in expr_by choose inside
  expr_7a k = ap expr_in (leaf_at s t e 0x7a k tt refl) ∙ ap (λ (x : ℕ). number_literal (number_in x (body_of s))) (sym k ∙ e)

  pub expr_7b : t ≡ 0x7b → expr_in (read s) ≡ minus_literal (number_in (tag_of_front s) (body_of s))
  unfolding expr_in expr_by choose inside
  expr_7b k = ap expr_in (leaf_at s t e 0x7b k tt refl) ∙ ap (λ (x : ℕ). minus_literal (number_in x (body_of s))) (sym k ∙ e)

  pub expr_30 : t ≡ 0x30 → expr_in (read s) ≡ tag_expr (element_in (read (body_of s)))
  unfolding expr_in expr_by choose inside
  expr_30 k = ap expr_in (nest_at s t e 0x30 k tt refl)

  pub expr_31 : t ≡ 0x31 → expr_in (read s) ≡ tag_expr (fragment_in (read (body_of s)))
  unfolding expr_in expr_by choose inside
  expr_31 k = ap expr_in (nest_at s t e 0x31 k tt refl)

  -- a 73, and all that is no expression
  pub expr_other : (t ≡ 256 → ⊥) → (t ≡ 0x70 → ⊥) → ((t ≡ 0x71) ⊎ (t ≡ 0x7a) → ⊥) → (t ≡ 0x72 → ⊥) → (t ≡ 0x74 → ⊥) → ((t ≡ 0x75) ⊎ (t ≡ 0x7b) → ⊥) → (t ≡ 0x76 → ⊥) → (t ≡ 0x79 → ⊥) → (t ≡ 0x30 → ⊥) → (t ≡ 0x31 → ⊥) →
      expr_in (read s) ≡ null_literal
  unfolding expr_in expr_by choose
  expr_other h a b c d g j k l m =
      any_field (λ (r : Row). expr_in r ≡ null_literal) s t e h λ f i.
      rw (ne_eqb t 0x70 a, ne_eqb t 0x71 (λ z. b (inl z)), ne_eqb t 0x7a (λ z. b (inr z)), ne_eqb t 0x72 c, ne_eqb t 0x74 d, ne_eqb t 0x75 (λ z. g (inl z)), ne_eqb t 0x7b (λ z. g (inr z)), ne_eqb t 0x76 j, ne_eqb t 0x79 k, ne_eqb t 0x30 l, ne_eqb t 0x31 m)

  -- items of an array
  pub items_77 : t ≡ 0x77 → items_in (read s) ≡ spread_item (expr_in (read (body_of s))) (items_in (read (behind_of s)))
  unfolding items_in choose inside
  items_77 k = ap items_in (nest_at s t e 0x77 k tt refl)

  pub items_78 : t ≡ 0x78 → items_in (read s) ≡ hole_item (items_in (read (behind_of s)))
  unfolding items_in choose inside
  items_78 k = ap items_in (leaf_at s t e 0x78 k tt refl)

  pub items_other : (t ≡ 256 → ⊥) → (t ≡ 0x77 → ⊥) → (t ≡ 0x78 → ⊥) → items_in (read s) ≡ item (expr_in (read s)) (items_in (read (behind_of s)))
  unfolding items_in expr_in choose
  items_other h a b = any_field (λ (r : Row). items_in r ≡ item (expr_in r) (items_in (read (behind_of s)))) s t e h λ f i. rw (ne_eqb t 0x77 a, ne_eqb t 0x78 b)

  -- pieces
  pub pieces_20 : t ≡ 0x20 → pieces_in (read s) ≡ source_piece (body_of s) (pieces_in (read (behind_of s)))
  unfolding pieces_in choose inside
  pieces_20 k = ap pieces_in (leaf_at s t e 0x20 k tt refl)

  pub pieces_30 : t ≡ 0x30 → pieces_in (read s) ≡ tag_piece (element_in (read (body_of s))) (pieces_in (read (behind_of s)))
  unfolding pieces_in choose inside
  pieces_30 k = ap pieces_in (nest_at s t e 0x30 k tt refl)

  pub pieces_31 : t ≡ 0x31 → pieces_in (read s) ≡ tag_piece (fragment_in (read (body_of s))) (pieces_in (read (behind_of s)))
  unfolding pieces_in choose inside
  pieces_31 k = ap pieces_in (nest_at s t e 0x31 k tt refl)

  pub pieces_other : (t ≡ 256 → ⊥) → (t ≡ 0x20 → ⊥) → (t ≡ 0x30 → ⊥) → (t ≡ 0x31 → ⊥) → pieces_in (read s) ≡ pieces_in (read (behind_of s))
  unfolding pieces_in choose
  pieces_other h a b c = any_field (λ (r : Row). pieces_in r ≡ pieces_in (read (behind_of s))) s t e h λ f i. rw (ne_eqb t 0x20 a, ne_eqb t 0x30 b, ne_eqb t 0x31 c)
