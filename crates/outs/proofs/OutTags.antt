-- The tags that a place in a page out allows, as a kind for each: a proof goes by the kinds, and at each the tag is a numeral, so that checks
-- compute. Main statements: `expr_tag`, `element_tag`, `piece_tag`, `a_property_tag`, `callee_tag`, `props_tag`; items have the kinds of page's module items. Assumes nothing.
use mathlib.Core.Bool.{◌&&◌, ◌||◌}
use Prim.Native.Nat.{ℕ}
use lib.Dec.{T, leb, eqb}
use Rattle.page.proofs.Booleans.{or_either}
use Rattle.page.proofs.Tags.{tag_or, Each, in_order}
use Rattle.outs.specs.PageOut.{expression}

pub data ExprTag : ℕ → Type 0 where
  string_tag : ExprTag 0x70
  whole_tag : ExprTag 0x71
  boolean_tag : ExprTag 0x72
  null_tag : ExprTag 0x73
  other_literal_tag : ExprTag 0x74
  minus_whole_tag : ExprTag 0x75
  array_tag : ExprTag 0x76
  other_expr_tag : ExprTag 0x79
  scaled_tag : ExprTag 0x7a
  minus_scaled_tag : ExprTag 0x7b
  template_tag : ExprTag 0x90
  attr_tag : ExprTag 0x91
  escape_tag : ExprTag 0x92
  choice_tag : ExprTag 0x93
  jsx_tag : ExprTag 0x94

pub data ElementTag : ℕ → Type 0 where
  expr_element_tag : {t : ℕ} → ExprTag t → ElementTag t
  spread_element_tag : ElementTag 0x77
  hole_tag : ElementTag 0x78

pub data PieceTag : ℕ → Type 0 where
  source_tag : PieceTag 0x20
  expr_piece_tag : {t : ℕ} → ExprTag t → PieceTag t

pub data PropertyTag : ℕ → Type 0 where
  property_tag : PropertyTag 0x96
  spread_property_tag : PropertyTag 0x53

pub data CalleeTag : ℕ → Type 0 where
  tag_name_tag : CalleeTag 0x81
  identifier_tag : CalleeTag 0x40
  member_tag : CalleeTag 0x41

pub data PropsTag : ℕ → Type 0 where
  null_props_tag : PropsTag 0x73
  object_tag : PropsTag 0x95

-- ---- from a test to the kinds

pub expr_tag : (t : ℕ) → T (expression t) → ExprTag t
unfolding Each
expr_tag t h =
    or_either ((leb 0x70 t && leb t 0x76) || (leb 0x79 t && leb t 0x7b)) (leb 0x90 t && leb t 0x94) h
    (λ k. or_either (leb 0x70 t && leb t 0x76) (leb 0x79 t && leb t 0x7b) k
    (λ l. in_order ExprTag t 0x70 6 l (string_tag, (whole_tag, (boolean_tag, (null_tag, (other_literal_tag, (minus_whole_tag, array_tag)))))))
    (λ l. in_order ExprTag t 0x79 2 l (other_expr_tag, (scaled_tag, minus_scaled_tag))))
    (λ l. in_order ExprTag t 0x90 4 l (template_tag, (attr_tag, (escape_tag, (choice_tag, jsx_tag)))))

pub element_tag : (t : ℕ) → T (expression t || eqb t 0x77 || eqb t 0x78) → ElementTag t
element_tag t h =
    tag_or ElementTag t 0x77 spread_element_tag λ a.
    tag_or ElementTag t 0x78 hole_tag λ b.
    or_either (expression t || eqb t 0x77) (eqb t 0x78) h
    (λ k. or_either (expression t) (eqb t 0x77) k (λ l. expr_element_tag (expr_tag t l)) (λ l. absurd (rw a at l)))
    (λ k. absurd (rw b at k))

pub piece_tag : (t : ℕ) → T (eqb t 0x20 || expression t) → PieceTag t
piece_tag t h = tag_or PieceTag t 0x20 source_tag λ a. expr_piece_tag (expr_tag t (rw a at h))

pub a_property_tag : (t : ℕ) → T (eqb t 0x96 || eqb t 0x53) → PropertyTag t
a_property_tag t h =
    tag_or PropertyTag t 0x96 property_tag λ a.
    tag_or PropertyTag t 0x53 spread_property_tag λ b. absurd (rw (a, b) at h)

pub callee_tag : (t : ℕ) → T (eqb t 0x81 || eqb t 0x40 || eqb t 0x41) → CalleeTag t
callee_tag t h =
    tag_or CalleeTag t 0x81 tag_name_tag λ a.
    tag_or CalleeTag t 0x40 identifier_tag λ b.
    tag_or CalleeTag t 0x41 member_tag λ c. absurd (rw (a, b, c) at h)

pub props_tag : (t : ℕ) → T (eqb t 0x73 || eqb t 0x95) → PropsTag t
props_tag t h =
    tag_or PropsTag t 0x73 null_props_tag λ a.
    tag_or PropsTag t 0x95 object_tag λ b. absurd (rw (a, b) at h)
