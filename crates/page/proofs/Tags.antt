-- The tags that a check allows in a place, as a kind for each: a proof goes by the kinds, and at each the tag is a numeral, so that
-- checks and readings compute.
-- Main statements: `tag_or`, `in_order`; `expr_tag`, `child_tag`, `attribute_tag`, `value_tag`, `name_tag`, `attr_name_tag`, `piece_tag`, `module_item_tag`.
-- Assumes nothing.
use mathlib.Core.Path.{◌≡◌, refl, sym, subst}
use mathlib.Core.Bool.{Bool, true, false, ◌&&◌, ◌||◌}
use Prim.Native.Nat.{ℕ, zero, suc, ◌+◌, ◌≤◌}
use native.Mathlib.Omega.{arith}
use lib.Dec.{T, leb, eqb, leb→le}
use borrow.Author.Tests.{eqb-true, eqb-false}
use Rattle.page.specs.Check.{is_name_tag, is_tag, is_expr, is_child, is_attribute}
use Rattle.page.proofs.Booleans.{and_both, or_either}

pub data ExprTag : ℕ → Type 0 where
  string_tag : ExprTag 0x70
  whole_tag : ExprTag 0x71
  scaled_tag : ExprTag 0x7a
  boolean_tag : ExprTag 0x72
  null_tag : ExprTag 0x73
  other_literal_tag : ExprTag 0x74
  minus_whole_tag : ExprTag 0x75
  minus_scaled_tag : ExprTag 0x7b
  array_tag : ExprTag 0x76
  other_expr_tag : ExprTag 0x79
  element_expr_tag : ExprTag 0x30
  fragment_expr_tag : ExprTag 0x31

pub data ChildTag : ℕ → Type 0 where
  text_tag : ChildTag 0x60
  container_tag : ChildTag 0x52
  element_child_tag : ChildTag 0x30
  fragment_child_tag : ChildTag 0x31
  spread_child_tag : ChildTag 0x61

pub data AttributeTag : ℕ → Type 0 where
  named_attribute_tag : AttributeTag 0x50
  spread_attribute_tag : AttributeTag 0x53
  child_behind_tag : {t : ℕ} → ChildTag t → eqb t 0x50 ≡ false → eqb t 0x53 ≡ false → AttributeTag t

pub data ValueTag : ℕ → Type 0 where
  string_value_tag : ValueTag 0x51
  container_value_tag : ValueTag 0x52
  element_value_tag : ValueTag 0x30
  fragment_value_tag : ValueTag 0x31

pub data NameTag : ℕ → Type 0 where
  identifier_tag : NameTag 0x40
  member_tag : NameTag 0x41
  namespaced_tag : NameTag 0x42

pub data AttrNameTag : ℕ → Type 0 where
  ident_attr_tag : AttrNameTag 0x40
  namespaced_attr_tag : AttrNameTag 0x42

pub data ItemTag : ℕ → Type 0 where
  expr_item_tag : {t : ℕ} → ExprTag t → eqb t 0x77 ≡ false → eqb t 0x78 ≡ false → ItemTag t
  spread_item_tag : ItemTag 0x77
  hole_item_tag : ItemTag 0x78

pub data PieceTag : ℕ → Type 0 where
  source_tag : PieceTag 0x20
  element_piece_tag : PieceTag 0x30
  fragment_piece_tag : PieceTag 0x31

pub data ModuleItemTag : ℕ → Type 0 where
  export_tag : ModuleItemTag 0x10
  declaration_tag : ModuleItemTag 0x11
  statement_tag : ModuleItemTag 0x12
  empty_item_tag : ModuleItemTag 0x13

-- ---- from a test to the kinds, of any sort K

-- t is the tag, or its test fails
pub tag_or : (K : ℕ → Type 0) (t u : ℕ) → K u → (eqb t u ≡ false → K t) → K t
tag_or K t u x q = on (eqb t u) refl
  where
    on : (b : Bool) → eqb t u ≡ b → K t
    on true e = subst K (sym (eqb-true t u e)) x
    on false e = q e

-- what holds of n tags in order, from the least on, and of no other
unfoldable pub Each : (ℕ → Type 0) → ℕ → ℕ → Type 0
Each K u zero = K u
Each K u (suc n) = K u × Each K (suc u) n

from_least : (K : ℕ → Type 0) (t u n : ℕ) → u ≤ t → t ≤ n + u → Each K u n → K t
unfolding Each
from_least K t u zero l m k = let e : u ≡ t = omega arith in subst K e k
from_least K t u (suc n) l m k = tag_or K t u k.0 λ e. from_least K t (suc u) n (omega (arith, eqb-false t u e)) (omega arith) k.1

pub in_order : (K : ℕ → Type 0) (t u n : ℕ) → T (leb u t && leb t (n + u)) → Each K u n → K t
in_order K t u n h k =
    let p = and_both (leb u t) (leb t (n + u)) h in
    from_least K t u n (leb→le u t p.0) (leb→le t (n + u) p.1) k

pub child_tag : (t : ℕ) → T (is_child t) → ChildTag t
child_tag t h =
    tag_or ChildTag t 0x60 text_tag λ a.
    tag_or ChildTag t 0x52 container_tag λ b.
    tag_or ChildTag t 0x30 element_child_tag λ c.
    tag_or ChildTag t 0x31 fragment_child_tag λ d.
    tag_or ChildTag t 0x61 spread_child_tag λ e. absurd (rw (a, b, c, d, e) at h)

pub expr_tag : (t : ℕ) → T (is_expr t) → ExprTag t
unfolding Each
expr_tag t h =
    tag_or ExprTag t 0x30 element_expr_tag λ b.
    tag_or ExprTag t 0x31 fragment_expr_tag λ c.
    or_either ((leb 0x70 t && leb t 0x76) || (leb 0x79 t && leb t 0x7b)) (is_tag t) h
    (λ k. or_either (leb 0x70 t && leb t 0x76) (leb 0x79 t && leb t 0x7b) k
    (λ l. in_order ExprTag t 0x70 6 l (string_tag, (whole_tag, (boolean_tag, (null_tag, (other_literal_tag, (minus_whole_tag, array_tag)))))))
    (λ l. in_order ExprTag t 0x79 2 l (other_expr_tag, (scaled_tag, minus_scaled_tag))))
    (λ k. absurd (rw (b, c) at k))

pub attribute_tag : (t : ℕ) → T (is_attribute t || is_child t) → AttributeTag t
attribute_tag t h =
    tag_or AttributeTag t 0x50 named_attribute_tag λ a.
    tag_or AttributeTag t 0x53 spread_attribute_tag λ b. child_behind_tag (child_tag t (rw (a, b) at h)) a b

pub value_tag : (t : ℕ) → T (eqb t 0x51 || eqb t 0x52 || is_tag t) → ValueTag t
value_tag t h =
    tag_or ValueTag t 0x51 string_value_tag λ a.
    tag_or ValueTag t 0x52 container_value_tag λ b.
    tag_or ValueTag t 0x30 element_value_tag λ c.
    tag_or ValueTag t 0x31 fragment_value_tag λ d. absurd (rw (a, b, c, d) at h)

pub name_tag : (t : ℕ) → T (is_name_tag t) → NameTag t
unfolding Each
name_tag t h = in_order NameTag t 0x40 2 h (identifier_tag, (member_tag, namespaced_tag))

pub attr_name_tag : (t : ℕ) → T (eqb t 0x40 || eqb t 0x42) → AttrNameTag t
attr_name_tag t h =
    tag_or AttrNameTag t 0x40 ident_attr_tag λ a.
    tag_or AttrNameTag t 0x42 namespaced_attr_tag λ b. absurd (rw (a, b) at h)

pub item_tag : (t : ℕ) → T (is_expr t || eqb t 0x77 || eqb t 0x78) → ItemTag t
item_tag t h =
    tag_or ItemTag t 0x77 spread_item_tag λ a.
    tag_or ItemTag t 0x78 hole_item_tag λ b.
    or_either (is_expr t || eqb t 0x77) (eqb t 0x78) h
    (λ k. or_either (is_expr t) (eqb t 0x77) k (λ l. expr_item_tag (expr_tag t l) a b) (λ l. absurd (rw a at l)))
    (λ k. absurd (rw b at k))

pub piece_tag : (t : ℕ) → T (eqb t 0x20 || is_tag t) → PieceTag t
piece_tag t h =
    tag_or PieceTag t 0x20 source_tag λ a.
    tag_or PieceTag t 0x30 element_piece_tag λ b.
    tag_or PieceTag t 0x31 fragment_piece_tag λ c. absurd (rw (a, b, c) at h)

pub module_item_tag : (t : ℕ) → T (leb 0x10 t && leb t 0x13) → ModuleItemTag t
unfolding Each
module_item_tag t h = in_order ModuleItemTag t 0x10 3 h (export_tag, (declaration_tag, (statement_tag, empty_item_tag)))
