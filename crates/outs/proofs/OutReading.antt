-- The tree of a body within a page out, whatever its fields: on the row of a tree it is the tree (OutComplete). Assumes nothing.
use Prim.Native.Nat.{ℕ}
use mathlib.Core.List.{[]}
use lib.Dec.{eqb}
use Rattle.field.specs.Bytes.{Bytes}
use Rattle.field.specs.Number.{number_of}
use Rattle.field.specs.Row.{Row, end, loose, field, read}
use Rattle.page.specs.Number.{number_in, is_number, is_minus}
use Rattle.page.specs.Tree.{choose, texts_in, boolean_in}
use Rattle.outs.specs.Tree.{Callee, tag_name, identifier, member, Expr, string_literal, number_literal, boolean_literal, null_literal, other_literal, minus_literal, array_literal, other_expr, template_call, attr_call, escape_call, boolean_choice, jsx_call, Exprs, no_exprs, expr, Elements, no_elements, element, spread_element, hole, Pieces, no_pieces, source_piece, expr_piece, Props, null_props, object, Properties, no_properties, property, spread_property, Key, no_key, key}

unfoldable pub callee_by : ℕ → Bytes → Callee
callee_by t f = choose (eqb t 0x81) (λ _. tag_name f) λ _. choose (eqb t 0x40) (λ _. identifier f) λ _. member (texts_in 0x40 (read f))

-- the bytes of the first field, and of the second
unfoldable pub front_in : Row → Bytes
front_in end = []
front_in (loose b) = []
front_in (field t f i r) = f

unfoldable pub front_behind : Row → Bytes
front_behind end = []
front_behind (loose b) = []
front_behind (field t f i r) = front_in r

unfoldable pub expr_by : ℕ → Bytes → Row → (Unit {0} → Elements) → (Unit {0} → Pieces) → (Unit {0} → Exprs) → (Unit {0} → Expr) → (Unit {0} → Expr) → (Unit {0} → Expr) → Expr
expr_by t f i es ps xs first second call =
    choose (eqb t 0x70) (λ _. string_literal f) λ _.
    choose (is_number t) (λ _. number_literal (number_in t f)) λ _.
    choose (eqb t 0x72) (λ _. boolean_literal (boolean_in f)) λ _.
    choose (eqb t 0x74) (λ _. other_literal f) λ _.
    choose (is_minus t) (λ _. minus_literal (number_in t f)) λ _.
    choose (eqb t 0x76) (λ _. array_literal (es tt)) λ _.
    choose (eqb t 0x79) (λ _. other_expr (ps tt)) λ _.
    choose (eqb t 0x90) (λ _. template_call (number_of f) (xs tt)) λ _.
    choose (eqb t 0x91) (λ _. attr_call (front_in i) (second tt)) λ _.
    choose (eqb t 0x92) (λ _. escape_call (first tt)) λ _.
    choose (eqb t 0x93) (λ _. boolean_choice (first tt) (front_behind i)) λ _.
    choose (eqb t 0x94) call λ _. null_literal

unfoldable mutual
  pub exprs_in : Row → Exprs
  exprs_in end = no_exprs
  exprs_in (loose b) = no_exprs
  exprs_in (field t f i r) = expr (expr_by t f i (λ _. elements_in i) (λ _. pieces_in i) (λ _. exprs_in i) (λ _. expr_in i) (λ _. second_in i) (λ _. call_in i)) (exprs_in r)

  pub elements_in : Row → Elements
  elements_in end = no_elements
  elements_in (loose b) = no_elements
  elements_in (field t f i r) =
      choose (eqb t 0x77) (λ _. spread_element (expr_in i) (elements_in r)) λ _.
      choose (eqb t 0x78) (λ _. hole (elements_in r)) λ _.
      element (expr_by t f i (λ _. elements_in i) (λ _. pieces_in i) (λ _. exprs_in i) (λ _. expr_in i) (λ _. second_in i) (λ _. call_in i)) (elements_in r)

  pub pieces_in : Row → Pieces
  pieces_in end = no_pieces
  pieces_in (loose b) = no_pieces
  pieces_in (field t f i r) =
      choose (eqb t 0x20) (λ _. source_piece f (pieces_in r)) λ _.
      expr_piece (expr_by t f i (λ _. elements_in i) (λ _. pieces_in i) (λ _. exprs_in i) (λ _. expr_in i) (λ _. second_in i) (λ _. call_in i)) (pieces_in r)

  pub properties_in : Row → Properties
  properties_in end = no_properties
  properties_in (loose b) = no_properties
  properties_in (field t f i r) =
      choose (eqb t 0x96) (λ _. property (front_in i) (second_in i) (properties_in r)) λ _. spread_property (expr_in i) (properties_in r)

  -- the first field, and the second
  pub expr_in : Row → Expr
  expr_in end = null_literal
  expr_in (loose b) = null_literal
  expr_in (field t f i r) = expr_by t f i (λ _. elements_in i) (λ _. pieces_in i) (λ _. exprs_in i) (λ _. expr_in i) (λ _. second_in i) (λ _. call_in i)

  pub second_in : Row → Expr
  second_in end = null_literal
  second_in (loose b) = null_literal
  second_in (field t f i r) = expr_in r

  -- the fields of a 94
  pub call_in : Row → Expr
  call_in end = null_literal
  call_in (loose b) = null_literal
  call_in (field t f i r) = jsx_call (callee_by t f) (props_in r) (key_behind r)

  pub props_in : Row → Props
  props_in end = null_props
  props_in (loose b) = null_props
  props_in (field t f i r) = choose (eqb t 0x95) (λ _. object (properties_in i)) λ _. null_props

  pub key_behind : Row → Key
  key_behind end = no_key
  key_behind (loose b) = no_key
  key_behind (field t f i r) = key_in r

  pub key_in : Row → Key
  key_in end = no_key
  key_in (loose b) = no_key
  key_in (field t f i r) = key (expr_by t f i (λ _. elements_in i) (λ _. pieces_in i) (λ _. exprs_in i) (λ _. expr_in i) (λ _. second_in i) (λ _. call_in i))
