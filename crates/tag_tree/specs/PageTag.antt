-- The page's tree of a tag as it was read: a field of 01 for each thing, closing names dropped. Main definition: `page_tag`.
-- Assumes nothing: these are definitions.
use Rattle.std.specs.Prelude.{List, [], ◌∷◌, eqb}
use Rattle.field.specs.Bytes.{Bytes, pick}
use Rattle.names.specs.Names as A
use Rattle.names.specs.Names.{AttrName}
use Rattle.page.specs.Number as N
use Rattle.page.specs.Page as P
use Rattle.grammar.specs.Known.{Known, whole, minus_whole, decimal, minus_decimal, quoted, boolean, null, other}
use Rattle.grammar.specs.Syntax.{part, Name, Tag, tag, Attributes, no_attributes, attribute, Attribute, no_value, string_value, container_value, tag_value, spread_attribute, Children, no_children, child, Child, text_child, tag_child, empty_child, container_child, spread_child, Expr, tag_expr, known_expr}

-- ---- names

unfoldable pub idents : Name → List Bytes
idents [] = []
idents (part d w ∷ ps) = w ∷ idents ps

-- 40; 42 with a colon, 41 with points
unfoldable pub page_name : Name → P.Name
page_name [] = P.identifier []
page_name (part d w ∷ []) = P.identifier w
page_name (part d w ∷ part e v ∷ ps) = pick (eqb e 58) (P.namespaced w v) (P.member (w ∷ v ∷ idents ps))

-- 40; 42
unfoldable pub page_attr_name : Name → AttrName
page_attr_name [] = A.ident []
page_attr_name (part d w ∷ []) = A.ident w
page_attr_name (part d w ∷ part e v ∷ ps) = A.namespaced w v

-- ---- what is known in braces: 71, 75, 7A, 7B, 70, 72, 73, and a 79 of one 20

unfoldable pub page_known : Known → P.Expr
page_known (whole n) = P.number_literal (N.whole n)
page_known (minus_whole n) = P.minus_literal (N.whole n)
page_known (decimal n p) = P.number_literal (N.scaled n p)
page_known (minus_decimal n p) = P.minus_literal (N.scaled n p)
page_known (quoted w) = P.string_literal w
page_known (boolean b) = P.boolean_literal b
page_known null = P.null_literal
page_known (other w) = P.other_expr (P.source_piece w P.no_pieces)

-- ---- tags

-- 31 where the name is empty, else 30
unfoldable pub page_tag_by : Name → P.Attributes → P.Children → P.Tag
page_tag_by [] as' cs = P.fragment cs
page_tag_by (p ∷ n) as' cs = P.element (page_name (p ∷ n)) as' cs

unfoldable mutual
  pub page_tag : Tag → P.Tag
  page_tag (tag n ps ks m) = page_tag_by n (page_attributes ps) (page_children ks)

  pub page_attributes : Attributes → P.Attributes
  page_attributes no_attributes = P.no_attributes
  page_attributes (attribute a ps) = page_attribute a (page_attributes ps)

  -- in front of others
  pub page_attribute : Attribute → P.Attributes → P.Attributes
  page_attribute (no_value n) as' = P.attribute (page_attr_name n) P.absent as'
  page_attribute (string_value n w) as' = P.attribute (page_attr_name n) (P.string_value w) as'
  page_attribute (container_value n b) as' = P.attribute (page_attr_name n) (P.container_value (page_expr b)) as'
  page_attribute (tag_value n t) as' = P.attribute (page_attr_name n) (P.tag_value (page_tag t)) as'
  page_attribute (spread_attribute b) as' = P.spread_attribute (page_expr b) as'

  pub page_children : Children → P.Children
  page_children no_children = P.no_children
  page_children (child k ks) = page_child k (page_children ks)

  -- in front of others
  pub page_child : Child → P.Children → P.Children
  page_child (text_child w) cs = P.text_child w cs
  page_child (tag_child t) cs = P.tag_child (page_tag t) cs
  page_child empty_child cs = P.empty_child cs
  page_child (container_child b) cs = P.container_child (page_expr b) cs
  page_child (spread_child b) cs = P.spread_child (page_expr b) cs

  pub page_expr : Expr → P.Expr
  page_expr (tag_expr t) = P.tag_expr (page_tag t)
  page_expr (known_expr k) = page_known k
