-- The abstract syntax of a page: 01's fields in JSX's terms, a constructor for each. Names are plain bytes; that they are names is a
-- check's to say. Assumes nothing: these are definitions.
use Rattle.std.specs.Prelude.{Bool, List}
use Rattle.field.specs.Bytes.{Bytes}
use Rattle.names.specs.Names.{AttrName}
use Rattle.page.specs.Number.{Number}

-- 40, 41, 42 as an element's name
pub data Name : Type 0 where
  identifier : Bytes → Name
  member : List Bytes → Name
  namespaced : Bytes → Bytes → Name

mutual
  -- 30 and 31
  pub data Tag : Type 0 where
    element : Name → Attributes → Children → Tag
    fragment : Children → Tag

  -- a series of 50 and 53
  pub data Attributes : Type 0 where
    no_attributes : Attributes
    attribute : AttrName → Value → Attributes → Attributes
    spread_attribute : Expr → Attributes → Attributes

  -- what follows the name in a 50
  pub data Value : Type 0 where
    absent : Value
    string_value : Bytes → Value
    empty_value : Value
    container_value : Expr → Value
    tag_value : Tag → Value

  -- a series of 60, 52, 30, 31 and 61
  pub data Children : Type 0 where
    no_children : Children
    text_child : Bytes → Children → Children
    empty_child : Children → Children
    container_child : Expr → Children → Children
    tag_child : Tag → Children → Children
    spread_child : Expr → Children → Children

  -- 70 to 76, 79, 30 and 31
  pub data Expr : Type 0 where
    string_literal : Bytes → Expr
    number_literal : Number → Expr
    boolean_literal : Bool → Expr
    null_literal : Expr
    other_literal : Bytes → Expr
    minus_literal : Number → Expr
    array_literal : Items → Expr
    other_expr : Pieces → Expr
    tag_expr : Tag → Expr

  -- a series of expressions, 77 and 78
  pub data Items : Type 0 where
    no_items : Items
    item : Expr → Items → Items
    spread_item : Expr → Items → Items
    hole_item : Items → Items

  -- a series of 20, 30 and 31
  pub data Pieces : Type 0 where
    no_pieces : Pieces
    source_piece : Bytes → Pieces → Pieces
    tag_piece : Tag → Pieces → Pieces

-- 10, 11, 12 and 13
pub data ModuleItem : Type 0 where
  export_item : Pieces → ModuleItem
  declaration_item : Pieces → ModuleItem
  statement_item : Pieces → ModuleItem
  empty_item : ModuleItem

abbrev pub Page : Type 0
Page = List ModuleItem

-- 02, 03 and 04
pub record Options : Type 0 where
  pub skip_serialize : List Bytes
  pub skip_prop_serialize : List Bytes
  pub import_source : Bytes
