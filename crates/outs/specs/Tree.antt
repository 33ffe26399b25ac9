-- Templates out and page out as trees: 01's and 02's records in the field's terms, a constructor or a component for each; and which trees are
-- proper. That a body is not too long for its length to say stands with the bytes, in Encode. Assumes nothing: these are definitions.
use Rattle.std.specs.Prelude.{ℕ, suc, Bool, ◌&&◌, ◌≡◌, ◌≤◌, ◌<◌, ◌^◌, List, [], ◌∷◌, Option, Some, None, T, length}
use Rattle.field.specs.Bytes.{Bytes}
use Rattle.page.specs.Check.{is_name, no_hyphen}
use Rattle.page.specs.Limits.{Utf8Ok, NameOk, NumberOk, TextsOk}
use Rattle.page.specs.Number.{Number}
use Rattle.outs.specs.declared.Kind.{Kind}
use Rattle.outs.specs.declared.Kind.TheVariants.{Old, New}

-- ---- templates

-- 01, Form and call: an 80 is a two-byte number, then strings in 81s
pub record OldTemplate : Type 0 where
  pub number : ℕ
  pub strings : List Bytes

-- 02, A6: what a gap is: 1 attribute, 2 child
pub data Gap : Type 0 where
  attribute_gap : Gap
  child_gap : Gap

-- 02, A6: an 84 is a four-byte number, the kind of each gap, then the strings
pub record NewTemplate : Type 0 where
  pub number : ℕ
  pub gaps : List Gap
  pub strings : List Bytes

abbrev pub Template : Kind → Type 0
Template Old = OldTemplate
Template New = NewTemplate

-- 02, A7: a string or more; of an 84 one more than gaps, whose count fits its two bytes wherever the body is not too long
unfoldable pub ProperTemplate : (k : Kind) → Template k → Type 0
ProperTemplate Old t = (t.number < 256 ^ 2) × (1 ≤ length t.strings) × TextsOk t.strings
ProperTemplate New t = (t.number < 256 ^ 4) × (length t.strings ≡ suc (length t.gaps)) × TextsOk t.strings

unfoldable pub ProperTemplates : (k : Kind) → List (Template k) → Type 0
ProperTemplates k [] = Unit {0}
ProperTemplates k (t ∷ ts) = ProperTemplate k t × ProperTemplates k ts

-- ---- page out

-- 01, 94: a tag's name as text, or a component's name, which is a 40 or a 41
pub data Callee : Type 0 where
  tag_name : Bytes → Callee
  identifier : Bytes → Callee
  member : List Bytes → Callee

mutual
  -- 70 to 76 and 79; in place of 30 and 31 the calls 90 to 94: jsxTemplate, jsxAttr, jsxEscape, a boolean choice, jsx
  pub data Expr : Type 0 where
    string_literal : Bytes → Expr
    number_literal : Number → Expr
    boolean_literal : Bool → Expr
    null_literal : Expr
    other_literal : Bytes → Expr
    minus_literal : Number → Expr
    array_literal : Elements → Expr
    other_expr : Pieces → Expr
    template_call : (number : ℕ) (dynamic : Exprs) → Expr
    attr_call : (name : Bytes) (value : Expr) → Expr
    escape_call : Expr → Expr
    boolean_choice : Expr → Bytes → Expr
    jsx_call : Callee → Props → Key → Expr

  -- the dynamic expressions of a 90
  pub data Exprs : Type 0 where
    no_exprs : Exprs
    expr : Expr → Exprs → Exprs

  -- of an array: expressions, 77 and 78
  pub data Elements : Type 0 where
    no_elements : Elements
    element : Expr → Elements → Elements
    spread_element : Expr → Elements → Elements
    hole : Elements → Elements

  -- of an item and a 79: 20 and, by A7, any expression
  pub data Pieces : Type 0 where
    no_pieces : Pieces
    source_piece : Bytes → Pieces → Pieces
    expr_piece : Expr → Pieces → Pieces

  -- of a 94: 73 or 95
  pub data Props : Type 0 where
    null_props : Props
    object : Properties → Props

  -- of a 95: 96 and 53
  pub data Properties : Type 0 where
    no_properties : Properties
    property : Bytes → Expr → Properties → Properties
    spread_property : Expr → Properties → Properties

  pub data Key : Type 0 where
    no_key : Key
    key : Expr → Key

-- 10, 11, 12 and 13
pub data Item : Type 0 where
  export_item : Pieces → Item
  declaration_item : Pieces → Item
  statement_item : Pieces → Item
  empty_item : Item

-- 82: the source, and the sum of the helpers that are called
pub record Import : Type 0 where
  pub source : Bytes
  pub sum : ℕ

-- where the 83 stands follows from the items, so that the tree says only whether it does
pub record PageOut : Type 0 where
  pub helpers : Option Import
  pub places_templates : Bool
  pub items : List Item

-- ---- which of them are proper; the number is the width of a call's number

-- 01: two to eight 40s without hyphens
unfoldable pub PartsOk : List Bytes → Type 0
PartsOk [] = Unit {0}
PartsOk (n ∷ ns) = T (is_name n && no_hyphen n) × PartsOk ns

unfoldable pub CalleeOk : Callee → Type 0
CalleeOk (tag_name b) = Utf8Ok b
CalleeOk (identifier n) = NameOk n
CalleeOk (member ns) = (2 ≤ length ns) × (length ns ≤ 8) × PartsOk ns

unfoldable mutual
  pub ExprOk : Expr → ℕ → Type 0
  ExprOk (string_literal b) w = Utf8Ok b
  ExprOk (number_literal n) w = NumberOk n
  ExprOk (boolean_literal b) w = Unit {0}
  ExprOk null_literal w = Unit {0}
  ExprOk (other_literal b) w = Utf8Ok b
  ExprOk (minus_literal n) w = NumberOk n
  ExprOk (array_literal es) w = ElementsOk es w
  ExprOk (other_expr ps) w = PiecesOk ps w
  ExprOk (template_call n es) w = (n < 256 ^ w) × ExprsOk es w
  ExprOk (attr_call b e) w = Utf8Ok b × ExprOk e w
  ExprOk (escape_call e) w = ExprOk e w
  ExprOk (boolean_choice e b) w = ExprOk e w × Utf8Ok b
  ExprOk (jsx_call c ps k) w = CalleeOk c × PropsOk ps w × KeyOk k w

  pub ExprsOk : Exprs → ℕ → Type 0
  ExprsOk no_exprs w = Unit {0}
  ExprsOk (expr e es) w = ExprOk e w × ExprsOk es w

  pub ElementsOk : Elements → ℕ → Type 0
  ElementsOk no_elements w = Unit {0}
  ElementsOk (element e es) w = ExprOk e w × ElementsOk es w
  ElementsOk (spread_element e es) w = ExprOk e w × ElementsOk es w
  ElementsOk (hole es) w = ElementsOk es w

  pub PiecesOk : Pieces → ℕ → Type 0
  PiecesOk no_pieces w = Unit {0}
  PiecesOk (source_piece b ps) w = Utf8Ok b × PiecesOk ps w
  PiecesOk (expr_piece e ps) w = ExprOk e w × PiecesOk ps w

  pub PropsOk : Props → ℕ → Type 0
  PropsOk null_props w = Unit {0}
  PropsOk (object ps) w = PropertiesOk ps w

  pub PropertiesOk : Properties → ℕ → Type 0
  PropertiesOk no_properties w = Unit {0}
  PropertiesOk (property b e ps) w = Utf8Ok b × ExprOk e w × PropertiesOk ps w
  PropertiesOk (spread_property e ps) w = ExprOk e w × PropertiesOk ps w

  pub KeyOk : Key → ℕ → Type 0
  KeyOk no_key w = Unit {0}
  KeyOk (key e) w = ExprOk e w

unfoldable pub ItemOk : Item → ℕ → Type 0
ItemOk (export_item ps) w = PiecesOk ps w
ItemOk (declaration_item ps) w = PiecesOk ps w
ItemOk (statement_item ps) w = PiecesOk ps w
ItemOk empty_item w = Unit {0}

unfoldable pub ItemsOk : List Item → ℕ → Type 0
ItemsOk [] w = Unit {0}
ItemsOk (i ∷ is) w = ItemOk i w × ItemsOk is w

-- 02, A7: any text, sum 1 to 15
unfoldable pub ImportOk : Option Import → Type 0
ImportOk None = Unit {0}
ImportOk (Some m) = Utf8Ok m.source × (1 ≤ m.sum) × (m.sum ≤ 15)

unfoldable pub ProperPageOut : ℕ → PageOut → Type 0
ProperPageOut w p = ImportOk p.helpers × ItemsOk p.items w
