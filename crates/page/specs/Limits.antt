-- The limits of 01 on a page and on options: depth, names, letters, numbers, lengths; the number is the depth at which the fields stand.
-- Assumes nothing: these are definitions.
use Rattle.std.specs.Prelude.{ℕ, suc, ◌&&◌, not, List, [], ◌∷◌, T, leb, length}
use Rattle.field.specs.Bytes.{Bytes, null?}
use Rattle.utf8.specs.Utf8.{utf8}
use Rattle.page.specs.Number.{Number, in_range}
use Rattle.page.specs.Check.{is_name, no_hyphen}
use Rattle.page.specs.Encode.{encode, encode_options}
use Rattle.names.specs.Names as A
use Rattle.names.specs.Names.{AttrName}
use Rattle.page.specs.Page.{Name, identifier, member, namespaced, Tag, element, fragment, Attributes, no_attributes, attribute, spread_attribute, Value, absent, string_value, empty_value, container_value, tag_value, Children, no_children, text_child, empty_child, container_child, tag_child, spread_child, Expr, string_literal, number_literal, boolean_literal, null_literal, other_literal, minus_literal, array_literal, other_expr, tag_expr, Items, no_items, item, spread_item, hole_item, Pieces, no_pieces, source_piece, tag_piece, export_item, declaration_item, statement_item, empty_item, Page, Options}

abbrev pub Deep : ℕ → Type 0
Deep d = T (leb d 48)

abbrev pub NameOk : Bytes → Type 0
NameOk n = T (is_name n)

abbrev pub Utf8Ok : Bytes → Type 0
Utf8Ok b = T (utf8 b)

abbrev pub NumberOk : Number → Type 0
NumberOk n = T (in_range n)

unfoldable pub MembersOk : ℕ → List Bytes → Type 0
MembersOk d [] = Unit {0}
MembersOk d (n ∷ ns) = Deep d × T (is_name n && no_hyphen n) × MembersOk d ns

unfoldable pub ElementNameOk : ℕ → Name → Type 0
ElementNameOk d (identifier n) = Deep d × NameOk n
ElementNameOk d (member ns) = Deep d × T (leb 2 (length ns)) × T (leb (length ns) 8) × MembersOk (suc d) ns
ElementNameOk d (namespaced n m) = Deep d × Deep (suc d) × NameOk n × NameOk m

unfoldable pub AttrNameOk : ℕ → AttrName → Type 0
AttrNameOk d (A.ident n) = Deep d × NameOk n
AttrNameOk d (A.namespaced n m) = Deep d × Deep (suc d) × NameOk n × NameOk m

unfoldable mutual
  pub TagOk : Tag → ℕ → Type 0
  TagOk (element n as' cs) d = Deep d × ElementNameOk (suc d) n × AttributesOk as' (suc d) × ChildrenOk cs (suc d)
  TagOk (fragment cs) d = Deep d × ChildrenOk cs (suc d)

  pub AttributesOk : Attributes → ℕ → Type 0
  AttributesOk no_attributes d = Unit {0}
  AttributesOk (attribute n v as') d = Deep d × AttrNameOk (suc d) n × ValueOk v (suc d) × AttributesOk as' d
  AttributesOk (spread_attribute e as') d = Deep d × ExprOk e (suc d) × AttributesOk as' d

  pub ValueOk : Value → ℕ → Type 0
  ValueOk absent d = Unit {0}
  ValueOk (string_value b) d = Deep d × Utf8Ok b
  ValueOk empty_value d = Deep d
  ValueOk (container_value e) d = Deep d × ExprOk e (suc d)
  ValueOk (tag_value t) d = TagOk t d

  pub ChildrenOk : Children → ℕ → Type 0
  ChildrenOk no_children d = Unit {0}
  ChildrenOk (text_child b cs) d = Deep d × Utf8Ok b × ChildrenOk cs d
  ChildrenOk (empty_child cs) d = Deep d × ChildrenOk cs d
  ChildrenOk (container_child e cs) d = Deep d × ExprOk e (suc d) × ChildrenOk cs d
  ChildrenOk (tag_child t cs) d = TagOk t d × ChildrenOk cs d
  ChildrenOk (spread_child e cs) d = Deep d × ExprOk e (suc d) × ChildrenOk cs d

  pub ExprOk : Expr → ℕ → Type 0
  ExprOk (string_literal b) d = Deep d × Utf8Ok b
  ExprOk (number_literal n) d = Deep d × NumberOk n
  ExprOk (boolean_literal b) d = Deep d
  ExprOk null_literal d = Deep d
  ExprOk (other_literal b) d = Deep d × Utf8Ok b
  ExprOk (minus_literal n) d = Deep d × NumberOk n
  ExprOk (array_literal is) d = Deep d × ItemsOk is (suc d)
  ExprOk (other_expr ps) d = Deep d × PiecesOk ps (suc d)
  ExprOk (tag_expr t) d = TagOk t d

  pub ItemsOk : Items → ℕ → Type 0
  ItemsOk no_items d = Unit {0}
  ItemsOk (item e is) d = ExprOk e d × ItemsOk is d
  ItemsOk (spread_item e is) d = Deep d × ExprOk e (suc d) × ItemsOk is d
  ItemsOk (hole_item is) d = Deep d × ItemsOk is d

  pub PiecesOk : Pieces → ℕ → Type 0
  PiecesOk no_pieces d = Unit {0}
  PiecesOk (source_piece b ps) d = Deep d × Utf8Ok b × PiecesOk ps d
  PiecesOk (tag_piece t ps) d = TagOk t d × PiecesOk ps d

unfoldable pub ModuleItemsOk : Page → Type 0
ModuleItemsOk [] = Unit {0}
ModuleItemsOk (export_item ps ∷ is) = PiecesOk ps 3 × ModuleItemsOk is
ModuleItemsOk (declaration_item ps ∷ is) = PiecesOk ps 3 × ModuleItemsOk is
ModuleItemsOk (statement_item ps ∷ is) = PiecesOk ps 3 × ModuleItemsOk is
ModuleItemsOk (empty_item ∷ is) = ModuleItemsOk is

-- 01: a page of at most 32,768 bytes
unfoldable pub WithinLimits : Page → Type 0
WithinLimits p = ModuleItemsOk p × T (leb (length (encode p)) 32768)

unfoldable pub TextsOk : List Bytes → Type 0
TextsOk [] = Unit {0}
TextsOk (x ∷ xs) = Utf8Ok x × TextsOk xs

-- 01: options of at most 4,096 bytes, the source of one byte or more
unfoldable pub OptionsOk : Options → Type 0
OptionsOk o = TextsOk o.skip_serialize × TextsOk o.skip_prop_serialize × Utf8Ok o.import_source × T (not (null? o.import_source)) × T (leb (length (encode_options o)) 4096)
