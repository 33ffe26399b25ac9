-- What is written of what was read, as bytes; fields that are still open have heads without a length. Main definitions: `begun`, `bytes_of_tag`.
-- Assumes nothing: these are definitions.
use Rattle.std.specs.Prelude.{ℕ, ◌≡◌, [], ◌∷◌, ◌++◌}
use Rattle.field.specs.Bytes.{Bytes}
use Rattle.field.specs.Row.{end, bytes}
use Rattle.field.specs.Put.{head}
use Rattle.page.specs.Page as P
use Rattle.page.specs.Encode.{name_row, attr_name_row, tag_row, attributes_row, children_row, expr_row}
use Rattle.grammar.specs.Syntax.{Name, Tag, Attributes, no_attributes, Attribute, Children, Child, Expr}
use Rattle.grammar.specs.Reader.{Braces, child_braces, spread_child_braces, value_braces, spread_braces}
use Rattle.tag_tree.specs.PageTag.{page_name, page_attr_name, page_tag, page_attributes, page_attribute, page_children, page_child, page_expr}

-- ---- what was read, as bytes

unfoldable pub tag_code : Name → ℕ
tag_code [] = 0x31
tag_code (p ∷ n) = 0x30

unfoldable pub name_bytes : Name → Bytes
name_bytes [] = []
name_bytes (p ∷ n) = bytes (name_row (page_name (p ∷ n)) end)

unfoldable pub attr_name_bytes : Name → Bytes
attr_name_bytes n = bytes (attr_name_row (page_attr_name n) end)

unfoldable pub attribute_bytes : Attribute → Bytes
attribute_bytes a = bytes (attributes_row (page_attribute a P.no_attributes) end)

unfoldable pub attributes_bytes : Attributes → Bytes
attributes_bytes ps = bytes (attributes_row (page_attributes ps) end)

unfoldable pub child_bytes : Child → Bytes
child_bytes k = bytes (children_row (page_child k P.no_children))

unfoldable pub children_bytes : Children → Bytes
children_bytes ks = bytes (children_row (page_children ks))

unfoldable pub expr_bytes : Expr → Bytes
expr_bytes b = bytes (expr_row (page_expr b) end)

unfoldable pub bytes_of_tag : Tag → Bytes
bytes_of_tag t = bytes (tag_row (page_tag t) end)

-- ---- fields that are open, behind what was written before them

-- a tag, its name and attributes
unfoldable pub begun : Bytes → Name → Attributes → Bytes
begun w n ps = w ++ (head (tag_code n) 0 ++ (name_bytes n ++ attributes_bytes ps))

-- 50 and its name
unfoldable pub attribute_begun : Name → Bytes
attribute_begun a = head 0x50 0 ++ attr_name_bytes a

unfoldable pub braces_code : Braces → ℕ
braces_code (child_braces n ps ks) = 0x52
braces_code (spread_child_braces n ps ks) = 0x61
braces_code (value_braces a n ps) = 0x52
braces_code (spread_braces n ps) = 0x53

-- a fragment has no attributes
unfoldable pub Plain : Name → Attributes → Type 0
Plain [] ps = ps ≡ no_attributes
Plain (p ∷ n) ps = Unit {0}
