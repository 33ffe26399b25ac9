-- What tag text reads as: JSX's elements and fragments, with the closing names as they stand, and under which tag of 01 each has its field.
-- Main definitions: `Tag`, and `matched`, which compares closing names. Assumes nothing: these are definitions.
use Rattle.std.specs.Prelude.{ℕ, Bool, true, false, ◌&&◌, ◌||◌, not, List, [], ◌∷◌, leb, eqb, length}
use Rattle.field.specs.Bytes.{Bytes, same}
use Rattle.grammar.specs.Signs.{some_byte}
use Rattle.grammar.specs.Known.{Known}

-- one of a name's identifiers, behind the sign that parts it from the one before: `.`, `:`, or 0 at the first
pub data Part : Type 0 where
  part : ℕ → Bytes → Part

abbrev pub Name : Type 0
Name = List Part

-- ---- 01, Name

-- 1 to 128 bytes
unfoldable pub short : Bytes → Bool
short w = leb (length w) 128

unfoldable pub no_hyphen : Bytes → Bool
no_hyphen w = not (some_byte (λ c. eqb c 45) w)

unfoldable pub member_parts : Name → Bool
member_parts [] = true
member_parts (part d w ∷ ps) = eqb d 46 && short w && no_hyphen w && member_parts ps

-- JSXAttributeName: 40, or 42 with a colon
unfoldable pub attribute_name_fits : Name → Bool
attribute_name_fits [] = false
attribute_name_fits (part d w ∷ []) = short w
attribute_name_fits (part d w ∷ part e v ∷ []) = eqb e 58 && short w && short v
attribute_name_fits (part d w ∷ part e v ∷ p ∷ ps) = false

-- 41: two to eight with points, none with a hyphen
unfoldable pub member_fits : Name → Bool
member_fits [] = false
member_fits (part d w ∷ []) = false
member_fits (part d w ∷ p ∷ ps) = short w && no_hyphen w && leb (length ps) 6 && member_parts (p ∷ ps)

-- JSXElementName: 40, 41 or 42
unfoldable pub tag_name_fits : Name → Bool
tag_name_fits n = attribute_name_fits n || member_fits n

-- by kind and parts: the signs and the identifiers, white space between them apart
unfoldable pub same_name : Name → Name → Bool
same_name [] [] = true
same_name [] (p ∷ ps) = false
same_name (p ∷ ps) [] = false
same_name (part d w ∷ ps) (part e v ∷ qs) = eqb d e && same w v && same_name ps qs

mutual
  -- 30; 31, a fragment, where the name is empty
  pub data Tag : Type 0 where
    tag : (name : Name) (attributes : Attributes) (children : Children) (closing : Name) → Tag

  pub data Attributes : Type 0 where
    no_attributes : Attributes
    attribute : Attribute → Attributes → Attributes

  pub data Attribute : Type 0 where
    no_value : Name → Attribute  -- 50
    string_value : Name → Bytes → Attribute  -- 50 with 51
    container_value : Name → Expr → Attribute  -- 50 with 52
    tag_value : Name → Tag → Attribute  -- 50 with 30 or 31
    spread_attribute : Expr → Attribute  -- 53

  pub data Children : Type 0 where
    no_children : Children
    child : Child → Children → Children

  pub data Child : Type 0 where
    text_child : Bytes → Child  -- 60
    tag_child : Tag → Child  -- 30 or 31
    empty_child : Child  -- 52, empty
    container_child : Expr → Child  -- 52
    spread_child : Expr → Child  -- 61

  -- an expression
  pub data Expr : Type 0 where
    tag_expr : Tag → Expr
    known_expr : Known → Expr

-- every name with its closing one, and all that stands in braces and is no tag, pass the tests
unfoldable mutual
  pub every_tag : Tag → (Name → Name → Bool) → (Known → Bool) → Bool
  every_tag (tag n ps ks m) f g = f n m && (every_attributes ps f g && every_children ks f g)

  pub every_attributes : Attributes → (Name → Name → Bool) → (Known → Bool) → Bool
  every_attributes no_attributes f g = true
  every_attributes (attribute a ps) f g = every_attribute a f g && every_attributes ps f g

  pub every_attribute : Attribute → (Name → Name → Bool) → (Known → Bool) → Bool
  every_attribute (no_value n) f g = true
  every_attribute (string_value n w) f g = true
  every_attribute (container_value n b) f g = every_expr b f g
  every_attribute (tag_value n t) f g = every_tag t f g
  every_attribute (spread_attribute b) f g = every_expr b f g

  pub every_children : Children → (Name → Name → Bool) → (Known → Bool) → Bool
  every_children no_children f g = true
  every_children (child k ks) f g = every_child k f g && every_children ks f g

  pub every_child : Child → (Name → Name → Bool) → (Known → Bool) → Bool
  every_child (text_child w) f g = true
  every_child (tag_child t) f g = every_tag t f g
  every_child empty_child f g = true
  every_child (container_child b) f g = every_expr b f g
  every_child (spread_child b) f g = every_expr b f g

  pub every_expr : Expr → (Name → Name → Bool) → (Known → Bool) → Bool
  every_expr (tag_expr t) f g = every_tag t f g
  every_expr (known_expr k) f g = g k

-- 02, A3: 15 compares closing names (a fragment's is empty). Each is the opening one
unfoldable pub matched : Tag → Bool
matched t = every_tag t same_name (λ k. true)

unfoldable pub join_attributes : Attributes → Attributes → Attributes
join_attributes no_attributes bs = bs
join_attributes (attribute a ps) bs = attribute a (join_attributes ps bs)

unfoldable pub join_children : Children → Children → Children
join_children no_children bs = bs
join_children (child k ks) bs = child k (join_children ks bs)

-- one more at the end
abbrev pub add_attribute : Attributes → Attribute → Attributes
add_attribute ps a = join_attributes ps (attribute a no_attributes)

abbrev pub add_child : Children → Child → Children
add_child ks k = join_children ks (child k no_children)
