-- Attributes: in a template's opening tag, as properties of a jsx call, and the key. Assumes nothing: these are definitions.
use Rattle.std.specs.Prelude.{Bool, true, false, ◌&&◌, ◌||◌, not, List, [], ◌∷◌, ◌++◌, leb}
use Rattle.field.specs.Bytes.{Bytes, ascii, pick, same, among}
use Rattle.text.specs.Escape.{escape_html}
use Rattle.text.specs.Text.{normalize_lit_str}
use Rattle.names.specs.Names.{AttrName, get_attr_name, is_boolean_attr, is_void_element, small_letters}
use Rattle.page.specs.Number.{render}
use Rattle.page.specs.Page.{Name, identifier, member, namespaced, Options}
use Rattle.spec.specs.declared.Flags.{Flags}
use Rattle.spec.specs.Pass.{pure, Raw, Mid, none, node, raw, ◌+++◌, Part, chars, gap}
use Rattle.spec.specs.Output.{string_node, true_node, null_node, attr_node, choice_node, prop_node}
use Rattle.spec.specs.Merge.{Shape, string_shape, number_shape, boolean_shape, null_shape, literal_shape, minus_shape, other_shape}

-- an attribute's value
pub data Value : Type 0 where
  absent : Value
  string : Bytes → Value
  empty : Value
  container : Shape → Mid → Value
  tag : Raw → Value

pub data Attribute : Type 0 where
  attribute : AttrName → Value → Attribute
  spread : Mid → Attribute

-- ---- is_serializable

abbrev pub first_upper : Bytes → Bool
first_upper [] = false
first_upper (c ∷ cs) = leb 65 c && leb c 90

-- a spread, or dangerouslySetInnerHTML
unfoldable pub keeps_from_serializing : List Attribute → Bool
keeps_from_serializing [] = false
keeps_from_serializing (attribute n v ∷ as') = same (get_attr_name n false) (ascii "dangerouslySetInnerHTML") || keeps_from_serializing as'
keeps_from_serializing (spread m ∷ as') = true

unfoldable pub is_serializable : Options → Name → List Attribute → Bool
is_serializable o (identifier n) as' = not (first_upper n) && not (among n o.skip_serialize) && not (keeps_from_serializing as')
is_serializable o (member ns) as' = false
is_serializable o (namespaced n m) as' = false

-- ---- in the opening tag: serialize_jsx_element_to_string_vec, its loop over the attributes

-- serialize_attr
unfoldable pub serialize_attr : Bytes → Bytes → Bytes
serialize_attr n v = 32 ∷ (escape_html n ++ (61 ∷ 34 ∷ (escape_html v ++ (34 ∷ []))))

-- convert_to_jsx_attr_call
abbrev pub attr_gap : Bytes → Mid → List Part
attr_gap n e = chars (32 ∷ []) ∷ gap (pure (attr_node n e)) ∷ []

-- an attribute that is listed in 03. 02, A1: where 000 stops at a container (`todo!`) its expression is passed, and null for an empty one
unfoldable pub listed_attr : Bytes → Value → List Part
listed_attr n absent = attr_gap n true_node
listed_attr n (string b) = attr_gap n (string_node b)
listed_attr n empty = attr_gap n null_node
listed_attr n (container s m) = attr_gap n m
listed_attr n (tag r) = attr_gap n (raw r none)

-- an expression that is no literal to be written out: a choice for a boolean attribute
unfoldable pub dynamic_attr : Bytes → Mid → List Part
dynamic_attr n e = pick (is_boolean_attr n) (chars (32 ∷ []) ∷ gap (pure (choice_node e n)) ∷ []) (attr_gap n e)

unfoldable pub container_attr : Bytes → Shape → Mid → List Part
container_attr n (string_shape b) m = chars (serialize_attr n b) ∷ []
container_attr n (number_shape k) m = chars (serialize_attr n (render k)) ∷ []
container_attr n (boolean_shape b) m = pick (is_boolean_attr n) (pick b (chars (32 ∷ n) ∷ []) []) (dynamic_attr n m)
container_attr n null_shape m = dynamic_attr n m
container_attr n literal_shape m = dynamic_attr n m
container_attr n (minus_shape k) m = chars (serialize_attr n (45 ∷ render k)) ∷ []
container_attr n other_shape m = dynamic_attr n m

-- `key` and `ref` as strings go through jsxAttr; an element or a fragment as a value is ignored
unfoldable pub plain_attr : Bytes → Value → List Part
plain_attr n absent = pick (is_boolean_attr n) (chars (32 ∷ escape_html n) ∷ []) (attr_gap n true_node)
plain_attr n (string b) = pick (same n (ascii "key") || same n (ascii "ref")) (attr_gap n (string_node b)) (chars (serialize_attr n b) ∷ [])
plain_attr n empty = []
plain_attr n (container s m) = container_attr n s m
plain_attr n (tag r) = []

unfoldable pub attr_parts : Options → Attribute → List Part
attr_parts o (attribute n v) = pick (among (get_attr_name n false) o.skip_prop_serialize) (listed_attr (get_attr_name n false) v) (plain_attr (get_attr_name n true) v)
attr_parts o (spread m) = []

unfoldable pub attrs_parts : Options → List Attribute → List Part
attrs_parts o [] = []
attrs_parts o (a ∷ as') = attr_parts o a ++ attrs_parts o as'

-- ---- 02, A4 and A10: what is found of an element that is serialized

-- the names that its attributes have in HTML, in small letters, whatever their values and whether they are listed
unfoldable pub html_names : List Attribute → List Bytes
html_names [] = []
html_names (attribute n v ∷ as') = small_letters (get_attr_name n true) ∷ html_names as'
html_names (spread m ∷ as') = html_names as'

-- one of them twice
unfoldable pub repeats : List Bytes → Bool
repeats [] = false
repeats (n ∷ ns) = among n ns || repeats ns

-- one of the 14 only after going to small letters
unfoldable pub void_when_lowered : Bytes → Bool
void_when_lowered n = is_void_element (small_letters n) && not (is_void_element n)

unfoldable pub tag_flags : Bytes → List Attribute → Flags
tag_flags n as' = record { left = false; long = false; repeated = repeats (html_names as'); mixed = void_when_lowered n }

-- ---- in a jsx call: serialize_jsx_to_call_expr, its loop over the attributes

unfoldable pub is_component : Name → Bool
is_component (identifier n) = first_upper n
is_component (member ns) = true
is_component (namespaced n m) = false

unfoldable pub prop_of : Bytes → Value → Mid
prop_of n absent = prop_node n true_node
prop_of n (string b) = pick (same n (ascii "key")) none (prop_node n (string_node (normalize_lit_str b)))
prop_of n empty = none
prop_of n (container s m) = pick (same n (ascii "key")) none (prop_node n m)
prop_of n (tag r) = none

-- names are normalised off components
unfoldable pub props_of : Bool → List Attribute → Mid
props_of norm [] = none
props_of norm (attribute n v ∷ as') = prop_of (get_attr_name n norm) v +++ props_of norm as'
props_of norm (spread m ∷ as') = node 0x53 [] m (props_of norm as')

-- the key that one attribute leaves: a valueless one leaves what was there
unfoldable pub key_from : Value → Mid → Mid
key_from absent k = k
key_from (string b) k = string_node (normalize_lit_str b)
key_from empty k = none
key_from (container s m) k = m
key_from (tag r) k = none

-- the last attribute that reads `key` and has a value decides
unfoldable pub key_of : Bool → List Attribute → Mid → Mid
key_of norm [] k = k
key_of norm (attribute n v ∷ as') k = key_of norm as' (pick (same (get_attr_name n norm) (ascii "key")) (key_from v k) k)
key_of norm (spread m ∷ as') k = key_of norm as' k
