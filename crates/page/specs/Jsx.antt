-- The kinds of JSX, after the grammar of its draft specification (facebook.github.io/jsx): a constructor for each alternative of a
-- production, and under which tag and with which body 01 has it. A name's body is held to JSX's productions alone; the bodies of attributes,
-- values and children are the checks of what they hold. No copy of the draft was at hand; it is written from knowledge of it.
-- 01 differs from JSX so: names are of ASCII, without escapes, and of at most 128 bytes; a member has two to eight names, and none with
-- a hyphen; empty braces are taken as an attribute's value; a text may be empty or follow another, and texts and strings hold any UTF-8,
-- as character references are resolved. Assumes nothing: these are definitions.
use Rattle.std.specs.Prelude.{ℕ, ◌≤◌, ◌≡◌, ◌||◌, ◌&&◌, List, [], ◌∷◌, ◌++◌, T, leb, eqb, length}
use Rattle.field.specs.Bytes.{Bytes}
use Rattle.field.specs.Row.{Row, end, field}
use Rattle.page.specs.Check.{check_end, check_text, check_element, check_attribute, check_children, check_expr}
use Rattle.page.specs.Limits.{Deep}
use Rattle.refusal.specs.Refusal.{Verdict, Fine}

-- ---- JSXIdentifier

-- ECMAScript's IdentifierStart and IdentifierPart within ASCII, escapes apart
abbrev pub Letter : ℕ → Type 0
Letter c = T ((leb 65 c && leb c 90) || (leb 97 c && leb c 122) || eqb c 95 || eqb c 36)

abbrev pub Digit : ℕ → Type 0
Digit c = T (leb 48 c && leb c 57)

-- a start; and behind an identifier a start, a digit or a hyphen
pub data JsxIdentifier : Bytes → Type 0 where
  start : (c : ℕ) → Letter c → JsxIdentifier (c ∷ [])
  and_letter : (n : Bytes) (c : ℕ) → JsxIdentifier n → Letter c → JsxIdentifier (n ++ c ∷ [])
  and_digit : (n : Bytes) (c : ℕ) → JsxIdentifier n → Digit c → JsxIdentifier (n ++ c ∷ [])
  and_hyphen : (n : Bytes) → JsxIdentifier n → JsxIdentifier (n ++ 45 ∷ [])

-- ---- JSXNamespacedName and JSXMemberExpression, by their identifiers in order: a page has no `:` and no `.` between them

-- JSXIdentifier : JSXIdentifier
pub data JsxNamespacedName : List Bytes → Type 0 where
  namespaced : (n m : Bytes) → JsxIdentifier n → JsxIdentifier m → JsxNamespacedName (n ∷ m ∷ [])

-- JSXIdentifier . JSXIdentifier; JSXMemberExpression . JSXIdentifier
pub data JsxMemberExpression : List Bytes → Type 0 where
  member : (n m : Bytes) → JsxIdentifier n → JsxIdentifier m → JsxMemberExpression (n ∷ m ∷ [])
  and_member : (ns : List Bytes) (m : Bytes) → JsxMemberExpression ns → JsxIdentifier m → JsxMemberExpression (ns ++ m ∷ [])

-- ---- 01's limits on names

abbrev pub Short : Bytes → Type 0
Short n = length n ≤ 128

unfoldable pub NoHyphen : Bytes → Type 0
NoHyphen [] = Unit {0}
NoHyphen (c ∷ cs) = (c ≡ 45 → ⊥) × NoHyphen cs

unfoldable pub Each : (Bytes → Type 0) → List Bytes → Type 0
Each P [] = Unit {0}
Each P (n ∷ ns) = P n × Each P ns

-- a row of 40s, one for each name, and nothing else
pub data Idents : List Bytes → Row → Type 0 where
  none : Idents [] end
  one_more : (n : Bytes) (ns : List Bytes) (i r : Row) → Idents ns r → Idents (n ∷ ns) (field 0x40 n i r)

-- the 40s of a 41 or 42: not too deep, none too long, and their names as the production wants them
pub record IdentsOf (Production : List Bytes → Type 0) (depth : ℕ) (i : Row) : Type 0 where
  pub names : List Bytes
  pub fields : Idents names i
  pub deep : Deep depth
  pub short : Each Short names
  pub production : Production names

-- ---- the kinds in each place, their tags, and what their bodies are at the depth of these

-- JSXElementName
pub data ElementName : Type 0 where
  identifier : ElementName
  namespaced_name : ElementName
  member_expression : ElementName

unfoldable pub element_name_tag : ElementName → ℕ
element_name_tag identifier = 0x40
element_name_tag namespaced_name = 0x42
element_name_tag member_expression = 0x41

unfoldable pub ElementNameBody : ElementName → ℕ → Bytes → Row → Type 0
ElementNameBody identifier depth f i = JsxIdentifier f × Short f
ElementNameBody namespaced_name depth f i = IdentsOf JsxNamespacedName depth i
ElementNameBody member_expression depth f i = IdentsOf (λ ns. JsxMemberExpression ns × Each NoHyphen ns × (length ns ≤ 8)) depth i

-- JSXAttributeName
pub data AttributeName : Type 0 where
  identifier : AttributeName
  namespaced_name : AttributeName

-- an element may have the same names
unfoldable pub as_element_name : AttributeName → ElementName
as_element_name identifier = identifier
as_element_name namespaced_name = namespaced_name

-- JSXAttributes: JSXAttribute or JSXSpreadAttribute
pub data Attribute : Type 0 where
  attribute : Attribute
  spread_attribute : Attribute

unfoldable pub attribute_tag : Attribute → ℕ
attribute_tag attribute = 0x50
attribute_tag spread_attribute = 0x53

unfoldable pub attribute_body : Attribute → ℕ → Row → Verdict
attribute_body attribute depth i = check_attribute depth i
attribute_body spread_attribute depth i = check_expr depth i

-- JSXAttributeValue; that there may be none is JSXAttribute's to say
pub data AttributeValue : Type 0 where
  string : AttributeValue
  expression : AttributeValue
  element : AttributeValue
  fragment : AttributeValue

-- and what 01 takes besides
pub data ValueTaken : Type 0 where
  of_jsx : AttributeValue → ValueTaken
  empty_braces : ValueTaken

unfoldable pub value_tag : ValueTaken → ℕ
value_tag (of_jsx string) = 0x51
value_tag (of_jsx expression) = 0x52
value_tag (of_jsx element) = 0x30
value_tag (of_jsx fragment) = 0x31
value_tag empty_braces = 0x52

unfoldable pub value_body : ValueTaken → ℕ → Bytes → Row → Verdict
value_body (of_jsx string) depth f i = check_text f
value_body (of_jsx expression) depth f i = check_expr depth i
value_body (of_jsx element) depth f i = check_element depth i
value_body (of_jsx fragment) depth f i = check_children depth i
value_body empty_braces depth f i = check_end i

-- JSXChild, and JSXChildExpression within its braces
pub data Child : Type 0 where
  text : Child
  element : Child
  fragment : Child
  empty_braces : Child
  expression : Child
  spread : Child

unfoldable pub child_tag : Child → ℕ
child_tag text = 0x60
child_tag element = 0x30
child_tag fragment = 0x31
child_tag empty_braces = 0x52
child_tag expression = 0x52
child_tag spread = 0x61

unfoldable pub child_body : Child → ℕ → Bytes → Row → Verdict
child_body text depth f i = check_text f
child_body element depth f i = check_element depth i
child_body fragment depth f i = check_children depth i
child_body empty_braces depth f i = check_end i
child_body expression depth f i = check_expr depth i
child_body spread depth f i = check_expr depth i

-- ---- a field of one of the kinds

-- its tag is the kind's, it is not too deep, its body is as the kind wants it, and what follows it is taken
pub record OneOf (K : Type 0) (tag : K → ℕ) (Body : K → Type 0) (t depth : ℕ) (rest : Verdict) : Type 0 where
  pub kind : K
  pub tag_is : tag kind ≡ t
  pub deep : Deep depth
  pub body : Body kind
  pub rest_fine : rest ≡ Fine
