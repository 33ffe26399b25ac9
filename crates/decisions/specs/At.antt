-- Elements, attributes, expressions and children as they stand in bytes. Assumes nothing: these are definitions.
use Rattle.std.specs.Prelude.{ℕ, Bool, true, false, ◌&&◌, ◌||◌, not, ◌≡◌, ◌+◌, ◌≤◌, List, [], T, length, Option, Some, None}
use denote.Ref.{Bor}
use Rattle.field.specs.Bytes.{Bytes, ascii, same, among, pick, null?}
use Rattle.field.specs.Row.{Row, end, loose, field, read}
use Rattle.field.specs.Front.{tag_of_front, body_of, behind_of}
use Rattle.field.specs.Fields.{IsFront}
use Rattle.field.specs.declared.reader.Field.{Field}
use Rattle.text.specs.Text.{jsx_text_to_str}
use Rattle.names.specs.Names as N
use Rattle.names.specs.Names.{get_attr_name}
use Rattle.page.specs.Number.{Number, render, number_in}
use Rattle.page.specs.Check.{is_child}
use Rattle.page.specs.Page as P
use Rattle.page.specs.Page.{Options, Name, identifier, member, namespaced}
use Rattle.page.specs.Tree.{texts_in, name_by, attributes_in, attr_name_in, value_in, children_in, Contained, nothing_contained, contained, contained_in, contained_value}
use Rattle.spec.specs.Attributes as A
use Rattle.spec.specs.Attributes.{first_upper}
use Rattle.spec.specs.Merge as M
use Rattle.spec.specs.Merge.{becomes_template}
use Rattle.spec.specs.Transform.{element_of, attributes, children}
use Rattle.decisions.specs.Index.{names_of}
use Rattle.decisions.specs.declared.attribute.Attributes.{Attributes}
use Rattle.decisions.specs.declared.attribute.AttrName.{AttrName}
use Rattle.decisions.specs.declared.attribute.AttrName.TheVariants as AttrNamed
use Rattle.decisions.specs.declared.attribute.Value.{Value}
use Rattle.decisions.specs.declared.attribute.Value.TheVariants as Held
use Rattle.decisions.specs.declared.children.Count.{Count}
use Rattle.decisions.specs.declared.children.Count.TheVariants.{Zero, One, More}
use Rattle.decisions.specs.declared.children.Children.{Children}
use Rattle.decisions.specs.declared.children.Children.TheVariants as Counted
use Rattle.decisions.specs.declared.element.ElementName.{ElementName}
use Rattle.decisions.specs.declared.element.ElementName.TheVariants as Named
use Rattle.decisions.specs.declared.options.Options as Lent
use Rattle.decisions.specs.declared.expr.Shape.{Shape}
use Rattle.decisions.specs.declared.expr.Shape.TheVariants as Form

-- the options as the walks hold them: the names of 02 and those of 03
abbrev pub opts : Bytes → Bytes → Options
opts skip props = record { skip_serialize = names_of skip; skip_prop_serialize = names_of props; import_source = [] }

-- ---- an element, by the fields of its 30

unfoldable pub element_name : Row → Name
element_name end = identifier []
element_name (loose b) = identifier []
element_name (field t f i r) = name_by t f i

-- what lies behind the name: attributes and children
unfoldable pub behind_name : Row → Row
behind_name end = end
behind_name (loose b) = end
behind_name (field t f i r) = r

abbrev pub identifier_bytes : Name → Bytes
identifier_bytes (identifier n) = n
identifier_bytes (member ns) = []
identifier_bytes (namespaced n m) = []

abbrev pub attributes_at : Bytes → Bytes → Row → List A.Attribute
attributes_at skip props r = attributes (opts skip props) (attributes_in r)

abbrev pub children_at : Bytes → Bytes → Row → List M.Child
children_at skip props r = children (opts skip props) (children_in r)

-- the element that 000 sees
unfoldable pub element_at : Bytes → Bytes → Bytes → M.Element
element_at skip props b = element_of (opts skip props) (element_name (read b)) (attributes_at skip props (behind_name (read b))) (children_at skip props (behind_name (read b)))

-- what is defined over the two lists of names, of the options as they are lent to the walks
abbrev pub under : {A : Type 0} → Lent.Options → (Bytes → Bytes → A) → A
under o f = f o.skip.now o.props.now

-- a spread, or dangerouslySetInnerHTML
unfoldable pub forbids : P.Attributes → Bool
forbids P.no_attributes = false
forbids (P.attribute n v as') = same (get_attr_name n false) (ascii "dangerouslySetInnerHTML") || forbids as'
forbids (P.spread_attribute e as') = true

-- is_serializable, by what it looks at
unfoldable pub serializable_by : List Bytes → Name → Bool → Bool
serializable_by skip (identifier n) f = not (first_upper n) && (not (among n skip) && not f)
serializable_by skip (member ns) f = false
serializable_by skip (namespaced n m) f = false

unfoldable pub serializable : Bytes → Bytes → Bool
serializable skip b = serializable_by (names_of skip) (element_name (read b)) (forbids (attributes_in (behind_name (read b))))

-- ---- names, values and expressions as the code's enums have them

abbrev pub element_named : ElementName → Name
element_named (Named.Identifier n) = identifier n.now
element_named (Named.Member ns) = member (texts_in 0x40 (read ns.now))
element_named (Named.Namespaced ns n) = namespaced ns.now n.now

abbrev pub attr_name : AttrName → N.AttrName
attr_name (AttrNamed.Ident n) = N.ident n.now
attr_name (AttrNamed.Namespaced ns n) = N.namespaced ns.now n.now

-- the identifier that a name is; a missing name, which is one of no bytes, counts as none
abbrev pub IdentAt : N.AttrName → Option (Bor Bytes) → Type 0
IdentAt n None = (b : Bytes) → n ≡ N.ident b → b ≡ []
IdentAt n (Some b) = n ≡ N.ident b.now

-- a tag as a value, which is an expression too
pub record TagHeld (v : P.Value) (t : Bytes) : Type 0 where
  pub tag : P.Tag
  pub value_is : v ≡ P.tag_value tag
  pub expression_is : contained_in (read t) ≡ contained (P.tag_expr tag)

-- the value of the attribute with the fields a and its bytes, which lie in them
abbrev pub Holds : Bytes → Option Value → Type 0
Holds a None = value_in (read a) ≡ P.absent
Holds a (Some (Held.String b)) = value_in (read a) ≡ P.string_value b.now
Holds a (Some (Held.Container c)) = (value_in (read a) ≡ contained_value (contained_in (read c.now))) × (length c.now ≤ length a)
Holds a (Some (Held.Tag t)) = TagHeld (value_in (read a)) t.now × (length t.now ≤ length a)

-- a value's kind, which is the tag of the field behind the name: none, or a string's, a container's, an element's or a fragment's
unfoldable pub value_of : P.Value → Option ℕ
value_of P.absent = None
value_of (P.string_value b) = Some 0x51
value_of P.empty_value = Some 0x52
value_of (P.container_value e) = Some 0x52
value_of (P.tag_value (P.element n as' cs)) = Some 0x30
value_of (P.tag_value (P.fragment cs)) = Some 0x31

-- the kind that the code's value tells: a tag's by the field in front
abbrev pub value_kind : Option Value → Option ℕ
value_kind None = None
value_kind (Some (Held.String b)) = Some 0x51
value_kind (Some (Held.Container c)) = Some 0x52
value_kind (Some (Held.Tag t)) = Some (tag_of_front t.now)

-- the attributes that are written, not spread
unfoldable pub written : P.Attributes → P.Attributes
written P.no_attributes = P.no_attributes
written (P.attribute n v as') = P.attribute n v (written as')
written (P.spread_attribute e as') = written as'

-- the first of them in front of s has the fields a, and r lies behind it
pub record IsAttribute (s a r : Bytes) : Type 0 where
  pub written_is : written (attributes_in (read s)) ≡ P.attribute (attr_name_in (read a)) (value_in (read a)) (written (attributes_in (read r)))
  pub sizes : 3 + length a + length r ≤ length s

-- none is in front of s, and all of it stays
pub record NoAttribute (s r : Bytes) : Type 0 where
  pub none_written : written (attributes_in (read s)) ≡ P.no_attributes
  pub stays : r ≡ s

abbrev pub GivesAttribute : Attributes → Option (Bor Bytes) → Attributes → Type 0
GivesAttribute x None y = NoAttribute x.0.now y.0.now
GivesAttribute x (Some a) y = IsAttribute x.0.now a.now y.0.now

unfoldable pub shape_by : P.Expr → Shape
shape_by (P.string_literal b) = Form.String
shape_by (P.number_literal n) = Form.Number
shape_by (P.boolean_literal b) = Form.Boolean b
shape_by P.null_literal = Form.Null
shape_by (P.other_literal b) = Form.Literal
shape_by (P.minus_literal n) = Form.Minus
shape_by (P.array_literal is) = Form.Other
shape_by (P.other_expr ps) = Form.Other
shape_by (P.tag_expr t) = Form.Other

unfoldable pub shape_of_contained : Contained → Shape
shape_of_contained nothing_contained = Form.Empty
shape_of_contained (contained e) = shape_by e

-- ---- numbers

-- the number in front of a series, where one stands, and its text
abbrev pub number_at : Bytes → Number
number_at s = number_in (tag_of_front s) (body_of s)

abbrev pub number_text : Bytes → Bytes
number_text s = render (number_at s)

-- ---- children

unfoldable pub is_none : P.Children → Bool
is_none P.no_children = true
is_none (P.text_child b cs) = false
is_none (P.empty_child cs) = false
is_none (P.container_child e cs) = false
is_none (P.tag_child t cs) = false
is_none (P.spread_child e cs) = false

-- none, one, or more
unfoldable pub few : P.Children → Count
few P.no_children = Zero
few (P.text_child b cs) = pick (is_none cs) One More
few (P.empty_child cs) = pick (is_none cs) One More
few (P.container_child e cs) = pick (is_none cs) One More
few (P.tag_child t cs) = pick (is_none cs) One More
few (P.spread_child e cs) = pick (is_none cs) One More

-- a text of which the text rule leaves something
unfoldable pub some_text : P.Children → Bool
some_text P.no_children = false
some_text (P.text_child b cs) = not (null? (jsx_text_to_str b false false)) || some_text cs
some_text (P.empty_child cs) = some_text cs
some_text (P.container_child e cs) = some_text cs
some_text (P.tag_child t cs) = some_text cs
some_text (P.spread_child e cs) = some_text cs

-- whether several children of a call become one template
unfoldable pub becomes : Bytes → P.Children → Bool
becomes skip cs = becomes_template (children (opts skip []) cs)

-- a part of a series from its first child on
pub record FirstChild (s r : Bytes) : Type 0 where
  pub same_children : children_in (read r) ≡ children_in (read s)
  pub none_left : length r ≡ 0 → children_in (read s) ≡ P.no_children
  pub child_first : (length r ≡ 0 → ⊥) → T (is_child (tag_of_front r))

-- the count that the code's enum says, and the only child, which stands in front of what is left from the first child on
abbrev pub count_of : Children → Count
count_of Counted.Zero = Zero
count_of (Counted.One f) = One
count_of Counted.More = More

pub record OnlyChild (s : Bytes) (f : Field) : Type 0 where
  pub from : Bytes
  pub first : FirstChild s from
  pub within : length from ≤ length s
  pub front : IsFront from f.tag f.body.now (behind_of from)

abbrev pub OnlyIn : Bytes → Children → Type 0
OnlyIn s Counted.Zero = Unit {0}
OnlyIn s (Counted.One f) = OnlyChild s f
OnlyIn s Counted.More = Unit {0}
