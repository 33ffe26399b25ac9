-- What becomes of an attribute in an opening tag, of an attribute as a property of a call, and of a container among children: as the strings
-- and the page walk both have it. Assumes nothing: these are definitions.
use Rattle.std.specs.Prelude.{ℕ, Bool, true, false, ◌||◌, List, [], ◌∷◌, Option, Some, None}
use Rattle.field.specs.Bytes.{Bytes, ascii, pick, same, among}
use Rattle.field.specs.Row.{read}
use Rattle.names.specs.Names.{AttrName, get_attr_name, is_boolean_attr}
use Rattle.page.specs.Number.{render}
use Rattle.page.specs.Page.{Options, Expr, tag_expr}
use Rattle.page.specs.Page as P
use Rattle.page.specs.Tree.{Contained, nothing_contained, contained, contained_in}
use Rattle.spec.specs.Pass.{Mid, none, node, ◌+++◌, Part, chars, gap, pure}
use Rattle.spec.specs.Output.{leaf, string_node, true_node, null_node}
use Rattle.spec.specs.Merge.{Shape, string_shape, number_shape, boolean_shape, null_shape, literal_shape, minus_shape, other_shape}
use Rattle.spec.specs.Attributes.{serialize_attr}
use Rattle.spec.specs.Transform.{expr, shape_of}
use Rattle.decisions.specs.At.{number_text}
use Rattle.decisions.specs.declared.becomes.Text.{Text}
use Rattle.decisions.specs.declared.becomes.Text.TheVariants as T
use Rattle.decisions.specs.declared.becomes.Gap.{Gap}
use Rattle.decisions.specs.declared.becomes.Gap.TheVariants as G
use Rattle.decisions.specs.declared.becomes.InTag.{InTag}
use Rattle.decisions.specs.declared.becomes.InTag.TheVariants as I
use Rattle.decisions.specs.declared.becomes.AsChild.{AsChild}
use Rattle.decisions.specs.declared.becomes.AsChild.TheVariants as C

-- ---- an attribute

-- a field of its own, by the name normalised or as it is written: with true, a string, null, or an expression, which may be a boolean choice's
pub data Dynamic : Type 0 where
  true_of : Bool → Dynamic
  string_of : Bool → Bytes → Dynamic
  null_of : Dynamic
  expr_of : Bool → Contained → Dynamic
  choice_of : Contained → Dynamic

-- in an opening tag: it is ignored, a boolean name alone, a name and that value, or a field of its own
pub data Fate : Type 0 where
  ignored : Fate
  alone : Fate
  written : Bytes → Fate
  dynamic : Dynamic → Fate

-- an expression that is no literal to be written out: a choice for a boolean attribute
unfoldable pub choice_or_attr : Bytes → Expr → Fate
choice_or_attr n e = dynamic (pick (is_boolean_attr n) (choice_of (contained e)) (expr_of true (contained e)))

unfoldable pub shape_in_tag : Bytes → Expr → Shape → Fate
shape_in_tag n e (string_shape b) = written b
shape_in_tag n e (number_shape k) = written (render k)
shape_in_tag n e (boolean_shape b) = pick (is_boolean_attr n) (pick b alone ignored) (dynamic (expr_of true (contained e)))
shape_in_tag n e null_shape = choice_or_attr n e
shape_in_tag n e literal_shape = choice_or_attr n e
shape_in_tag n e (minus_shape k) = written (45 ∷ render k)
shape_in_tag n e other_shape = choice_or_attr n e

-- one that is listed in 03
unfoldable pub listed_in_tag : P.Value → Dynamic
listed_in_tag P.absent = true_of false
listed_in_tag (P.string_value b) = string_of false b
listed_in_tag P.empty_value = null_of
listed_in_tag (P.container_value e) = expr_of false (contained e)
listed_in_tag (P.tag_value t) = expr_of false (contained (tag_expr t))

unfoldable pub plain_in_tag : Bytes → P.Value → Fate
plain_in_tag n P.absent = pick (is_boolean_attr n) alone (dynamic (true_of true))
plain_in_tag n (P.string_value b) = pick (same n (ascii "key") || same n (ascii "ref")) (dynamic (string_of true b)) (written b)
plain_in_tag n P.empty_value = ignored
plain_in_tag n (P.container_value e) = shape_in_tag n e (shape_of e)
plain_in_tag n (P.tag_value t) = ignored

unfoldable pub in_tag : List Bytes → AttrName → P.Value → Fate
in_tag props n v = pick (among (get_attr_name n false) props) (dynamic (listed_in_tag v)) (plain_in_tag (get_attr_name n true) v)

-- in a call: a property, or none
unfoldable pub as_property : Bool → AttrName → P.Value → Option Dynamic
as_property norm n P.absent = Some (true_of norm)
as_property norm n (P.string_value b) = pick (same (get_attr_name n norm) (ascii "key")) None (Some (string_of norm b))
as_property norm n P.empty_value = None
as_property norm n (P.container_value e) = pick (same (get_attr_name n norm) (ascii "key")) None (Some (expr_of norm (contained e)))
as_property norm n (P.tag_value t) = None

-- ---- a container among children: a text that joins what stands around it, or a gap, wrapped with jsxEscape or not

pub data Among : Type 0 where
  joins : Bytes → Among
  leaves : Bool → Among

unfoldable pub shape_as_child : Shape → Among
shape_as_child (string_shape b) = joins b
shape_as_child (number_shape n) = joins (render n)
shape_as_child (boolean_shape b) = joins []
shape_as_child null_shape = leaves false
shape_as_child literal_shape = leaves false
shape_as_child (minus_shape n) = leaves true
shape_as_child other_shape = leaves true

unfoldable pub as_child : Contained → Among
as_child nothing_contained = joins []
as_child (contained e) = shape_as_child (shape_of e)

-- ---- as the code's enums have them

abbrev pub text : Text → Bytes
text (T.String s) = s.now
text (T.Number c) = number_text c.now
text (T.Minus c) = 45 ∷ number_text c.now

abbrev pub gap_case : Gap → Dynamic
gap_case (G.True norm) = true_of norm
gap_case (G.String norm b) = string_of norm b.now
gap_case G.Null = null_of
gap_case (G.Attr norm c) = expr_of norm (contained_in (read c.now))
gap_case (G.Choice c) = choice_of (contained_in (read c.now))

abbrev pub tag_case : InTag → Fate
tag_case I.Nothing = ignored
tag_case I.Name = alone
tag_case (I.Text t) = written (text t)
tag_case (I.Gap g) = dynamic (gap_case g)

abbrev pub property_case : Option Gap → Option Dynamic
property_case None = None
property_case (Some g) = Some (gap_case g)

abbrev pub child_case : AsChild → Among
child_case (C.Text t) = joins (text t)
child_case (C.Gap w) = leaves w

-- the bytes of the expression that is held
abbrev pub held : Gap → Bytes
held (G.True norm) = []
held (G.String norm b) = []
held G.Null = []
held (G.Attr norm c) = c.now
held (G.Choice c) = c.now

abbrev pub tag_held : InTag → Bytes
tag_held I.Nothing = []
tag_held I.Name = []
tag_held (I.Text t) = []
tag_held (I.Gap g) = held g

abbrev pub property_held : Option Gap → Bytes
property_held None = []
property_held (Some g) = held g

-- ---- what stands in a template and in page out

-- what is held, in front of nothing
unfoldable pub contained_mid : Options → Contained → Mid
contained_mid o nothing_contained = none
contained_mid o (contained e) = expr o e none

-- of the field: its tag, which is t but for a choice; what stands before the expression, a string by `turn`; the expression; what stands behind it
abbrev pub gap_tag : ℕ → Dynamic → ℕ
gap_tag t (true_of norm) = t
gap_tag t (string_of norm b) = t
gap_tag t null_of = t
gap_tag t (expr_of norm x) = t
gap_tag t (choice_of x) = 0x93

abbrev pub gap_front : (turn : Bytes → Bytes) → AttrName → Dynamic → Mid
gap_front turn n (true_of norm) = node 0x81 (get_attr_name n norm) none true_node
gap_front turn n (string_of norm b) = node 0x81 (get_attr_name n norm) none (string_node (turn b))
gap_front turn n null_of = node 0x81 (get_attr_name n false) none null_node
gap_front turn n (expr_of norm x) = leaf 0x81 (get_attr_name n norm)
gap_front turn n (choice_of x) = none

abbrev pub gap_expr : Dynamic → Contained
gap_expr (true_of norm) = nothing_contained
gap_expr (string_of norm b) = nothing_contained
gap_expr null_of = nothing_contained
gap_expr (expr_of norm x) = x
gap_expr (choice_of x) = x

abbrev pub gap_behind : AttrName → Dynamic → Mid
gap_behind n (true_of norm) = none
gap_behind n (string_of norm b) = none
gap_behind n null_of = none
gap_behind n (expr_of norm x) = none
gap_behind n (choice_of x) = leaf 0x81 (get_attr_name n true)

unfoldable pub gap_mid : ℕ → (Bytes → Bytes) → Options → AttrName → Dynamic → Mid
gap_mid t turn o n g = node (gap_tag t g) [] (gap_front turn n g +++ (contained_mid o (gap_expr g) +++ gap_behind n g)) none

-- in an opening tag a field 91, or the choice; in a call a 96
abbrev pub tag_parts : Options → AttrName → Fate → List Part
tag_parts o n ignored = []
tag_parts o n alone = chars (32 ∷ get_attr_name n true) ∷ []
tag_parts o n (written b) = chars (serialize_attr (get_attr_name n true) b) ∷ []
tag_parts o n (dynamic g) = chars (32 ∷ []) ∷ gap (pure (gap_mid 0x91 (λ b. b) o n g)) ∷ []

abbrev pub property_mid : (Bytes → Bytes) → Options → AttrName → Option Dynamic → Mid
property_mid turn o n None = none
property_mid turn o n (Some g) = gap_mid 0x96 turn o n g
