-- Each of 000's functions keeps the grammar of a page out, over children and attributes that keep it. Main statements: `element_formed`,
-- `fragment_formed`, `element_raw_formed`, `fragment_raw_formed`. Assumes nothing.
use Prim.Native.Nat.{ℕ, zero, suc, ◌+◌, ◌≤◌}
use native.Mathlib.Omega.{arith}
use mathlib.Core.Path.{◌≡◌, refl, sym, ap, ◌∙◌, subst}
use mathlib.Core.Bool.{Bool, true, false, ◌&&◌, ◌||◌, not}
use mathlib.Core.List.{List, [], ◌∷◌, ◌++◌}
use lib.Dec.{T, eqb, leb, ltb, leb→le}
use lib.ListN.{length, length-append}
use borrow.Author.Tests.{eqb-true, le-ltb}
use Rattle.field.specs.Bytes.{Bytes, ascii, pick, same, among}
use Rattle.field.specs.Row.{Row, end, field, bytes, long_body, inside, read}
use Rattle.field.proofs.RowLaws.{FrontFits, Shaped, read_back}
use Rattle.text.specs.Escape.{escape_html}
use Rattle.text.specs.Text.{normalize_lit_str}
use Rattle.names.specs.Names.{get_attr_name, is_boolean_attr, is_void_element}
use Rattle.utf8.specs.Utf8 as U
use Rattle.utf8.proofs.Laws.{ascii_utf8}
use Rattle.page.specs.Number.{render}
use Rattle.page.specs.Check.{check_text, check_empty, check_boolean, name_start, name_parts, no_hyphen, is_name, check_name, check_members, at_least, check_name_by}
use Rattle.page.specs.Encode.{texts_row}
use Rattle.page.specs.Limits.{MembersOk, ElementNameOk}
use Rattle.refusal.proofs.Verdicts.{fine_unless, refused}
use Rattle.page.proofs.Bodies.{members_at, members_read, member_fine}
use Rattle.refusal.specs.Refusal.{Fine, after, unless}
use Rattle.refusal.specs.declared.Refusal.TheVariants as R
use Rattle.page.specs.Tree.{choose}
use Rattle.page.specs.Page.{Name, identifier, member, namespaced, Options}
use Rattle.outs.specs.Held.{nests}
use Rattle.outs.specs.PageOut.{expression, allowed, left, within, check_leaf}
use Rattle.outs.specs.declared.Expect.{Expect}
use Rattle.outs.specs.declared.Expect.TheVariants as E
use Rattle.spec.specs.Pass.{no_flags, Pass, pure, both, map, raise, long_if, Raw, Mid, none, node, raw, ◌+++◌, chars, gap, over}
use Rattle.spec.specs.Output.{leaf, attr_node, choice_node, prop_node, escape_node, array_node, gen_template}
use Rattle.spec.specs.Merge.{Shape, string_shape, number_shape, boolean_shape, null_shape, literal_shape, minus_shape, other_shape, Entry, still, passed, Found, nothing_found, one_found, array_found, Element, Fragment, Child, text, empty, container, element, fragment, spread, is_last, flush, joined_text, merge, long_run, short_runs, becomes_template}
use Rattle.spec.specs.Attributes as A
use Rattle.spec.specs.Attributes.{Value, Attribute, first_upper, is_serializable, serialize_attr, attr_gap, listed_attr, dynamic_attr, container_attr, plain_attr, attr_parts, attrs_parts, is_component, prop_of, props_of, key_from, key_of, tag_flags}
use Rattle.spec.specs.Children.{maybe_wrap, merged_parts, children_to_string, serialize_jsx, stills, found_of, sole_mid, sole, flattened, spliced, entries, one_child, many_children, children_to_expr, entry_pass, entries_pass, found_pass, children_prop, props_node, members_row, name_expr, call_node, to_call_expr, open_close, element_to_string_vec}
use Rattle.spec.specs.Visit.{visit_exprs, visit_after, visit_found, visit_only_child, visit_fragment}
use Rattle.spec.specs.Transform.{element_of, fragment_of, element_raw}
use Rattle.spec.proofs.Characters.{Text, escape_text}
use Rattle.spec.proofs.Texts.{name_text, two_names_text, text_append, text_cons, text_nil, jsx_text_stays, normalize_stays, render_text, serialized_text}
use Rattle.convert.proofs.Formed.{true_never, false_never, FormedRaw, Leaf, Formed, Stands, formed_none, formed_leaf, formed_nest, one_then, one_alone, takes_elements, takes_one, takes_first, takes_key, formed_append, FormedPass, pass_pure, pass_map, pass_raise, pass_both, raw_leave, raw_null, visit_formed, FormedParts, parts_append, template_formed}

-- ---- leaves

pub text_fine : (b : Bytes) → Text b → check_text b ≡ Fine
unfolding check_text
text_fine b h = ap (λ (x : Bool). unless x R.NotUtf8) h

pub string_leaf : {c : Expect} {r : Mid} (b : Bytes) → allowed c 0x70 ≡ true → Text b → Stands (left c 0x70) r → Stands c (node 0x70 b none r)
unfolding check_leaf choose
string_leaf b a h x = formed_leaf 0x70 b a refl (text_fine b h) x

pub name_leaf : {c : Expect} {r : Mid} (b : Bytes) → allowed c 0x81 ≡ true → Text b → Stands (left c 0x81) r → Stands c (node 0x81 b none r)
unfolding check_leaf choose
name_leaf b a h x = formed_leaf 0x81 b a refl (text_fine b h) x

string_alone : (b : Bytes) → Text b → Stands E.One (leaf 0x70 b)
string_alone b h = string_leaf b refl h (formed_none refl)

null_alone : Stands E.One (leaf 0x73 [])
unfolding check_leaf choose check_empty
null_alone = formed_leaf 0x73 [] refl refl refl (formed_none refl)

true_alone : Stands E.One (leaf 0x72 (1 ∷ []))
unfolding check_leaf choose check_boolean
true_alone = formed_leaf 0x72 (1 ∷ []) refl refl refl (formed_none refl)

-- ---- calls with a name and an expression

attr_stands : (n : Bytes) {m : Mid} → Text n → Stands E.One m → Stands E.One (attr_node n m)
unfolding within
attr_stands n h x = formed_nest 0x91 refl refl refl (name_leaf n refl h x) (formed_none refl)

choice_stands : (n : Bytes) {m : Mid} → Text n → Stands E.One m → Stands E.One (choice_node m n)
unfolding within
choice_stands n h x = formed_nest 0x93 refl refl refl (one_then takes_first x (name_leaf n refl h (formed_none refl))) (formed_none refl)

escape_stands : {m : Mid} → Stands E.One m → Stands E.One (escape_node m)
unfolding within
escape_stands x = formed_nest 0x92 refl refl refl x (formed_none refl)

prop_stands : (n : Bytes) {m : Mid} → Text n → Stands E.One m → Stands E.Properties (prop_node n m)
unfolding within
prop_stands n h x = formed_nest 0x96 refl refl refl (name_leaf n refl h x) (formed_none refl)

array_stands : {m : Mid} → Stands E.Elements m → Stands E.One (array_node m)
unfolding within
array_stands x = formed_nest 0x76 refl refl refl x (formed_none refl)

-- ---- what holds of children and attributes

unfoldable pub ShapeText : Shape → Type 0
ShapeText (string_shape b) = Text b
ShapeText (number_shape n) = Unit {0}
ShapeText (boolean_shape b) = Unit {0}
ShapeText null_shape = Unit {0}
ShapeText literal_shape = Unit {0}
ShapeText (minus_shape n) = Unit {0}
ShapeText other_shape = Unit {0}

pub record Contained (s : Shape) (m : Mid) : Type 0 where
  pub stands : Stands E.One m
  pub text_is : ShapeText s

-- one element of an array
unfoldable pub Single : Mid → Type 0
Single none = ⊥
Single (node t f i none) = Unit {0}
Single (node t f i (node u g j r)) = ⊥
Single (node t f i (raw q r)) = ⊥
Single (raw q none) = Unit {0}
Single (raw q (node t f i r)) = ⊥
Single (raw q (raw s r)) = ⊥

unfoldable pub ItemOk : Entry → Type 0
ItemOk (still m) = Stands E.Elements m × Single m
ItemOk (passed p) = FormedPass E.One p

unfoldable pub ItemsOk : List Entry → Type 0
ItemsOk [] = Unit {0}
ItemsOk (e ∷ es) = ItemOk e × ItemsOk es

unfoldable pub ExprOk : Entry → Type 0
ExprOk (still m) = Stands E.One m
ExprOk (passed p) = FormedPass E.One p

unfoldable pub FoundOk : Found → Type 0
FoundOk nothing_found = Unit {0}
FoundOk (one_found e) = ExprOk e
FoundOk (array_found es) = ItemsOk es

pub record ElementOk (e : Element) : Type 0 where
  pub parts : FormedParts e.to_string_vec
  pub serialized : FormedPass E.One (serialize_jsx e)

pub record FragmentOk (f : Fragment) : Type 0 where
  pub parts : FormedParts f.to_string
  pub found : FoundOk f.to_expr

unfoldable pub ChildOk : Child → Type 0
ChildOk (text t) = Text t
ChildOk empty = Unit {0}
ChildOk (container s m) = Contained s m
ChildOk (element e) = ElementOk e
ChildOk (fragment f) = FragmentOk f
ChildOk (spread m) = Unit {0}

unfoldable pub ChildrenOk : List Child → Type 0
ChildrenOk [] = Unit {0}
ChildrenOk (c ∷ cs) = ChildOk c × ChildrenOk cs

unfoldable pub ValueOk : Value → Type 0
ValueOk A.absent = Unit {0}
ValueOk (A.string b) = Text b
ValueOk A.empty = Unit {0}
ValueOk (A.container s m) = Contained s m
ValueOk (A.tag r) = FormedRaw r

unfoldable pub AttributesOk : List Attribute → Type 0
AttributesOk [] = Unit {0}
AttributesOk (A.attribute n x ∷ as') = ((norm : Bool) → Text (get_attr_name n norm)) × ValueOk x × AttributesOk as'
AttributesOk (A.spread m ∷ as') = Stands E.One m × AttributesOk as'

chosen : {A : Type 0} (Q : A → Type 0) (b : Bool) {x y : A} → Q x → Q y → Q (pick b x y)
chosen Q true g h = g
chosen Q false g h = h

-- ---- attributes in an opening tag

space_text : Text (32 ∷ [])
space_text = text_cons 32 [] (omega arith) text_nil

gap_ok : {p : Pass Mid} → FormedPass E.One p → FormedParts (chars (32 ∷ []) ∷ gap p ∷ [])
unfolding FormedParts
gap_ok g = (space_text, (g, tt))

attr_gap_ok : (n : Bytes) {m : Mid} → Text n → Stands E.One m → FormedParts (attr_gap n m)
attr_gap_ok n h x = gap_ok (pass_pure (attr_stands n h x))

dynamic_ok : (n : Bytes) {m : Mid} → Text n → Stands E.One m → FormedParts (dynamic_attr n m)
unfolding dynamic_attr
dynamic_ok n h x = chosen FormedParts (is_boolean_attr n) (gap_ok (pass_pure (choice_stands n h x))) (attr_gap_ok n h x)

raw_alone : {r : Raw} → FormedRaw r → Stands E.One (raw r none)
unfolding Formed
raw_alone g = record { formed = (takes_one, g, refl) }

listed_ok : (n : Bytes) (x : Value) → Text n → ValueOk x → FormedParts (listed_attr n x)
unfolding listed_attr ValueOk
listed_ok n A.absent h g = attr_gap_ok n h true_alone
listed_ok n (A.string b) h g = attr_gap_ok n h (string_alone b g)
listed_ok n A.empty h g = attr_gap_ok n h null_alone
listed_ok n (A.container s m) h g = attr_gap_ok n h g.stands
listed_ok n (A.tag r) h g = attr_gap_ok n h (raw_alone g)

chars_ok : (b : Bytes) → Text b → FormedParts (chars b ∷ [])
unfolding FormedParts
chars_ok b h = (h, tt)

parts_none : FormedParts []
unfolding FormedParts
parts_none = tt

container_ok : (n : Bytes) (s : Shape) {m : Mid} → Text n → Contained s m → FormedParts (container_attr n s m)
unfolding container_attr ShapeText
container_ok n (string_shape b) h g = chars_ok _ (serialized_text n b h g.text_is)
container_ok n (number_shape k) h g = chars_ok _ (serialized_text n (render k) h (render_text k))
container_ok n (boolean_shape b) h g = chosen FormedParts (is_boolean_attr n) (chosen FormedParts b (chars_ok (32 ∷ n) (text_cons 32 n (omega arith) h)) parts_none) (dynamic_ok n h g.stands)
container_ok n null_shape h g = dynamic_ok n h g.stands
container_ok n literal_shape h g = dynamic_ok n h g.stands
container_ok n (minus_shape k) h g = chars_ok _ (serialized_text n (45 ∷ render k) h (text_cons 45 (render k) (omega arith) (render_text k)))
container_ok n other_shape h g = dynamic_ok n h g.stands

plain_ok : (n : Bytes) (x : Value) → Text n → ValueOk x → FormedParts (plain_attr n x)
unfolding plain_attr ValueOk
plain_ok n A.absent h g = chosen FormedParts (is_boolean_attr n) (chars_ok (32 ∷ escape_html n) (text_cons 32 (escape_html n) (omega arith) (escape_text n h))) (attr_gap_ok n h true_alone)
plain_ok n (A.string b) h g = chosen FormedParts (same n (ascii "key") || same n (ascii "ref")) (attr_gap_ok n h (string_alone b g)) (chars_ok _ (serialized_text n b h g))
plain_ok n A.empty h g = parts_none
plain_ok n (A.container s m) h g = container_ok n s h g
plain_ok n (A.tag r) h g = parts_none

attrs_ok : (o : Options) (as' : List Attribute) → AttributesOk as' → FormedParts (attrs_parts o as')
unfolding attrs_parts attr_parts AttributesOk
attrs_ok o [] g = parts_none
attrs_ok o (A.attribute n x ∷ as') g =
    parts_append _ (attrs_parts o as')
    (chosen FormedParts (among (get_attr_name n false) o.skip_prop_serialize) (listed_ok (get_attr_name n false) x (g.0 false) g.1) (plain_ok (get_attr_name n true) x (g.0 true) g.1))
    (attrs_ok o as' g.2)
attrs_ok o (A.spread m ∷ as') g = attrs_ok o as' g.1

-- ---- attributes in a call

none_props : Stands E.Properties none
none_props = formed_none refl

prop_ok : (n : Bytes) (x : Value) → Text n → ValueOk x → Stands E.Properties (prop_of n x)
unfolding prop_of ValueOk
prop_ok n A.absent h g = prop_stands n h true_alone
prop_ok n (A.string b) h g = chosen (Stands E.Properties) (same n (ascii "key")) none_props (prop_stands n h (string_alone (normalize_lit_str b) (normalize_stays b g)))
prop_ok n A.empty h g = none_props
prop_ok n (A.container s m) h g = chosen (Stands E.Properties) (same n (ascii "key")) none_props (prop_stands n h g.stands)
prop_ok n (A.tag r) h g = none_props

props_ok : (norm : Bool) (as' : List Attribute) → AttributesOk as' → Stands E.Properties (props_of norm as')
unfolding props_of AttributesOk within
props_ok norm [] g = none_props
props_ok norm (A.attribute n x ∷ as') g = formed_append (λ t. refl) (prop_ok (get_attr_name n norm) x (g.0 norm) g.1) (props_ok norm as' g.2)
props_ok norm (A.spread m ∷ as') g = formed_nest 0x53 refl refl refl g.0 (props_ok norm as' g.1)

as_key : {m : Mid} → Stands E.One m → Stands E.Key m
as_key x = one_alone takes_key refl x

key_from_ok : (x : Value) (k : Mid) → ValueOk x → Stands E.Key k → Stands E.Key (key_from x k)
unfolding key_from ValueOk
key_from_ok A.absent k g h = h
key_from_ok (A.string b) k g h = as_key (string_alone (normalize_lit_str b) (normalize_stays b g))
key_from_ok A.empty k g h = formed_none refl
key_from_ok (A.container s m) k g h = as_key g.stands
key_from_ok (A.tag r) k g h = formed_none refl

key_ok : (norm : Bool) (as' : List Attribute) (k : Mid) → AttributesOk as' → Stands E.Key k → Stands E.Key (key_of norm as' k)
unfolding key_of AttributesOk
key_ok norm [] k g h = h
key_ok norm (A.attribute n x ∷ as') k g h = key_ok norm as' _ g.2 (chosen (Stands E.Key) (same (get_attr_name n norm) (ascii "key")) (key_from_ok x k g.1 h) h)
key_ok norm (A.spread m ∷ as') k g h = key_ok norm as' k g.1 h

-- ---- merging

flush_ok : (buf : Bytes) (cs : List Child) → Text buf → ChildrenOk cs → ChildrenOk (flush buf cs)
unfolding flush ChildrenOk ChildOk
flush_ok [] cs h g = g
flush_ok (b ∷ buf) cs h g = (h, g)

merge_ok : (esc par : Bool) (buf : Bytes) (cs : List Child) → Text buf → ChildrenOk cs → ChildrenOk (merge esc par buf cs)
unfolding merge joined_text ShapeText ChildrenOk ChildOk
merge_ok esc par buf [] h g = flush_ok buf [] h g
merge_ok esc par buf (text t ∷ cs) h g = merge_ok esc par _ cs (text_append buf _ h (jsx_text_stays t esc (par && is_last cs) g.0)) g.1
merge_ok esc par buf (empty ∷ cs) h g = merge_ok esc par buf cs h g.1
merge_ok esc par buf (container s m ∷ cs) h g = on s g.0 (λ b k. merge_ok esc par (buf ++ b) cs (text_append buf b h k) g.1) (flush_ok buf _ h (g.0, merge_ok esc par [] cs text_nil g.1))
  where
    on : (s : Shape) → Contained s m → ((b : Bytes) → Text b → ChildrenOk (merge esc par (buf ++ b) cs)) → ChildrenOk (flush buf (container s m ∷ merge esc par [] cs)) → ChildrenOk (merge esc par buf (container s m ∷ cs))
    on (string_shape b) x joined kept = joined (escape_html b) (escape_text b x.text_is)
    on (number_shape n) x joined kept = joined (render n) (render_text n)
    on (boolean_shape b) x joined kept = joined [] text_nil
    on null_shape x joined kept = kept
    on literal_shape x joined kept = kept
    on (minus_shape n) x joined kept = kept
    on other_shape x joined kept = kept
merge_ok esc par buf (element c ∷ cs) h g = flush_ok buf _ h (g.0, merge_ok esc par [] cs text_nil g.1)
merge_ok esc par buf (fragment f ∷ cs) h g = flush_ok buf _ h (g.0, merge_ok esc par [] cs text_nil g.1)
merge_ok esc par buf (spread m ∷ cs) h g = merge_ok esc par buf cs h g.1

short_ok : (cs : List Child) → ChildrenOk cs → ChildrenOk (short_runs cs)
unfolding short_runs ChildrenOk
short_ok [] g = g
short_ok (text t ∷ cs) g = chosen ChildrenOk (over t) (short_ok cs g.1) (g.0, short_ok cs g.1)
short_ok (empty ∷ cs) g = (g.0, short_ok cs g.1)
short_ok (container s m ∷ cs) g = (g.0, short_ok cs g.1)
short_ok (element e ∷ cs) g = (g.0, short_ok cs g.1)
short_ok (fragment f ∷ cs) g = (g.0, short_ok cs g.1)
short_ok (spread m ∷ cs) g = (g.0, short_ok cs g.1)

-- ---- children in a template

wrap_ok : (s : Shape) {m : Mid} → Contained s m → Stands E.One (maybe_wrap s m)
unfolding maybe_wrap
wrap_ok (string_shape b) x = chosen (Stands E.One) (same b (escape_html b)) x.stands (escape_stands x.stands)
wrap_ok (number_shape n) x = x.stands
wrap_ok (boolean_shape b) x = x.stands
wrap_ok null_shape x = x.stands
wrap_ok literal_shape x = x.stands
wrap_ok (minus_shape n) x = escape_stands x.stands
wrap_ok other_shape x = escape_stands x.stands

merged_ok : (cs : List Child) → ChildrenOk cs → FormedParts (merged_parts cs)
unfolding merged_parts ChildrenOk ChildOk FormedParts
merged_ok [] g = tt
merged_ok (text t ∷ cs) g = (g.0, merged_ok cs g.1)
merged_ok (empty ∷ cs) g = merged_ok cs g.1
merged_ok (container s m ∷ cs) g = (pass_pure (wrap_ok s g.0), merged_ok cs g.1)
merged_ok (element c ∷ cs) g = parts_append c.to_string_vec (merged_parts cs) g.0.parts (merged_ok cs g.1)
merged_ok (fragment f ∷ cs) g = parts_append f.to_string (merged_parts cs) g.0.parts (merged_ok cs g.1)
merged_ok (spread m ∷ cs) g = merged_ok cs g.1

string_ok : (par : Bool) (cs : List Child) → ChildrenOk cs → FormedParts (children_to_string par cs)
unfolding children_to_string
string_ok par cs g = merged_ok (merge true par [] cs) (merge_ok true par [] cs text_nil g)

-- ---- children in a call

as_item : {m : Mid} → Stands E.One m → Stands E.Elements m
as_item x = one_alone takes_elements refl x

single_one : (m : Mid) → Formed E.One m → Single m
unfolding Formed Single
single_one none h = refused _ h
single_one (node t f i none) h = tt
single_one (node t f i (node u g j r)) h = false_never h.3.0
single_one (node t f i (raw q r)) h = false_never (h.3.0 0x90 refl).0
single_one (raw q none) h = tt
single_one (raw q (node t f i r)) h = false_never h.2.0
single_one (raw q (raw s r)) h = false_never (h.2.0 0x90 refl).0

stills_by : (m : Mid) → Formed E.Elements m → ItemsOk (stills m)
unfolding Formed stills ItemsOk ItemOk Single
stills_by none h = tt
stills_by (node t f i r) h = ((record { formed = (h.0, h.1, h.2, refl) }, tt), stills_by r h.3)
stills_by (raw q r) h = ((record { formed = (h.0, h.1, refl) }, tt), stills_by r h.2)

found_by : (m : Mid) → Formed E.One m → FoundOk (found_of m)
unfolding Formed found_of FoundOk ExprOk
found_by none h = refused _ h
found_by (node t f i r) h = on (eqb t 0x76) refl
  where
    on : (b : Bool) → eqb t 0x76 ≡ b → FoundOk (pick b (array_found (stills i)) (one_found (still (node t f i r))))
    on true q =
        let e : t ≡ 0x76 = eqb-true t 0x76 q in
        let n : nests t ≡ true = ap nests e in
        stills_by i (subst (λ (x : Expect). Formed x i) (ap within e ∙ (unfold within in refl)) (h.1 n).1)
    on false q = record { formed = h }
found_by (raw q r) h = record { formed = h }

-- an element of an array that is no spread and no hole
bare_element : (t : ℕ) → eqb t 0x77 ≡ false → eqb t 0x78 ≡ false → allowed E.Elements t ≡ true → allowed E.One t ≡ true
bare_element t p q h = on (expression t) (eqb t 0x77) (eqb t 0x78) p q h
  where
    on : (a b c : Bool) → b ≡ false → c ≡ false → (a || b || c) ≡ true → a ≡ true
    on true b c p q h = refl
    on false true c p q h = true_never p
    on false false c p q h = false_never (sym q ∙ h)

sole_by : (m : Mid) → Formed E.Elements m → Single m → FoundOk (sole_mid m)
unfolding Formed sole_mid FoundOk ItemsOk ItemOk ExprOk Single
sole_by none h s = absurd s
sole_by (node t f i none) h s = on (eqb t 0x77) refl (eqb t 0x78) refl
  where
    on : (a : Bool) → eqb t 0x77 ≡ a → (b : Bool) → eqb t 0x78 ≡ b → FoundOk (pick a (found_of i) (pick b (array_found (still (node t f i none) ∷ [])) (found_of (node t f i none))))
    on true q b p =
        let e : t ≡ 0x77 = eqb-true t 0x77 q in
        let n : nests t ≡ true = ap nests e in
        found_by i (subst (λ (x : Expect). Formed x i) (ap within e ∙ (unfold within in refl)) (h.1 n).1)
    on false q true p = ((record { formed = h }, tt), tt)
    on false q false p = found_by (node t f i none) (bare_element t q p h.0, h.1, h.2, refl)
sole_by (node t f i (node u g j r)) h s = absurd s
sole_by (node t f i (raw q r)) h s = absurd s
sole_by (raw q none) h s = record { formed = (takes_one, h.1, refl) }
sole_by (raw q (node t f i r)) h s = absurd s
sole_by (raw q (raw u r)) h s = absurd s

sole_ok : (e : Entry) → ItemOk e → FoundOk (sole e)
unfolding sole ItemOk FoundOk ExprOk
sole_ok (still m) g = sole_by m g.0.formed g.1
sole_ok (passed p) g = g

flattened_ok : (es : List Entry) → ItemsOk es → FoundOk (flattened es)
unfolding flattened ItemsOk FoundOk
flattened_ok [] g = tt
flattened_ok (e ∷ []) g = sole_ok e g.0
flattened_ok (e ∷ e' ∷ es) g = g

expr_item : (e : Entry) → ExprOk e → ItemOk e
unfolding ExprOk ItemOk
expr_item (still m) g = (as_item g, single_one m g.formed)
expr_item (passed p) g = g

spliced_ok : (f : Found) → FoundOk f → ItemsOk (spliced f)
unfolding spliced FoundOk ItemsOk
spliced_ok nothing_found g = tt
spliced_ok (one_found e) g = (expr_item e g, tt)
spliced_ok (array_found es) g = g

items_append : (es fs : List Entry) → ItemsOk es → ItemsOk fs → ItemsOk (es ++ fs)
unfolding ItemsOk
items_append [] fs g h = h
items_append (e ∷ es) fs g h = (g.0, items_append es fs g.1 h)

entries_ok : (cs : List Child) → ChildrenOk cs → ItemsOk (entries cs)
unfolding entries ChildrenOk ChildOk ItemsOk
entries_ok [] g = tt
entries_ok (text t ∷ cs) g = (expr_item (still (leaf 0x70 t)) (unfold ExprOk in string_alone t g.0), entries_ok cs g.1)
entries_ok (empty ∷ cs) g = entries_ok cs g.1
entries_ok (container s m ∷ cs) g = (expr_item (still m) (unfold ExprOk in g.0.stands), entries_ok cs g.1)
entries_ok (element c ∷ cs) g = (expr_item (passed (serialize_jsx c)) (unfold ExprOk in g.0.serialized), entries_ok cs g.1)
entries_ok (fragment f ∷ cs) g = items_append (spliced f.to_expr) (entries cs) (spliced_ok f.to_expr g.0.found) (entries_ok cs g.1)
entries_ok (spread m ∷ cs) g = entries_ok cs g.1

one_child_ok : (c : Child) → ChildOk c → FoundOk (one_child c)
unfolding one_child ChildOk FoundOk ExprOk
one_child_ok (text t) g = string_alone _ (jsx_text_stays t false true g)
one_child_ok empty g = tt
one_child_ok (container s m) g = found_by m g.stands.formed
one_child_ok (element e) g = g.serialized
one_child_ok (fragment f) g = g.found
one_child_ok (spread m) g = tt

many_ok : (cs : List Child) → ChildrenOk cs → FoundOk (many_children cs)
unfolding many_children choose FoundOk ExprOk
many_ok cs g = on (becomes_template cs) (merge_ok false false [] cs text_nil g)
  where
    on : (b : Bool) → ChildrenOk (merge false false [] cs) →
        FoundOk (choose b (λ _. one_found (passed (raise (long_if (long_run (merge false false [] cs))) (gen_template (children_to_string false (short_runs (merge false false [] cs))))))) λ _. flattened (entries (merge false false [] cs)))
    on true h = pass_raise (long_run (merge false false [] cs)) (template_formed _ (string_ok false _ (short_ok (merge false false [] cs) h)))
    on false h = flattened_ok (entries (merge false false [] cs)) (entries_ok (merge false false [] cs) h)

to_expr_ok : (cs : List Child) → ChildrenOk cs → FoundOk (children_to_expr cs)
unfolding children_to_expr ChildrenOk FoundOk
to_expr_ok [] g = tt
to_expr_ok (c ∷ []) g = one_child_ok c g.0
to_expr_ok (c ∷ c' ∷ cs) g = many_ok (c ∷ c' ∷ cs) g

-- ---- calls

id_pass : {c d : Expect} {p : Pass Mid} → ((m : Mid) → Stands c m → Stands d m) → FormedPass c p → FormedPass d p
id_pass {p = p} k g = record { texts = g.texts; value = λ n. k (p n).value (g.value n) }

item_pass : (e : Entry) → ItemOk e → FormedPass E.Elements (entry_pass e)
unfolding entry_pass ItemOk
item_pass (still m) g = pass_pure g.0
item_pass (passed p) g = id_pass (λ m x. as_item x) g

items_pass : (es : List Entry) → ItemsOk es → FormedPass E.Elements (entries_pass es)
unfolding entries_pass ItemsOk
items_pass [] g = pass_pure (formed_none refl)
items_pass (e ∷ es) g = pass_both (λ x y h k. formed_append (λ t. refl) h k) (item_pass e g.0) (items_pass es g.1)

expr_pass : (e : Entry) → ExprOk e → FormedPass E.One (entry_pass e)
unfolding entry_pass ExprOk
expr_pass (still m) g = pass_pure g
expr_pass (passed p) g = g

array_pass : (es : List Entry) → ItemsOk es → FormedPass E.One (map array_node (entries_pass es))
array_pass es g = pass_map array_node (λ m x. array_stands x) (items_pass es g)

found_pass_ok : (f : Found) → FoundOk f → FormedPass E.Key (found_pass f)
unfolding found_pass FoundOk
found_pass_ok nothing_found g = pass_pure (formed_none refl)
found_pass_ok (one_found e) g = id_pass (λ m x. as_key x) (expr_pass e g)
found_pass_ok (array_found es) g = id_pass (λ m x. as_key x) (array_pass es g)

children_text : Text (ascii "children")
children_text = ascii_utf8 (ascii "children") (unfold U.all_ascii in refl)

children_prop_ok : (m : Mid) → Stands E.Key m → Stands E.Properties (children_prop m)
unfolding children_prop Formed
children_prop_ok none x = none_props
children_prop_ok (node t f i r) x = prop_stands (ascii "children") children_text (record { formed = x.formed })
children_prop_ok (raw q r) x = prop_stands (ascii "children") children_text (record { formed = (takes_one, x.formed.1, x.formed.2) })

-- the properties, or null, in front of the key
props_then : (m : Mid) {y : Mid} → Stands E.Properties m → Stands E.Key y → Stands E.Props (props_node m +++ y)
unfolding props_node ◌+++◌ within check_leaf choose check_empty
props_then none x k = formed_leaf 0x73 [] refl refl refl k
props_then (node t f i r) x k = formed_nest 0x95 refl refl refl x k
props_then (raw q r) x k = formed_nest 0x95 refl refl refl x k

-- ---- the name of a call

name_fine : (n : Bytes) → T (is_name n) → check_leaf 0x40 n ≡ Fine
unfolding check_leaf choose check_name_by check_name
name_fine n h = fine_unless (is_name n) R.BadName h

members_still : (ns : List Bytes) (n : ℕ) → visit_exprs (members_row ns) n ≡ pure (texts_row 0x40 ns) n
unfolding members_row texts_row visit_exprs both pure
members_still [] n = refl
members_still (m ∷ ns) n = rw (members_still ns (n + 0)) (ap (λ (k : ℕ). record { value = field 0x40 m end (texts_row 0x40 ns); taken = k; templates = []; flags = no_flags }) (omega arith))

members_leaf : (d : ℕ) (ns : List Bytes) → 2 ≤ length ns → length ns ≤ 8 → MembersOk d ns → Leaf 0x41 [] (members_row ns)
unfolding check_leaf choose check_name_by
members_leaf d ns l h g =
    let k : MembersOk 1 ns = members_at ns d 1 tt g in
    let f : Bytes = bytes (texts_row 0x40 ns) in
    record { row = texts_row 0x40 ns; still = members_still ns; fine = ap (check_name_by 0x41 1 f) (members_read ns 1 k) ∙ member_fine 1 f ns l h k }

name_then : (d : ℕ) (n : Name) {y : Mid} → ElementNameOk d n → Stands E.Props y → Stands E.Callee (name_expr n +++ y)
unfolding ElementNameOk name_expr ◌+++◌ Formed
name_then d (identifier n) {y} h x = on (first_upper n)
  where
    on : (b : Bool) → Stands E.Callee (pick b (leaf 0x40 n) (leaf 0x81 n) +++ y)
    on true = formed_leaf 0x40 n refl refl (name_fine n h.1) x
    on false = name_leaf n refl (name_text n h.1) x
name_then d (member ns) h x = record { formed = (refl, (λ k. false_never k), (λ k. members_leaf (suc d) ns (leb→le 2 (length ns) h.1) (leb→le (length ns) 8 h.2) h.3), x.formed) }
name_then d (namespaced n m) h x = name_leaf (n ++ (58 ∷ m)) refl (two_names_text n m h.2 h.3) x

call_stands : (d : ℕ) (n : Name) (as' : List Attribute) (m : Mid) → ElementNameOk d n → AttributesOk as' → Stands E.Key m → Stands E.One (call_node n as' m)
unfolding call_node within
call_stands d n as' m h g x =
    let norm : Bool = not (is_component n) in
    formed_nest 0x94 refl refl refl (name_then d n h (props_then (props_of norm as' +++ children_prop m) (formed_append (λ t. refl) (props_ok norm as' g) (children_prop_ok m x)) (key_ok norm as' none g (formed_none refl)))) (formed_none refl)

call_ok : (d : ℕ) (n : Name) (as' : List Attribute) (cs : List Child) → ElementNameOk d n → AttributesOk as' → ChildrenOk cs → FormedPass E.One (to_call_expr n as' cs)
unfolding to_call_expr
call_ok d n as' cs h g k = pass_map (call_node n as') (λ m x. call_stands d n as' m h g x) (found_pass_ok (children_to_expr cs) (to_expr_ok cs k))

-- ---- elements and fragments

open_close_ok : (o : Options) (n : Bytes) (as' : List Attribute) (cs : List Child) → T (is_name n) → AttributesOk as' → ChildrenOk cs → FormedParts (open_close o n as' cs)
unfolding open_close FormedParts
open_close_ok o n as' cs h g k =
    let t : Text n = name_text n h in
    (text_cons 60 (escape_html n) (omega arith) (escape_text n t), parts_append (attrs_parts o as') _ (attrs_ok o as' g) (text_cons 62 [] (omega arith) text_nil, on (is_void_element n) t))
  where
    on : (b : Bool) → Text n → FormedParts (pick b [] (children_to_string true cs ++ (chars (60 ∷ 47 ∷ (n ++ (62 ∷ []))) ∷ [])))
    on true t = parts_none
    on false t = parts_append (children_to_string true cs) _ (string_ok true cs k) (chars_ok _ (text_cons 60 _ (omega arith) (text_cons 47 _ (omega arith) (text_append n (62 ∷ []) t (text_cons 62 [] (omega arith) text_nil)))))

gap_alone : {p : Pass Mid} → FormedPass E.One p → FormedParts (gap p ∷ [])
unfolding FormedParts
gap_alone g = (g, tt)

pub element_formed : (o : Options) (d : ℕ) (n : Name) (as' : List Attribute) (cs : List Child) → ElementNameOk d n → AttributesOk as' → ChildrenOk cs → ElementOk (element_of o n as' cs)
unfolding element_of serialize_jsx element_to_string_vec is_serializable choose ElementNameOk
element_formed o d (identifier n) as' cs h g k = on (is_serializable o (identifier n) as')
  where
    on : (b : Bool) → ElementOk (record { serializable = b; to_string_vec = choose b (λ _. open_close o n as' cs) λ _. gap (to_call_expr (identifier n) as' cs) ∷ []; to_call_expr = to_call_expr (identifier n) as' cs })
    on true = let p = open_close_ok o n as' cs h.1 g k in record { parts = p; serialized = template_formed (open_close o n as' cs) p }
    on false = let p = call_ok d (identifier n) as' cs h g k in record { parts = gap_alone p; serialized = p }
element_formed o d (member ns) as' cs h g k = let p = call_ok d (member ns) as' cs h g k in record { parts = gap_alone p; serialized = p }
element_formed o d (namespaced n m) as' cs h g k = let p = call_ok d (namespaced n m) as' cs h g k in record { parts = gap_alone p; serialized = p }

pub fragment_formed : (cs : List Child) → ChildrenOk cs → FragmentOk (fragment_of cs)
unfolding fragment_of
fragment_formed cs k = record { parts = string_ok false cs k; found = to_expr_ok cs k }

pub element_raw_formed : (e : Element) → ElementOk e → FormedRaw (element_raw e)
unfolding element_raw
element_raw_formed e g = visit_formed g.serialized

template_visits : (cs : List Child) → ChildrenOk cs → FormedRaw (visit_after (gen_template (children_to_string false cs)))
template_visits cs k = visit_formed (template_formed (children_to_string false cs) (string_ok false cs k))

found_visits : (f : Found) → FoundOk f → FormedRaw (visit_found f)
unfolding visit_found found_pass FoundOk
found_visits nothing_found g = raw_leave
found_visits (one_found e) g = visit_formed (expr_pass e g)
found_visits (array_found es) g = visit_formed (array_pass es g)

only_visits : (c : Child) → ChildrenOk (c ∷ []) → FormedRaw (visit_only_child c)
unfolding visit_only_child ChildrenOk ChildOk
only_visits (text t) g = template_visits (text t ∷ []) g
only_visits empty g = template_visits (empty ∷ []) g
only_visits (container s m) g = template_visits (container s m ∷ []) g
only_visits (element e) g = visit_formed g.0.serialized
only_visits (fragment f) g = found_visits f.to_expr g.0.found
only_visits (spread m) g = raw_leave

pub fragment_raw_formed : (cs : List Child) → ChildrenOk cs → FormedRaw (visit_fragment cs)
unfolding visit_fragment
fragment_raw_formed [] g = raw_null
fragment_raw_formed (c ∷ []) g = only_visits c g
fragment_raw_formed (c ∷ c' ∷ cs) g = template_visits (c ∷ c' ∷ cs) g
