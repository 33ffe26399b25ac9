-- 000's functions within their budgets: one lemma for each function of the transform, over children and attributes that have theirs.
-- Main statements: `element_costs`, `fragment_costs`, `element_raw_costs`, `fragment_raw_costs`.
-- Assumes nothing.
use Prim.Native.Nat.{ℕ, suc, ◌+◌, ◌*◌, ◌≤◌}
use native.Mathlib.Omega.{arith}
use native.Mathlib.Nat.{mul-add, mul_comm, mul_assoc, mul-le-mul_left, mul-le-mul_right}
use mathlib.Core.Path.{◌≡◌, refl, ap, ◌∙◌}
use mathlib.Core.Bool.{Bool, true, false, ◌&&◌, ◌||◌, not}
use mathlib.Core.List.{List, [], ◌∷◌, ◌++◌}
use lib.Dec.{eqb}
use lib.ListN.{length, length-append}
use Rattle.field.specs.Bytes.{Bytes, ascii, pick, same, among}
use Rattle.text.specs.Escape.{escape_html}
use Rattle.text.specs.Text.{jsx_text_to_str, normalize_lit_str}
use Rattle.text.proofs.EscapeLaws.{length_escape_html}
use Rattle.text.proofs.TextBounds.{length_jsx_text, length_normalize}
use Rattle.names.specs.Names.{AttrName, get_attr_name, is_void_element, is_boolean_attr}
use Rattle.page.specs.Number.{render}
use Rattle.page.proofs.NumberLaws.{render_escaped, minus_escaped}
use Rattle.page.specs.Tree.{choose}
use Rattle.page.specs.Page.{Name, identifier, member, namespaced, Options}
use Rattle.spec.specs.Pass.{Pass, raise, long_if, Mid, none, node, ◌+++◌, Part, chars, gap, over}
use Rattle.spec.specs.Output.{leaf, string_node, true_node, choice_node, array_node, gen_template}
use Rattle.spec.specs.Merge.{Shape, string_shape, number_shape, boolean_shape, null_shape, literal_shape, minus_shape, other_shape, Entry, still, passed, Found, nothing_found, one_found, array_found, Element, Fragment, Child, text, empty, container, element, fragment, spread, is_last, flush, joined_text, merge, long_run, short_runs, becomes_template}
use Rattle.spec.specs.Attributes as A
use Rattle.spec.specs.Attributes.{Value, Attribute, first_upper, is_serializable, serialize_attr, attr_gap, listed_attr, dynamic_attr, container_attr, plain_attr, attr_parts, attrs_parts, is_component, prop_of, props_of, key_from, key_of}
use Rattle.spec.specs.Children.{maybe_wrap, merged_parts, children_to_string, serialize_jsx, stills, found_of, sole_mid, sole, flattened, spliced, entries, one_child, many_children, children_to_expr, entry_pass, entries_pass, found_pass, children_prop, props_node, members_row, name_expr, call_node, to_call_expr, open_close, element_to_string_vec}
use Rattle.spec.specs.Visit.{visit_after, visit_found, visit_only_child, visit_fragment}
use Rattle.spec.specs.Transform.{element_of, fragment_of, element_raw}
use Rattle.spec.proofs.Cost.{written_size, RawCosts, Costs, none_costs, node_costs, raw_costs, PassCosts, PartsCosts, no_parts, costs_weaken, costs_node, costs_raw, costs_leaf, costs_alone, costs_nest, costs_append, pass_weaken, pure_costs, both_costs, raise_costs, map_costs, parts_weaken, parts_append, parts_chars, parts_gap, parts_mark, template_costs, leave_costs, null_costs, after_costs}

-- ---- budgets of children and attributes

-- what a literal costs where it is written out, escaped
unfoldable pub shape_size : Shape → ℕ
shape_size (string_shape b) = 6 * length b
shape_size (number_shape n) = length (render n)
shape_size (boolean_shape b) = 0
shape_size null_shape = 0
shape_size literal_shape = 0
shape_size (minus_shape n) = 1 + length (render n)
shape_size other_shape = 0

pub data EntryCosts : Entry → ℕ → Type 0 where
  still_costs : {m : Mid} {w : ℕ} → Costs m w → EntryCosts (still m) w
  passed_costs : {p : Pass Mid} {w : ℕ} → PassCosts w p → EntryCosts (passed p) w

pub data EntriesCosts : List Entry → ℕ → Type 0 where
  no_entries : {w : ℕ} → EntriesCosts [] w
  more_entries : {e : Entry} {es : List Entry} {w : ℕ} (a b : ℕ) → a + b ≤ w → EntryCosts e a → EntriesCosts es b → EntriesCosts (e ∷ es) w

-- an array's own field is counted where it is made
pub data FoundCosts : Found → ℕ → Type 0 where
  nothing_costs : {w : ℕ} → FoundCosts nothing_found w
  one_costs : {e : Entry} {w : ℕ} → EntryCosts e w → FoundCosts (one_found e) w
  array_costs : {es : List Entry} {w : ℕ} → EntriesCosts es w → FoundCosts (array_found es) w

pub record ElementCosts (w : ℕ) (e : Element) : Type 0 where
  pub in_parts : PartsCosts e.to_string_vec w
  pub serialized : PassCosts w (serialize_jsx e)

pub record FragmentCosts (w : ℕ) (f : Fragment) : Type 0 where
  pub in_parts : PartsCosts f.to_string w
  pub found : FoundCosts f.to_expr w

-- each byte of a text counts k times: every merge may make six of one
unfoldable pub ChildCosts : ℕ → Child → ℕ → Type 0
ChildCosts k (text t) w = k * length t ≤ w
ChildCosts k empty w = Unit {0}
ChildCosts k (container s m) w = (k * shape_size s ≤ w) × Costs m w
ChildCosts k (element e) w = ElementCosts w e
ChildCosts k (fragment f) w = FragmentCosts w f
ChildCosts k (spread m) w = Unit {0}

-- and h is paid for each child and once at the end: a merge puts at most one run in front of each
pub data ChildrenCosts (k h : ℕ) : List Child → ℕ → Type 0 where
  no_children : {w : ℕ} → h ≤ w → ChildrenCosts k h [] w
  more_children : {c : Child} {cs : List Child} {w : ℕ} (a b : ℕ) → h + a + b ≤ w → ChildCosts k c a → ChildrenCosts k h cs b → ChildrenCosts k h (c ∷ cs) w

unfoldable pub ValueCosts : Value → ℕ → Type 0
ValueCosts A.absent w = Unit {0}
ValueCosts (A.string b) w = 6 * length b ≤ w
ValueCosts A.empty w = Unit {0}
ValueCosts (A.container s m) w = (shape_size s ≤ w) × Costs m w
ValueCosts (A.tag r) w = RawCosts w r

-- an attribute: its name at most seven times, and a few fields around it
pub data AttributesCosts : List Attribute → ℕ → Type 0 where
  no_attributes : {w : ℕ} → AttributesCosts [] w
  attribute_costs : {n : AttrName} {v : Value} {as' : List Attribute} {w : ℕ} (x a b : ℕ) → 20 + 7 * x + a + b ≤ w → ((norm : Bool) → length (get_attr_name n norm) ≤ x) → ValueCosts v a → AttributesCosts as' b → AttributesCosts (A.attribute n v ∷ as') w
  spread_costs : {m : Mid} {as' : List Attribute} {w : ℕ} (a b : ℕ) → 3 + a + b ≤ w → Costs m a → AttributesCosts as' b → AttributesCosts (A.spread m ∷ as') w

-- ---- the constructors as functions, and weakening

found_still : {m : Mid} {w : ℕ} → Costs m w → FoundCosts (one_found (still m)) w
found_still x = one_costs (still_costs x)

found_passed : {p : Pass Mid} {w : ℕ} → PassCosts w p → FoundCosts (one_found (passed p)) w
found_passed x = one_costs (passed_costs x)

entries_more : {e : Entry} {es : List Entry} {w : ℕ} (a b : ℕ) → a + b ≤ w → EntryCosts e a → EntriesCosts es b → EntriesCosts (e ∷ es) w
entries_more a b h x y = more_entries a b h x y

pub children_end : {k h w : ℕ} → h ≤ w → ChildrenCosts k h [] w
children_end g = no_children g

pub children_more : {k h : ℕ} {c : Child} {cs : List Child} {w : ℕ} (a b : ℕ) → h + a + b ≤ w → ChildCosts k c a → ChildrenCosts k h cs b → ChildrenCosts k h (c ∷ cs) w
children_more a b h x y = more_children a b h x y

pub attributes_more : {n : AttrName} {v : Value} {as' : List Attribute} {w : ℕ} (x a b : ℕ) → 20 + 7 * x + a + b ≤ w → ((norm : Bool) → length (get_attr_name n norm) ≤ x) → ValueCosts v a → AttributesCosts as' b → AttributesCosts (A.attribute n v ∷ as') w
attributes_more x a b h l y z = attribute_costs x a b h l y z

pub attributes_spread : {m : Mid} {as' : List Attribute} {w : ℕ} (a b : ℕ) → 3 + a + b ≤ w → Costs m a → AttributesCosts as' b → AttributesCosts (A.spread m ∷ as') w
attributes_spread a b h x y = spread_costs a b h x y

entry_weaken : {e : Entry} {v w : ℕ} → v ≤ w → EntryCosts e v → EntryCosts e w
entry_weaken h (still_costs x) = still_costs (costs_weaken h x)
entry_weaken h (passed_costs x) = passed_costs (pass_weaken h x)

entries_weaken : {es : List Entry} {v w : ℕ} → v ≤ w → EntriesCosts es v → EntriesCosts es w
entries_weaken h no_entries = no_entries
entries_weaken h (more_entries a b k x y) = entries_more a b (omega arith) x y

found_weaken : {f : Found} {v w : ℕ} → v ≤ w → FoundCosts f v → FoundCosts f w
found_weaken h nothing_costs = nothing_costs
found_weaken h (one_costs x) = one_costs (entry_weaken h x)
found_weaken h (array_costs x) = array_costs (entries_weaken h x)

parts_pick : {ps qs : List Part} {w : ℕ} (b : Bool) → PartsCosts ps w → PartsCosts qs w → PartsCosts (pick b ps qs) w
parts_pick true x y = x
parts_pick false x y = y

costs_pick : {m l : Mid} {w : ℕ} (b : Bool) → Costs m w → Costs l w → Costs (pick b m l) w
costs_pick true x y = x
costs_pick false x y = y

found_pick : {f g : Found} {w : ℕ} (b : Bool) → FoundCosts f w → FoundCosts g w → FoundCosts (pick b f g) w
found_pick true x y = x
found_pick false x y = y

-- ---- attributes in an opening tag

-- a name as an 81, and an expression behind it, in a field
named_costs : {t : ℕ} {n : Bytes} {m : Mid} {w : ℕ} (a : ℕ) → 6 + length n + a ≤ w → Costs m a → Costs (node t [] (node 0x81 n none m) none) w
named_costs {n = n} a h x = costs_nest (3 + length n + a) (omega arith) (costs_leaf a (omega arith) x)

choice_costs : (n : Bytes) {m : Mid} {w : ℕ} (a : ℕ) → 6 + length n + a ≤ w → Costs m a → Costs (choice_node m n) w
choice_costs n a h x = let y : Costs (leaf 0x81 n) (3 + length n) = costs_alone (omega arith) in costs_nest (3 + length n + a) (omega arith) (costs_append (omega arith) x y)

-- a space and a gap
gap_parts : {p : Pass Mid} {w : ℕ} (a : ℕ) → 5 + a ≤ w → PassCosts a p → PartsCosts (chars (32 ∷ []) ∷ gap p ∷ []) w
gap_parts a h g = parts_chars (4 + a) (omega arith) (parts_gap a 0 (omega arith) g no_parts)

attr_gap_costs : (n : Bytes) {m : Mid} {w : ℕ} (a : ℕ) → 11 + length n + a ≤ w → Costs m a → PartsCosts (attr_gap n m) w
attr_gap_costs n a h x = gap_parts (6 + length n + a) (omega arith) (pure_costs (named_costs a (omega arith) x))

text_parts : {b : Bytes} {w : ℕ} → length b ≤ w → PartsCosts (chars b ∷ []) w
text_parts h = parts_chars 0 (omega arith) no_parts

true_costs : {w : ℕ} → 4 ≤ w → Costs true_node w
true_costs h = costs_alone (omega arith)

listed_attr_costs : (n : Bytes) (v : Value) {w : ℕ} (a : ℕ) → 20 + length n + a ≤ w → ValueCosts v a → PartsCosts (listed_attr n v) w
unfolding listed_attr ValueCosts
listed_attr_costs n A.absent a h g = attr_gap_costs n 4 (omega arith) (true_costs (omega arith))
listed_attr_costs n (A.string b) a h g = attr_gap_costs n (3 + length b) (omega arith) (costs_alone (omega arith))
listed_attr_costs n A.empty a h g = attr_gap_costs n 3 (omega arith) (costs_alone (omega arith))
listed_attr_costs n (A.container s m) a h g = attr_gap_costs n a (omega arith) g.1
listed_attr_costs n (A.tag r) a h g = attr_gap_costs n a (omega arith) (costs_raw a 0 (omega arith) g none_costs)

dynamic_attr_costs : (n : Bytes) {m : Mid} {w : ℕ} (a : ℕ) → 20 + length n + a ≤ w → Costs m a → PartsCosts (dynamic_attr n m) w
unfolding dynamic_attr
dynamic_attr_costs n a h x = parts_pick (is_boolean_attr n) (gap_parts (6 + length n + a) (omega arith) (pure_costs (choice_costs n a (omega arith) x))) (attr_gap_costs n a (omega arith) x)

-- by the value's own length, escaped
serialized_by : (n v : Bytes) {w : ℕ} → 4 + 6 * length n + length (escape_html v) ≤ w → PartsCosts (chars (serialize_attr n v) ∷ []) w
unfolding serialize_attr
serialized_by n v h =
    let back : Bytes = 61 ∷ 34 ∷ (escape_html v ++ (34 ∷ [])) in
    text_parts (omega (arith, length-append (escape_html n) back, length-append (escape_html v) (34 ∷ []), length_escape_html n))

serialized_costs : (n v : Bytes) {w : ℕ} → 4 + 6 * length n + 6 * length v ≤ w → PartsCosts (chars (serialize_attr n v) ∷ []) w
serialized_costs n v h = serialized_by n v (omega (arith, length_escape_html v))

serialized_plain : (n v : Bytes) {w : ℕ} → escape_html v ≡ v → 4 + 6 * length n + length v ≤ w → PartsCosts (chars (serialize_attr n v) ∷ []) w
serialized_plain n v e h = serialized_by n v (omega (arith, ap (λ (x : Bytes). length x) e))

container_attr_costs : (n : Bytes) (s : Shape) {m : Mid} {w : ℕ} (a : ℕ) → 20 + 7 * length n + a ≤ w → shape_size s ≤ a → Costs m a → PartsCosts (container_attr n s m) w
unfolding container_attr shape_size
container_attr_costs n (string_shape b) a h k x = serialized_costs n b (omega arith)
container_attr_costs n (number_shape l) a h k x = serialized_plain n (render l) (render_escaped l) (omega arith)
container_attr_costs n (boolean_shape b) a h k x = parts_pick (is_boolean_attr n) (parts_pick b (text_parts (omega arith)) no_parts) (dynamic_attr_costs n a (omega arith) x)
container_attr_costs n null_shape a h k x = dynamic_attr_costs n a (omega arith) x
container_attr_costs n literal_shape a h k x = dynamic_attr_costs n a (omega arith) x
container_attr_costs n (minus_shape l) a h k x = serialized_plain n (45 ∷ render l) (minus_escaped l) (omega arith)
container_attr_costs n other_shape a h k x = dynamic_attr_costs n a (omega arith) x

plain_attr_costs : (n : Bytes) (v : Value) {w : ℕ} (a : ℕ) → 20 + 7 * length n + a ≤ w → ValueCosts v a → PartsCosts (plain_attr n v) w
unfolding plain_attr ValueCosts
plain_attr_costs n A.absent a h g = parts_pick (is_boolean_attr n) (text_parts (omega (arith, length_escape_html n))) (attr_gap_costs n 4 (omega arith) (true_costs (omega arith)))
plain_attr_costs n (A.string b) a h g = parts_pick (same n (ascii "key") || same n (ascii "ref")) (attr_gap_costs n (3 + length b) (omega arith) (costs_alone (omega arith))) (serialized_costs n b (omega arith))
plain_attr_costs n A.empty a h g = no_parts
plain_attr_costs n (A.container s m) a h g = container_attr_costs n s a h g.0 g.1
plain_attr_costs n (A.tag r) a h g = no_parts

attr_costs : (o : Options) (n : AttrName) (v : Value) {w : ℕ} (x a : ℕ) → 20 + 7 * x + a ≤ w → ((norm : Bool) → length (get_attr_name n norm) ≤ x) → ValueCosts v a → PartsCosts (attr_parts o (A.attribute n v)) w
unfolding attr_parts
attr_costs o n v x a h l g =
    parts_pick (among (get_attr_name n false) o.skip_prop_serialize) (listed_attr_costs (get_attr_name n false) v a (omega (arith, l false)) g) (plain_attr_costs (get_attr_name n true) v a (omega (arith, l true)) g)

spread_nothing : (o : Options) (m : Mid) → PartsCosts (attr_parts o (A.spread m)) 0
unfolding attr_parts
spread_nothing o m = no_parts

attrs_costs : (o : Options) {as' : List Attribute} {w : ℕ} → AttributesCosts as' w → PartsCosts (attrs_parts o as') w
unfolding attrs_parts
attrs_costs o no_attributes = no_parts
attrs_costs o (attribute_costs {n = n} {v = v} x a b h l g y) = parts_append {a = 20 + 7 * x + a} h (attr_costs o n v x a (omega arith) l g) (attrs_costs o y)
attrs_costs o (spread_costs {m = m} a b h x y) = parts_append {a = 0} (omega arith) (spread_nothing o m) (attrs_costs o y)

-- ---- attributes in a call: what the properties and the key cost between them

record InCall (norm : Bool) (as' : List Attribute) (k : Mid) (w : ℕ) : Type 0 where
  props_cost : ℕ
  key_cost : ℕ
  within : props_cost + key_cost ≤ w
  props : Costs (props_of norm as') props_cost
  key : Costs (key_of norm as' k) key_cost

-- one attribute: a property, or the key, or neither
record OneInCall (n : Bytes) (v : Value) (k : Mid) (w : ℕ) : Type 0 where
  prop_cost : ℕ
  left_cost : ℕ
  one_within : prop_cost + left_cost ≤ w
  prop : Costs (prop_of n v) prop_cost
  left : Costs (pick (same n (ascii "key")) (key_from v k) k) left_cost

one_in_call : (n : Bytes) (v : Value) {k : Mid} {b w : ℕ} (a : ℕ) → 20 + length n + a + b ≤ w → ValueCosts v a → Costs k b → OneInCall n v k w
unfolding prop_of key_from ValueCosts
one_in_call n A.absent {k} {b} a h g x = record { prop_cost = 10 + length n; left_cost = b; one_within = omega arith; prop = named_costs 4 (omega arith) (true_costs (omega arith)); left = costs_pick (same n (ascii "key")) x x }
one_in_call n (A.string s) {k} {b} {w} a h g x = on (same n (ascii "key")) refl
  where
    text_costs : Costs (string_node (normalize_lit_str s)) (3 + length s)
    text_costs = costs_alone (omega (arith, length_normalize s))

    on : (c : Bool) → same n (ascii "key") ≡ c → OneInCall n (A.string s) k w
    on true e = record { prop_cost = 0; left_cost = 3 + length s; one_within = omega arith; prop = rw e none_costs; left = rw e text_costs }
    on false e = record { prop_cost = 9 + length n + length s; left_cost = b; one_within = omega arith; prop = rw e (named_costs (3 + length s) (omega arith) text_costs); left = rw e x }
one_in_call n A.empty {k} {b} a h g x = record { prop_cost = 0; left_cost = b; one_within = omega arith; prop = none_costs; left = costs_pick (same n (ascii "key")) none_costs x }
one_in_call n (A.container s m) {k} {b} {w} a h g x = on (same n (ascii "key")) refl
  where
    on : (c : Bool) → same n (ascii "key") ≡ c → OneInCall n (A.container s m) k w
    on true e = record { prop_cost = 0; left_cost = a; one_within = omega arith; prop = rw e none_costs; left = rw e g.1 }
    on false e = record { prop_cost = 6 + length n + a; left_cost = b; one_within = omega arith; prop = rw e (named_costs a (omega arith) g.1); left = rw e x }
one_in_call n (A.tag r) {k} {b} a h g x = record { prop_cost = 0; left_cost = b; one_within = omega arith; prop = none_costs; left = costs_pick (same n (ascii "key")) none_costs x }

in_call : (norm : Bool) {as' : List Attribute} {k : Mid} {a b w : ℕ} → a + b ≤ w → AttributesCosts as' a → Costs k b → InCall norm as' k w
unfolding props_of key_of
in_call norm {b = b} h no_attributes x = record { props_cost = 0; key_cost = b; within = omega arith; props = none_costs; key = x }
in_call norm {b = b} {w = w} h (attribute_costs {n = n} {v = v} z a c k l g y) x =
    let one = one_in_call (get_attr_name n norm) v {w = 20 + 7 * z + a + b} a (omega (arith, l norm)) g x in
    let rest = in_call norm {w = c + one.left_cost} (omega arith) y one.left in
    record {
      props_cost = one.prop_cost + rest.props_cost;
      key_cost = rest.key_cost;
      within = omega (arith, one.one_within, rest.within);
      props = costs_append (omega arith) one.prop rest.props;
      key = rest.key;
    }
in_call norm {b = b} h (spread_costs a c k g y) x =
    let rest = in_call norm {w = c + b} (omega arith) y x in
    record {
      props_cost = 3 + a + rest.props_cost;
      key_cost = rest.key_cost;
      within = omega (arith, rest.within);
      props = costs_node a rest.props_cost (omega arith) g rest.props;
      key = rest.key;
    }

-- ---- merging

-- fewer bytes of a text counted, and less paid for each child
child_fewer : (c : Child) {k l : ℕ} (w : ℕ) → k ≤ l → ChildCosts l c w → ChildCosts k c w
unfolding ChildCosts
child_fewer (text t) w h g = omega (arith, mul-le-mul_right (length t) h)
child_fewer empty w h g = tt
child_fewer (container s m) w h g = (omega (arith, g.0, mul-le-mul_right (shape_size s) h), g.1)
child_fewer (element e) w h g = g
child_fewer (fragment f) w h g = g
child_fewer (spread m) w h g = tt

children_fewer : {k l h i : ℕ} {cs : List Child} {w : ℕ} → k ≤ l → h ≤ i → ChildrenCosts l i cs w → ChildrenCosts k h cs w
children_fewer p q (no_children g) = children_end (omega arith)
children_fewer p q (more_children {c = c} a b g x y) = children_more a b (omega arith) (child_fewer c a p x) (children_fewer p q y)

-- the budget of one merge, from that of two
pub once : {cs : List Child} {w : ℕ} → ChildrenCosts 36 28 cs w → ChildrenCosts 6 14 cs w
once g = children_fewer {k = 6} {l = 36} {h = 14} {i = 28} (omega arith) (omega arith) g

children_weaken : {cs : List Child} {k h v w : ℕ} → v ≤ w → ChildrenCosts k h cs v → ChildrenCosts k h cs w
children_weaken q (no_children g) = children_end (omega arith)
children_weaken q (more_children a b g x y) = children_more a b (omega arith) x y

flush_costs : (buf : Bytes) {cs : List Child} {k h v w : ℕ} → h + k * length buf + v ≤ w → ChildrenCosts k h cs v → ChildrenCosts k h (flush buf cs) w
unfolding flush ChildCosts
flush_costs [] q g = children_weaken (omega arith) g
flush_costs (b ∷ buf) {k = k} {v = v} q g = children_more (k * length (b ∷ buf)) v q (omega arith) g

-- what joins the run so far, six times as long at most as it was before
joined_run : (k x : ℕ) (buf b : Bytes) → length b ≤ 6 * x → k * length (buf ++ b) ≤ k * length buf + 6 * k * x
joined_run k x buf b h =
    let e : k * length (buf ++ b) ≡ k * length buf + k * length b = ap (λ (n : ℕ). k * n) (length-append buf b) ∙ mul-add k (length buf) (length b) in
    let f : 6 * k * x ≡ k * (6 * x) = ap (λ (n : ℕ). n * x) (mul_comm 6 k) ∙ mul_assoc k 6 x in
    omega (arith, mul-le-mul_left k h)

-- a run is flushed in front of what is kept, or at the end: so what is paid for each child is halved
kept_costs : (k h : ℕ) (buf : Bytes) (c : Child) {cs : List Child} {v w : ℕ} (a b : ℕ) → k * length buf + v ≤ w → 2 * h + a + b ≤ v → ChildCosts (6 * k) c a → ChildrenCosts k h cs b → ChildrenCosts k h (flush buf (c ∷ cs)) w
kept_costs k h buf c a b p q x y =
    let z : ChildrenCosts k h (c ∷ _) (h + a + b) = children_more a b (omega arith) (child_fewer c {l = 6 * k} a (omega arith) x) y in
    flush_costs buf (omega arith) z

merge_costs : (esc par : Bool) (k h : ℕ) (buf : Bytes) {cs : List Child} {v w : ℕ} → k * length buf + v ≤ w → ChildrenCosts (6 * k) (2 * h) cs v → ChildrenCosts k h (merge esc par buf cs) w
unfolding merge joined_text shape_size ChildCosts
merge_costs esc par k h buf {w = w} q (no_children g) = let z : ChildrenCosts k h [] h = children_end (omega arith) in flush_costs buf (omega arith) z
merge_costs esc par k h buf q (more_children {c = text t} {cs = cs} a b p x y) =
    let last = par && is_last cs in
    merge_costs esc par k h (buf ++ jsx_text_to_str t esc last) (omega (arith, joined_run k (length t) buf (jsx_text_to_str t esc last) (length_jsx_text t esc last))) y
merge_costs esc par k h buf q (more_children {c = empty} a b p x y) = merge_costs esc par k h buf (omega arith) y
merge_costs esc par k h buf q (more_children {c = container (string_shape s) m} a b p x y) =
    merge_costs esc par k h (buf ++ escape_html s) (omega (arith, x.0, joined_run k (6 * length s) buf (escape_html s) (omega (arith, length_escape_html s)))) y
merge_costs esc par k h buf q (more_children {c = container (number_shape n) m} a b p x y) =
    merge_costs esc par k h (buf ++ render n) (omega (arith, x.0, joined_run k (length (render n)) buf (render n) (omega arith))) y
merge_costs esc par k h buf q (more_children {c = container (boolean_shape s) m} a b p x y) = merge_costs esc par k h (buf ++ []) (omega (arith, x.0, joined_run k 0 buf [] (omega arith))) y
merge_costs esc par k h buf {w = w} q (more_children {c = container null_shape m} {cs = cs} a b p x y) = kept_costs k h buf (container null_shape m) a b q p x (merge_costs esc par k h [] {w = b} (omega arith) y)
merge_costs esc par k h buf {w = w} q (more_children {c = container literal_shape m} {cs = cs} a b p x y) = kept_costs k h buf (container literal_shape m) a b q p x (merge_costs esc par k h [] {w = b} (omega arith) y)
merge_costs esc par k h buf {w = w} q (more_children {c = container (minus_shape n) m} {cs = cs} a b p x y) = kept_costs k h buf (container (minus_shape n) m) a b q p x (merge_costs esc par k h [] {w = b} (omega arith) y)
merge_costs esc par k h buf {w = w} q (more_children {c = container other_shape m} {cs = cs} a b p x y) = kept_costs k h buf (container other_shape m) a b q p x (merge_costs esc par k h [] {w = b} (omega arith) y)
merge_costs esc par k h buf {w = w} q (more_children {c = element e} {cs = cs} a b p x y) = kept_costs k h buf (element e) a b q p x (merge_costs esc par k h [] {w = b} (omega arith) y)
merge_costs esc par k h buf {w = w} q (more_children {c = fragment f} {cs = cs} a b p x y) = kept_costs k h buf (fragment f) a b q p x (merge_costs esc par k h [] {w = b} (omega arith) y)
merge_costs esc par k h buf q (more_children {c = spread m} a b p x y) = merge_costs esc par k h buf (omega arith) y

short_costs : {k h : ℕ} {cs : List Child} {w : ℕ} → ChildrenCosts k h cs w → ChildrenCosts k h (short_runs cs) w
unfolding short_runs
short_costs (no_children g) = no_children g
short_costs {k = k} {h = h} {w = w} (more_children {c = text t} {cs = cs} a b p x y) = on (over t) (short_costs y)
  where
    on : (c : Bool) → ChildrenCosts k h (short_runs cs) b → ChildrenCosts k h (pick c (short_runs cs) (text t ∷ short_runs cs)) w
    on true z = children_weaken (omega arith) z
    on false z = children_more a b p x z
short_costs (more_children {c = empty} a b p x y) = children_more a b p x (short_costs y)
short_costs (more_children {c = container s m} a b p x y) = children_more a b p x (short_costs y)
short_costs (more_children {c = element e} a b p x y) = children_more a b p x (short_costs y)
short_costs (more_children {c = fragment f} a b p x y) = children_more a b p x (short_costs y)
short_costs (more_children {c = spread m} a b p x y) = children_more a b p x (short_costs y)

-- ---- children in a template

wrap_costs : (s : Shape) {m : Mid} {a w : ℕ} → 3 + a ≤ w → Costs m a → Costs (maybe_wrap s m) w
unfolding maybe_wrap
wrap_costs (string_shape b) {a = a} h x = costs_pick (same b (escape_html b)) (costs_weaken (omega arith) x) (costs_nest a h x)
wrap_costs (number_shape n) h x = costs_weaken (omega arith) x
wrap_costs (boolean_shape b) h x = costs_weaken (omega arith) x
wrap_costs null_shape h x = costs_weaken (omega arith) x
wrap_costs literal_shape h x = costs_weaken (omega arith) x
wrap_costs (minus_shape n) {a = a} h x = costs_nest a h x
wrap_costs other_shape {a = a} h x = costs_nest a h x

merged_costs : {cs : List Child} {w : ℕ} → ChildrenCosts 1 7 cs w → PartsCosts (merged_parts cs) w
unfolding merged_parts ChildCosts
merged_costs (no_children g) = no_parts
merged_costs (more_children {c = text t} a b p x y) = parts_chars b (omega arith) (merged_costs y)
merged_costs (more_children {c = empty} a b p x y) = parts_weaken (omega arith) (merged_costs y)
merged_costs (more_children {c = container s m} a b p x y) = parts_gap (3 + a) b (omega arith) (pure_costs (wrap_costs s (omega arith) x.1)) (merged_costs y)
merged_costs (more_children {c = element e} a b p x y) = parts_append (omega arith) x.in_parts (merged_costs y)
merged_costs (more_children {c = fragment f} a b p x y) = parts_append (omega arith) x.in_parts (merged_costs y)
merged_costs (more_children {c = spread m} a b p x y) = parts_weaken (omega arith) (merged_costs y)

string_costs : (par : Bool) {cs : List Child} {w : ℕ} → ChildrenCosts 6 14 cs w → PartsCosts (children_to_string par cs) w
unfolding children_to_string
string_costs par g = merged_costs (merge_costs true par 1 7 [] (omega arith) g)

-- ---- children in a call

stills_costs : {m : Mid} {w : ℕ} → Costs m w → EntriesCosts (stills m) w
unfolding stills
stills_costs none_costs = no_entries
stills_costs (node_costs {f = f} a b h x y) = entries_more (3 + length f + a) b (omega arith) (still_costs (costs_node a 0 (omega arith) x none_costs)) (stills_costs y)
stills_costs (raw_costs a b h x y) = entries_more a b h (still_costs (costs_raw a 0 (omega arith) x none_costs)) (stills_costs y)

found_of_costs : {m : Mid} {w : ℕ} → Costs m w → FoundCosts (found_of m) w
unfolding found_of
found_of_costs none_costs = nothing_costs
found_of_costs (node_costs {t = t} a b h x y) = found_pick (eqb t 0x76) (array_costs (stills_costs (costs_weaken (omega arith) x))) (found_still (node_costs a b h x y))
found_of_costs (raw_costs a b h x y) = found_still (raw_costs a b h x y)

sole_mid_costs : {m : Mid} {w : ℕ} → Costs m w → FoundCosts (sole_mid m) w
unfolding sole_mid
sole_mid_costs none_costs = nothing_costs
sole_mid_costs {w = w} (node_costs {t = t} a b h x y) =
    found_pick (eqb t 0x77) (found_of_costs (costs_weaken (omega arith) x))
    (found_pick (eqb t 0x78) (array_costs (entries_more w 0 (omega arith) (still_costs (node_costs a b h x y)) no_entries)) (found_of_costs (node_costs a b h x y)))
sole_mid_costs (raw_costs a b h x y) = found_still (raw_costs a b h x y)

sole_costs : {e : Entry} {w : ℕ} → EntryCosts e w → FoundCosts (sole e) w
unfolding sole
sole_costs (still_costs g) = sole_mid_costs g
sole_costs (passed_costs g) = one_costs (passed_costs g)

flattened_costs : {es : List Entry} {w : ℕ} → EntriesCosts es w → FoundCosts (flattened es) w
unfolding flattened
flattened_costs no_entries = array_costs no_entries
flattened_costs (more_entries a b h x no_entries) = sole_costs (entry_weaken (omega arith) x)
flattened_costs (more_entries a b h x (more_entries c d k y z)) = array_costs (more_entries a b h x (more_entries c d k y z))

entries_append : {es fs : List Entry} {a b w : ℕ} → a + b ≤ w → EntriesCosts es a → EntriesCosts fs b → EntriesCosts (es ++ fs) w
entries_append h no_entries y = entries_weaken (omega arith) y
entries_append {b = b} h (more_entries u v k x z) y = entries_more u (v + b) (omega arith) x (entries_append (omega arith) z y)

spliced_costs : {f : Found} {w : ℕ} → FoundCosts f w → EntriesCosts (spliced f) w
unfolding spliced
spliced_costs nothing_costs = no_entries
spliced_costs {w = w} (one_costs x) = entries_more w 0 (omega arith) x no_entries
spliced_costs (array_costs x) = x

entries_costs : {cs : List Child} {w : ℕ} → ChildrenCosts 6 14 cs w → EntriesCosts (entries cs) w
unfolding entries ChildCosts
entries_costs (no_children g) = no_entries
entries_costs (more_children {c = text t} a b p x y) = entries_more (14 + a) b p (still_costs (costs_alone (omega arith))) (entries_costs y)
entries_costs (more_children {c = empty} a b p x y) = entries_weaken (omega arith) (entries_costs y)
entries_costs (more_children {c = container s m} a b p x y) = entries_more a b (omega arith) (still_costs x.1) (entries_costs y)
entries_costs (more_children {c = element e} a b p x y) = entries_more a b (omega arith) (passed_costs x.serialized) (entries_costs y)
entries_costs (more_children {c = fragment f} a b p x y) = entries_append (omega arith) (spliced_costs x.found) (entries_costs y)
entries_costs (more_children {c = spread m} a b p x y) = entries_weaken (omega arith) (entries_costs y)

one_child_costs : (c : Child) (a : ℕ) {w : ℕ} → 3 + a ≤ w → ChildCosts 36 c a → FoundCosts (one_child c) w
unfolding one_child ChildCosts
one_child_costs (text t) a h g = found_still (costs_alone (omega (arith, length_jsx_text t false true)))
one_child_costs empty a h g = nothing_costs
one_child_costs (container s m) a h g = found_weaken (omega arith) (found_of_costs g.1)
one_child_costs (element e) a h g = found_passed (pass_weaken (omega arith) g.serialized)
one_child_costs (fragment f) a h g = found_weaken (omega arith) g.found
one_child_costs (spread m) a h g = nothing_costs

-- merged once for an array, twice for a template
many_costs : (cs : List Child) (c : ℕ) → ChildrenCosts 36 28 cs c → FoundCosts (many_children cs) (20 + c)
unfolding many_children choose
many_costs cs c g = on (becomes_template cs) (merge_costs false false 6 14 [] (omega arith) g)
  where
    on : (b : Bool) → ChildrenCosts 6 14 (merge false false [] cs) c →
        FoundCosts (choose b (λ _. one_found (passed (raise (long_if (long_run (merge false false [] cs))) (gen_template (children_to_string false (short_runs (merge false false [] cs))))))) λ _. flattened (entries (merge false false [] cs))) (20 + c)
    on true x = found_passed (raise_costs (long_if (long_run (merge false false [] cs))) (template_costs (string_costs false (short_costs x))))
    on false x = found_weaken (omega arith) (flattened_costs (entries_costs x))

expr_costs : (cs : List Child) (c : ℕ) → ChildrenCosts 36 28 cs c → FoundCosts (children_to_expr cs) (20 + c)
unfolding children_to_expr
expr_costs [] w g = nothing_costs
expr_costs (c ∷ []) w (more_children a b p x y) = one_child_costs c a (omega arith) x
expr_costs (c ∷ c' ∷ cs) w g = many_costs (c ∷ c' ∷ cs) w g

-- ---- calls

entry_pass_costs : {e : Entry} {w : ℕ} → EntryCosts e w → PassCosts w (entry_pass e)
unfolding entry_pass
entry_pass_costs (still_costs g) = pure_costs g
entry_pass_costs (passed_costs g) = g

entries_pass_costs : {es : List Entry} {w : ℕ} → EntriesCosts es w → PassCosts w (entries_pass es)
unfolding entries_pass
entries_pass_costs no_entries = pure_costs none_costs
entries_pass_costs (more_entries a b h x y) = pass_weaken h (both_costs (entry_pass_costs x) (entries_pass_costs y))

found_pass_costs : {f : Found} {v w : ℕ} → 3 + v ≤ w → FoundCosts f v → PassCosts w (found_pass f)
unfolding found_pass
found_pass_costs h nothing_costs = pure_costs none_costs
found_pass_costs h (one_costs x) = pass_weaken (omega arith) (entry_pass_costs x)
found_pass_costs h (array_costs x) = pass_weaken h (map_costs array_node 3 (λ m w c. costs_nest w (omega arith) c) (entries_pass_costs x))

-- a name without the headers of its fields, a member's excepted
unfoldable pub members_size : List Bytes → ℕ
members_size [] = 0
members_size (n ∷ ns) = 3 + length n + members_size ns

unfoldable pub name_size : Name → ℕ
name_size (identifier n) = length n
name_size (member ns) = members_size ns
name_size (namespaced n m) = suc (length n + length m)

members_costs : (ns : List Bytes) → Costs (members_row ns) (members_size ns)
unfolding members_row members_size
members_costs [] = none_costs
members_costs (n ∷ ns) = costs_leaf (members_size ns) (omega arith) (members_costs ns)

name_costs : (n : Name) → Costs (name_expr n) (3 + name_size n)
unfolding name_expr name_size
name_costs (identifier n) = costs_pick (first_upper n) (costs_alone (omega arith)) (costs_alone (omega arith))
name_costs (member ns) = costs_nest (members_size ns) (omega arith) (members_costs ns)
name_costs (namespaced n m) = costs_alone (omega (arith, length-append n (58 ∷ m)))

children_prop_costs : {m : Mid} {v w : ℕ} → 14 + v ≤ w → Costs m v → Costs (children_prop m) w
unfolding children_prop
children_prop_costs h none_costs = none_costs
children_prop_costs {v = v} h (node_costs a b k x y) = named_costs v h (node_costs a b k x y)
children_prop_costs {v = v} h (raw_costs a b k x y) = named_costs v h (raw_costs a b k x y)

props_node_costs : {m : Mid} {v w : ℕ} → 3 + v ≤ w → Costs m v → Costs (props_node m) w
unfolding props_node
props_node_costs h none_costs = costs_alone (omega arith)
props_node_costs {v = v} h (node_costs a b k x y) = costs_nest v h (node_costs a b k x y)
props_node_costs {v = v} h (raw_costs a b k x y) = costs_nest v h (raw_costs a b k x y)

call_costs : (n : Name) {as' : List Attribute} {a : ℕ} → AttributesCosts as' a → (m : Mid) (w : ℕ) → Costs m w → Costs (call_node n as' m) (23 + name_size n + a + w)
unfolding call_node
call_costs n {as'} {a} g m w c =
    let norm = not (is_component n) in
    let k = in_call norm {w = a} (omega arith) g (none_costs {w = 0}) in
    let props_behind : Costs (props_of norm as' +++ children_prop m) (k.props_cost + (14 + w)) = costs_append (omega arith) k.props (children_prop_costs {w = 14 + w} (omega arith) c) in
    let wrapped : Costs (props_node (props_of norm as' +++ children_prop m)) (17 + k.props_cost + w) = props_node_costs (omega arith) props_behind in
    let arguments : Costs (props_node (props_of norm as' +++ children_prop m) +++ key_of norm as' none) (17 + a + w) = costs_append (omega (arith, k.within)) wrapped k.key in
    costs_nest (20 + name_size n + a + w) (omega arith) (costs_append (omega arith) (name_costs n) arguments)

to_call_costs : (n : Name) {as' : List Attribute} (cs : List Child) {w : ℕ} (a c : ℕ) → 46 + name_size n + a + c ≤ w → AttributesCosts as' a → ChildrenCosts 36 28 cs c → PassCosts w (to_call_expr n as' cs)
unfolding to_call_expr
to_call_costs n {as'} cs a c h x y = pass_weaken (omega arith) (map_costs (call_node n as') (23 + name_size n + a) (call_costs n x) (found_pass_costs {w = 23 + c} (omega arith) (expr_costs cs c y)))

-- ---- elements and fragments

open_close_costs : (o : Options) (n : Bytes) {as' : List Attribute} {cs : List Child} {w : ℕ} (a c : ℕ) → 5 + 7 * length n + a + c ≤ w → AttributesCosts as' a → ChildrenCosts 36 28 cs c → PartsCosts (open_close o n as' cs) w
unfolding open_close
open_close_costs o n {as'} {cs} a c h x y =
    let closing : PartsCosts (chars (60 ∷ 47 ∷ (n ++ (62 ∷ []))) ∷ []) (3 + length n) = text_parts (omega (arith, length-append n (62 ∷ []))) in
    let inner : PartsCosts (children_to_string true cs ++ (chars (60 ∷ 47 ∷ (n ++ (62 ∷ []))) ∷ [])) (3 + length n + c) = parts_append (omega arith) (string_costs true (once y)) closing in
    parts_mark
    (parts_chars (a + (4 + length n + c)) (omega (arith, length_escape_html n))
    (parts_append {b = 4 + length n + c} (omega arith) (attrs_costs o x) (parts_chars (3 + length n + c) (omega arith) (parts_pick (is_void_element n) no_parts inner))))

call_parts : {p : Pass Mid} {a w : ℕ} → 4 + a ≤ w → PassCosts a p → PartsCosts (gap p ∷ []) w
call_parts {a = a} h g = parts_gap a 0 (omega arith) g no_parts

-- an element as a child, whichever way its parent takes it
pub element_costs : (o : Options) (n : Name) (as' : List Attribute) (cs : List Child) {w : ℕ} (a c : ℕ) → 50 + 7 * name_size n + a + c ≤ w → AttributesCosts as' a → ChildrenCosts 36 28 cs c → ElementCosts w (element_of o n as' cs)
unfolding element_of serialize_jsx element_to_string_vec is_serializable name_size choose
element_costs o (identifier n) as' cs {w} a c h x y = record { in_parts = parts (is_serializable o (identifier n) as'); serialized = pass (is_serializable o (identifier n) as') }
  where
    call : PassCosts (46 + 7 * length n + a + c) (to_call_expr (identifier n) as' cs)
    call = to_call_costs (identifier n) cs a c (omega arith) x y

    written : PartsCosts (open_close o n as' cs) (5 + 7 * length n + a + c)
    written = open_close_costs o n a c (omega arith) x y

    parts : (b : Bool) → PartsCosts (choose b (λ _. open_close o n as' cs) λ _. gap (to_call_expr (identifier n) as' cs) ∷ []) w
    parts true = parts_weaken (omega arith) written
    parts false = call_parts (omega arith) call

    pass : (b : Bool) → PassCosts w (choose b (λ _. gen_template (choose b (λ _. open_close o n as' cs) λ _. gap (to_call_expr (identifier n) as' cs) ∷ [])) λ _. to_call_expr (identifier n) as' cs)
    pass true = pass_weaken (omega arith) (template_costs written)
    pass false = pass_weaken (omega arith) call
element_costs o (member ns) as' cs {w} a c h x y =
    let call : PassCosts (46 + members_size ns + a + c) (to_call_expr (member ns) as' cs) = to_call_costs (member ns) cs a c (omega arith) x y in
    record { in_parts = call_parts (omega arith) call; serialized = pass_weaken (omega arith) call }
element_costs o (namespaced n m) as' cs {w} a c h x y =
    let call : PassCosts (47 + length n + length m + a + c) (to_call_expr (namespaced n m) as' cs) = to_call_costs (namespaced n m) cs a c (omega arith) x y in
    record { in_parts = call_parts (omega arith) call; serialized = pass_weaken (omega arith) call }

pub fragment_costs : (cs : List Child) {w : ℕ} (c : ℕ) → 20 + c ≤ w → ChildrenCosts 36 28 cs c → FragmentCosts w (fragment_of cs)
unfolding fragment_of
fragment_costs cs c h y = record { in_parts = parts_weaken (omega arith) (string_costs false (once y)); found = found_weaken h (expr_costs cs c y) }

-- ---- visits

pub element_raw_costs : {e : Element} {w : ℕ} → 3 ≤ w → ElementCosts w e → RawCosts w (element_raw e)
unfolding element_raw
element_raw_costs h g = record { left_costs = h; visits_cost = after_costs g.serialized }

visit_found_costs : {f : Found} {v w : ℕ} → 3 + v ≤ w → FoundCosts f v → (n : ℕ) → written_size (visit_found f n) ≤ w
unfolding visit_found
visit_found_costs h nothing_costs n = leave_costs (omega arith) n
visit_found_costs h (one_costs x) n = after_costs (found_pass_costs h (one_costs x)) n
visit_found_costs h (array_costs x) n = after_costs (found_pass_costs h (array_costs x)) n

template_visit : {cs : List Child} {w : ℕ} (c : ℕ) → 20 + c ≤ w → ChildrenCosts 36 28 cs c → (n : ℕ) → written_size (visit_after (gen_template (children_to_string false cs)) n) ≤ w
template_visit c h y n = after_costs (pass_weaken h (template_costs (string_costs false (once y)))) n

visit_only_costs : (x : Child) {w : ℕ} (c : ℕ) → 20 + c ≤ w → ChildrenCosts 36 28 (x ∷ []) c → (n : ℕ) → written_size (visit_only_child x n) ≤ w
unfolding visit_only_child ChildCosts
visit_only_costs (text t) c h y n = template_visit c h y n
visit_only_costs empty c h y n = template_visit c h y n
visit_only_costs (container s m) c h y n = template_visit c h y n
visit_only_costs (element e) c h (more_children a b p x y) n = after_costs (pass_weaken (omega arith) x.serialized) n
visit_only_costs (fragment f) c h (more_children a b p x y) n = visit_found_costs (omega arith) x.found n
visit_only_costs (spread m) c h y n = leave_costs (omega arith) n

visit_fragment_costs : (cs : List Child) {w : ℕ} (c : ℕ) → 20 + c ≤ w → ChildrenCosts 36 28 cs c → (n : ℕ) → written_size (visit_fragment cs n) ≤ w
unfolding visit_fragment
visit_fragment_costs [] c h y n = null_costs n (omega arith)
visit_fragment_costs (x ∷ []) c h y n = visit_only_costs x c h y n
visit_fragment_costs (x ∷ x' ∷ cs) c h y n = template_visit c h y n

pub fragment_raw_costs : (cs : List Child) {w : ℕ} (c : ℕ) → 20 + c ≤ w → ChildrenCosts 36 28 cs c → RawCosts w (visit_fragment cs)
fragment_raw_costs cs c h y = record { left_costs = omega arith; visits_cost = visit_fragment_costs cs c h y }
