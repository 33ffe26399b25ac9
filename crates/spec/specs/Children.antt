-- Children in a template and in a call, elements either way: the serializing functions of 000. Assumes nothing: these are definitions.
use Rattle.std.specs.Prelude.{Bool, true, false, not, List, [], ◌∷◌, ◌++◌, eqb}
use Rattle.field.specs.Bytes.{Bytes, ascii, pick, same}
use Rattle.text.specs.Escape.{escape_html}
use Rattle.text.specs.Text.{jsx_text_to_str}
use Rattle.names.specs.Names.{is_void_element}
use Rattle.page.specs.Page.{Name, identifier, member, namespaced, Options}
use Rattle.page.specs.Tree.{choose}
use Rattle.spec.specs.Pass.{Pass, pure, map, both, raise, long_if, Mid, none, node, raw, ◌+++◌, Part, chars, gap, mark}
use Rattle.spec.specs.Output.{leaf, string_node, null_node, escape_node, prop_node, array_node, gen_template}
use Rattle.spec.specs.Merge.{Shape, string_shape, number_shape, boolean_shape, null_shape, literal_shape, minus_shape, other_shape, Entry, still, passed, Found, nothing_found, one_found, array_found, Element, Child, text, empty, container, element, fragment, spread, merge, long_run, short_runs, becomes_template}
use Rattle.spec.specs.Attributes.{Attribute, is_serializable, attrs_parts, is_component, props_of, key_of, first_upper, tag_flags}

-- ---- in a template

-- maybe_wrap_with_jsx_escape_call
unfoldable pub maybe_wrap : Shape → Mid → Mid
maybe_wrap (string_shape b) m = pick (same b (escape_html b)) m (escape_node m)
maybe_wrap (number_shape n) m = m
maybe_wrap (boolean_shape b) m = m
maybe_wrap null_shape m = m
maybe_wrap literal_shape m = m
maybe_wrap (minus_shape n) m = escape_node m
maybe_wrap other_shape m = escape_node m

-- serialize_jsx_children_to_string, its loop over the merged children
unfoldable pub merged_parts : List Child → List Part
merged_parts [] = []
merged_parts (text t ∷ cs) = chars t ∷ merged_parts cs
merged_parts (empty ∷ cs) = merged_parts cs
merged_parts (container s m ∷ cs) = gap (pure (maybe_wrap s m)) ∷ merged_parts cs
merged_parts (element e ∷ cs) = e.to_string_vec ++ merged_parts cs
merged_parts (fragment f ∷ cs) = f.to_string ++ merged_parts cs
merged_parts (spread m ∷ cs) = merged_parts cs

-- serialize_jsx_children_to_string
unfoldable pub children_to_string : Bool → List Child → List Part
children_to_string parent cs = merged_parts (merge true parent [] cs)

-- serialize_jsx
unfoldable pub serialize_jsx : Element → Pass Mid
serialize_jsx e = choose e.serializable (λ _. gen_template e.to_string_vec) λ _. e.to_call_expr

-- ---- in a call: serialize_jsx_children_to_expr

-- the elements of an array literal
unfoldable pub stills : Mid → List Entry
stills none = []
stills (node t f i r) = still (node t f i none) ∷ stills r
stills (raw t r) = still (raw t none) ∷ stills r

-- an expression that stands: an array is told apart, since a fragment's array is spliced into its parent's
unfoldable pub found_of : Mid → Found
found_of none = nothing_found
found_of (node t f i r) = pick (eqb t 0x76) (array_found (stills i)) (one_found (still (node t f i r)))
found_of (raw t r) = one_found (still (raw t r))

-- what an array of one element is flattened to: a spread is dropped, a hole stays in its array
unfoldable pub sole_mid : Mid → Found
sole_mid none = nothing_found
sole_mid (node t f i r) = pick (eqb t 0x77) (found_of i) (pick (eqb t 0x78) (array_found (still (node t f i r) ∷ [])) (found_of (node t f i r)))
sole_mid (raw t r) = one_found (still (raw t r))

unfoldable pub sole : Entry → Found
sole (still m) = sole_mid m
sole (passed p) = one_found (passed p)

unfoldable pub flattened : List Entry → Found
flattened [] = array_found []
flattened (e ∷ []) = sole e
flattened (e ∷ e' ∷ es) = array_found (e ∷ e' ∷ es)

-- what a fragment adds to the elements of its parent
unfoldable pub spliced : Found → List Entry
spliced nothing_found = []
spliced (one_found e) = e ∷ []
spliced (array_found es) = es

-- the elements of merged children
unfoldable pub entries : List Child → List Entry
entries [] = []
entries (text t ∷ cs) = still (string_node t) ∷ entries cs
entries (empty ∷ cs) = entries cs
entries (container s m ∷ cs) = still m ∷ entries cs
entries (element e ∷ cs) = passed (serialize_jsx e) ∷ entries cs
entries (fragment f ∷ cs) = spliced f.to_expr ++ entries cs
entries (spread m ∷ cs) = entries cs

-- the only child is not merged
unfoldable pub one_child : Child → Found
one_child (text t) = one_found (still (string_node (jsx_text_to_str t false true)))
one_child empty = nothing_found
one_child (container s m) = found_of m
one_child (element e) = one_found (passed (serialize_jsx e))
one_child (fragment f) = f.to_expr
one_child (spread m) = nothing_found

-- several children: one template of them, merged a second time, or an array
unfoldable pub many_children : List Child → Found
many_children cs =
    choose (becomes_template cs)
    (λ _. one_found (passed (raise (long_if (long_run (merge false false [] cs))) (gen_template (children_to_string false (short_runs (merge false false [] cs)))))))
    λ _. flattened (entries (merge false false [] cs))

unfoldable pub children_to_expr : List Child → Found
children_to_expr [] = nothing_found
children_to_expr (c ∷ []) = one_child c
children_to_expr (c ∷ c' ∷ cs) = many_children (c ∷ c' ∷ cs)

-- ---- serialize_jsx_to_call_expr

unfoldable pub entry_pass : Entry → Pass Mid
entry_pass (still m) = pure m
entry_pass (passed p) = p

unfoldable pub entries_pass : List Entry → Pass Mid
entries_pass [] = pure none
entries_pass (e ∷ es) = both ◌+++◌ (entry_pass e) (entries_pass es)

-- an expression, or none
unfoldable pub found_pass : Found → Pass Mid
found_pass nothing_found = pure none
found_pass (one_found e) = entry_pass e
found_pass (array_found es) = map array_node (entries_pass es)

-- the `children` property, where there is a value for it
unfoldable pub children_prop : Mid → Mid
children_prop none = none
children_prop (node t f i r) = prop_node (ascii "children") (node t f i r)
children_prop (raw t r) = prop_node (ascii "children") (raw t r)

-- null for no property
unfoldable pub props_node : Mid → Mid
props_node none = null_node
props_node (node t f i r) = node 0x95 [] (node t f i r) none
props_node (raw t r) = node 0x95 [] (raw t r) none

unfoldable pub members_row : List Bytes → Mid
members_row [] = none
members_row (n ∷ ns) = node 0x40 n none (members_row ns)

-- the first argument: a string for a tag, a component's name else
unfoldable pub name_expr : Name → Mid
name_expr (identifier n) = pick (first_upper n) (leaf 0x40 n) (leaf 0x81 n)
name_expr (member ns) = node 0x41 [] (members_row ns) none
name_expr (namespaced n m) = leaf 0x81 (n ++ (58 ∷ m))

-- 94: the name, the properties, the key or nothing
unfoldable pub call_node : Name → List Attribute → Mid → Mid
call_node n as' children =
    let norm = not (is_component n) in
    node 0x94 [] (name_expr n +++ (props_node (props_of norm as' +++ children_prop children) +++ key_of norm as' none)) none

unfoldable pub to_call_expr : Name → List Attribute → List Child → Pass Mid
to_call_expr n as' cs = map (call_node n as') (found_pass (children_to_expr cs))

-- ---- serialize_jsx_element_to_string_vec

-- a serializable element of that name, with what is found of it
unfoldable pub open_close : Options → Bytes → List Attribute → List Child → List Part
open_close o n as' cs =
    mark (tag_flags n as') ∷
    chars (60 ∷ escape_html n) ∷
    (attrs_parts o as' ++ (chars (62 ∷ []) ∷
    pick (is_void_element n) [] (children_to_string true cs ++ (chars (60 ∷ 47 ∷ (n ++ (62 ∷ []))) ∷ []))))

unfoldable pub element_to_string_vec : Options → Name → List Attribute → List Child → List Part
element_to_string_vec o (identifier n) as' cs =
    choose (is_serializable o (identifier n) as') (λ _. open_close o n as' cs) λ _. gap (to_call_expr (identifier n) as' cs) ∷ []
element_to_string_vec o (member ns) as' cs = gap (to_call_expr (member ns) as' cs) ∷ []
element_to_string_vec o (namespaced n m) as' cs = gap (to_call_expr (namespaced n m) as' cs) ∷ []
