-- What children record. In a template only elements and fragments do, whichever way texts and containers were merged; in a call again only
-- these, each by a pass of its own. Main statements: `parts_within`, `twice_within`, `merged_called`, `found_only`, `found_array`,
-- `found_template`, `element_call`, `element_inner`. Assumes nothing.
use mathlib.Core.Path.{◌≡◌, refl, sym, ap, ◌∙◌, subst}
use Prim.Native.Nat.{ℕ}
use native.Mathlib.Omega.{arith}
use mathlib.Core.List.{List, [], ◌∷◌, ◌++◌, append-nil}
use mathlib.Core.Bool.{Bool, true, false, ◌||◌}
use lib.Dec.{T, eqb}
use Rattle.field.specs.Bytes.{Bytes, ascii, pick, same, among}
use Rattle.names.specs.Names.{is_void_element, get_attr_name, is_boolean_attr}
use Rattle.page.specs.Page.{Name, identifier, member, namespaced, Options}
use Rattle.page.specs.Tree.{choose}
use Rattle.spec.specs.Pass.{Pass, pure, raise, long_if, Mid, none, node, raw, Part, chars, gap, over}
use Rattle.spec.specs.Output.{dynamic_exprs, gen_template, array_node}
use Rattle.spec.specs.Merge.{Shape, string_shape, number_shape, boolean_shape, null_shape, literal_shape, minus_shape, other_shape, Entry, still, passed, Found, nothing_found, one_found, array_found, Element, Fragment, Child, text, empty, container, element, fragment, spread, flush, joined_text, merge, long_run, short_runs, becomes_template}
use Rattle.spec.specs.Attributes as A
use Rattle.spec.specs.Attributes.{Attribute, Value, is_serializable, listed_attr, dynamic_attr, container_attr, plain_attr, attr_parts, attrs_parts}
use Rattle.spec.specs.Children.{merged_parts, children_to_string, serialize_jsx, stills, found_of, sole_mid, sole, flattened, spliced, entries, one_child, many_children, children_to_expr, entry_pass, entries_pass, found_pass, call_node, to_call_expr, open_close, element_to_string_vec}
use Rattle.decisions.specs.declared.children.Count.{Count}
use Rattle.decisions.specs.declared.children.Count.TheVariants.{Zero, One, More}
use Rattle.decisions.specs.At.{identifier_bytes}
use Rattle.records.specs.Keep.{Kept, at, keep, write, write_runs, bumped}
use Rattle.records.proofs.KeepLaws.{keep_pure, keep_map, keep_template, keep_gap, keep_entry, parts_append, entries_append}

-- ---- what merging leaves

module _
    (P : List Child → List Child → Type 0)
    (nil : P [] [])
    (run : (b : Bytes) (ms cs : List Child) → P ms cs → P (text b ∷ ms) cs)
    (skip_text : (t : Bytes) (ms cs : List Child) → P ms cs → P ms (text t ∷ cs))
    (skip_empty : (ms cs : List Child) → P ms cs → P ms (empty ∷ cs))
    (skip_container : (s : Shape) (m : Mid) (ms cs : List Child) → P ms cs → P ms (container s m ∷ cs))
    (skip_spread : (m : Mid) (ms cs : List Child) → P ms cs → P ms (spread m ∷ cs))
    (this_container : (s : Shape) (m : Mid) (ms cs : List Child) → P ms cs → P (container s m ∷ ms) (container s m ∷ cs))
    (this_element : (e : Element) (ms cs : List Child) → P ms cs → P (element e ∷ ms) (element e ∷ cs))
    (this_fragment : (f : Fragment) (ms cs : List Child) → P ms cs → P (fragment f ∷ ms) (fragment f ∷ cs)) where
  flushed : (buf : Bytes) (ms cs : List Child) → P ms cs → P (flush buf ms) cs
  unfolding flush
  flushed [] ms cs p = p
  flushed (b ∷ buf) ms cs p = run (b ∷ buf) ms cs p

  -- texts become runs, containers join them or stay
  pub by_merge : (esc par : Bool) (buf : Bytes) (cs : List Child) → P (merge esc par buf cs) cs
  unfolding merge joined_text
  by_merge esc par buf [] = flushed buf [] [] nil
  by_merge esc par buf (text t ∷ cs) = skip_text t _ cs (by_merge esc par _ cs)
  by_merge esc par buf (empty ∷ cs) = skip_empty _ cs (by_merge esc par buf cs)
  by_merge esc par buf (container (string_shape b) m ∷ cs) = skip_container _ m _ cs (by_merge esc par _ cs)
  by_merge esc par buf (container (number_shape n) m ∷ cs) = skip_container _ m _ cs (by_merge esc par _ cs)
  by_merge esc par buf (container (boolean_shape b) m ∷ cs) = skip_container _ m _ cs (by_merge esc par _ cs)
  by_merge esc par buf (container null_shape m ∷ cs) = flushed buf _ _ (this_container _ m _ cs (by_merge esc par [] cs))
  by_merge esc par buf (container literal_shape m ∷ cs) = flushed buf _ _ (this_container _ m _ cs (by_merge esc par [] cs))
  by_merge esc par buf (container (minus_shape n) m ∷ cs) = flushed buf _ _ (this_container _ m _ cs (by_merge esc par [] cs))
  by_merge esc par buf (container other_shape m ∷ cs) = flushed buf _ _ (this_container _ m _ cs (by_merge esc par [] cs))
  by_merge esc par buf (element e ∷ cs) = flushed buf _ _ (this_element e _ cs (by_merge esc par [] cs))
  by_merge esc par buf (fragment f ∷ cs) = flushed buf _ _ (this_fragment f _ cs (by_merge esc par [] cs))
  by_merge esc par buf (spread m ∷ cs) = skip_spread m _ cs (by_merge esc par buf cs)

-- ---- in a template

-- the parts that record something
unfoldable pub within : List Child → List Part
within [] = []
within (text t ∷ cs) = within cs
within (empty ∷ cs) = within cs
within (container s m ∷ cs) = within cs
within (element e ∷ cs) = e.to_string_vec ++ within cs
within (fragment f ∷ cs) = f.to_string ++ within cs
within (spread m ∷ cs) = within cs

-- parts that record the same
abbrev Alike : List Part → List Part → Type 0
Alike ps qs = (w : Kept) → keep (dynamic_exprs ps) w ≡ keep (dynamic_exprs qs) w

alike_behind : (ps qs rs : List Part) → Alike qs rs → Alike (ps ++ qs) (ps ++ rs)
alike_behind ps qs rs h w = parts_append ps qs w ∙ h (keep (dynamic_exprs ps) w) ∙ sym (parts_append ps rs w)

merged_within : (esc par : Bool) (buf : Bytes) (cs : List Child) → Alike (merged_parts (merge esc par buf cs)) (within cs)
unfolding merged_parts within dynamic_exprs
merged_within =
    by_merge (λ ms cs. Alike (merged_parts ms) (within cs)) (λ w. refl) (λ b ms cs h. h) (λ t ms cs h. h) (λ ms cs h. h) (λ s m ms cs h. h) (λ m ms cs h. h)
    (λ s m ms cs h w. keep_gap _ (merged_parts ms) w ∙ ap (keep (dynamic_exprs (merged_parts ms))) (keep_pure _ w) ∙ h w)
    (λ e ms cs h. alike_behind e.to_string_vec (merged_parts ms) (within cs) h) λ f ms cs h. alike_behind f.to_string (merged_parts ms) (within cs) h

within_merge : (esc par : Bool) (buf : Bytes) (cs : List Child) → within (merge esc par buf cs) ≡ within cs
unfolding within
within_merge =
    by_merge (λ ms cs. within ms ≡ within cs) refl (λ b ms cs h. h) (λ t ms cs h. h) (λ ms cs h. h) (λ s m ms cs h. h) (λ m ms cs h. h) (λ s m ms cs h. h)
    (λ e ms cs h. ap (λ (x : List Part). e.to_string_vec ++ x) h) λ f ms cs h. ap (λ (x : List Part). f.to_string ++ x) h

within_short : (cs : List Child) → within (short_runs cs) ≡ within cs
unfolding within short_runs
within_short [] = refl
within_short (text t ∷ cs) = on (over t) ∙ within_short cs
  where
    on : (b : Bool) → within (pick b (short_runs cs) (text t ∷ short_runs cs)) ≡ within (short_runs cs)
    on true = refl
    on false = refl
within_short (empty ∷ cs) = within_short cs
within_short (container s m ∷ cs) = within_short cs
within_short (element e ∷ cs) = ap (λ (x : List Part). e.to_string_vec ++ x) (within_short cs)
within_short (fragment f ∷ cs) = ap (λ (x : List Part). f.to_string ++ x) (within_short cs)
within_short (spread m ∷ cs) = within_short cs

-- merged once, at the end of a parent or not
pub parts_within : (par : Bool) (cs : List Child) (w : Kept) → keep (dynamic_exprs (children_to_string par cs)) w ≡ keep (dynamic_exprs (within cs)) w
unfolding children_to_string
parts_within par cs w = merged_within true par [] cs w

-- merged twice
pub twice_within : (cs : List Child) (w : Kept) → keep (dynamic_exprs (children_to_string false (short_runs (merge false false [] cs)))) w ≡ keep (dynamic_exprs (within cs)) w
twice_within cs w =
    parts_within false (short_runs (merge false false [] cs)) w
    ∙ ap (λ (ps : List Part). keep (dynamic_exprs ps) w) (within_short (merge false false [] cs) ∙ within_merge false false [] cs)

-- ---- in a call

-- the entries that record something
unfoldable pub called : List Child → List Entry
called [] = []
called (text t ∷ cs) = called cs
called (empty ∷ cs) = called cs
called (container s m ∷ cs) = called cs
called (element e ∷ cs) = passed (serialize_jsx e) ∷ called cs
called (fragment f ∷ cs) = spliced f.to_expr ++ called cs
called (spread m ∷ cs) = called cs

keep_still : (m : Mid) (es : List Entry) (w : Kept) → keep (entries_pass (still m ∷ es)) w ≡ keep (entries_pass es) w
unfolding entry_pass
keep_still m es w = keep_entry (still m) es w ∙ ap (keep (entries_pass es)) (keep_pure m w)

pub merged_called : (esc par : Bool) (buf : Bytes) (cs : List Child) (w : Kept) → keep (entries_pass (entries (merge esc par buf cs))) w ≡ keep (entries_pass (called cs)) w
unfolding entries called
merged_called =
    by_merge (λ ms cs. (w : Kept) → keep (entries_pass (entries ms)) w ≡ keep (entries_pass (called cs)) w) (λ w. refl) (λ b ms cs h w. keep_still _ (entries ms) w ∙ h w)
    (λ t ms cs h. h) (λ ms cs h. h) (λ s m ms cs h. h) (λ m ms cs h. h) (λ s m ms cs h w. keep_still m (entries ms) w ∙ h w)
    (λ e ms cs h w. keep_entry (passed (serialize_jsx e)) (entries ms) w ∙ h (keep (entry_pass (passed (serialize_jsx e))) w) ∙ sym (keep_entry (passed (serialize_jsx e)) (called cs) w))
    λ f ms cs h w. entries_append (spliced f.to_expr) (entries ms) w ∙ h (keep (entries_pass (spliced f.to_expr)) w) ∙ sym (entries_append (spliced f.to_expr) (called cs) w)

-- expressions that stand record nothing
stills_nothing : (m : Mid) (w : Kept) → keep (entries_pass (stills m)) w ≡ w
unfolding stills entries_pass
stills_nothing none w = keep_pure none w
stills_nothing (node t f i r) w = keep_still _ (stills r) w ∙ stills_nothing r w
stills_nothing (raw t r) w = keep_still _ (stills r) w ∙ stills_nothing r w

one_still : (m : Mid) (w : Kept) → keep (found_pass (one_found (still m))) w ≡ w
unfolding found_pass entry_pass
one_still m w = keep_pure m w

array_of : (es : List Entry) (w : Kept) → keep (found_pass (array_found es)) w ≡ keep (entries_pass es) w
unfolding found_pass
array_of es w = keep_map array_node (entries_pass es) w

nothing_of : (w : Kept) → keep (found_pass nothing_found) w ≡ w
unfolding found_pass
nothing_of w = keep_pure none w

found_pick : (b : Bool) (f g : Found) (w : Kept) → keep (found_pass f) w ≡ w → keep (found_pass g) w ≡ w → keep (found_pass (pick b f g)) w ≡ w
found_pick true f g w p q = p
found_pick false f g w p q = q

found_of_nothing : (m : Mid) (w : Kept) → keep (found_pass (found_of m)) w ≡ w
unfolding found_of
found_of_nothing none w = nothing_of w
found_of_nothing (node t f i r) w = found_pick (eqb t 0x76) (array_found (stills i)) (one_found (still (node t f i r))) w (array_of (stills i) w ∙ stills_nothing i w) (one_still (node t f i r) w)
found_of_nothing (raw t r) w = one_still (raw t r) w

sole_nothing : (m : Mid) (w : Kept) → keep (found_pass (sole_mid m)) w ≡ w
unfolding sole_mid entries_pass
sole_nothing none w = nothing_of w
sole_nothing (node t f i r) w =
    found_pick (eqb t 0x77) (found_of i) (pick (eqb t 0x78) (array_found (still (node t f i r) ∷ [])) (found_of (node t f i r))) w (found_of_nothing i w)
    (found_pick (eqb t 0x78) (array_found (still (node t f i r) ∷ [])) (found_of (node t f i r)) w (array_of (still (node t f i r) ∷ []) w ∙ keep_still (node t f i r) [] w ∙ keep_pure none w) (found_of_nothing (node t f i r) w))
sole_nothing (raw t r) w = one_still (raw t r) w

one_passed : (p : Pass Mid) (w : Kept) → keep (found_pass (one_found (passed p))) w ≡ keep p w
unfolding found_pass entry_pass
one_passed p w = refl

pub entries_one : (p : Pass Mid) (w : Kept) → keep (entries_pass (passed p ∷ [])) w ≡ keep p w
unfolding entries_pass entry_pass
entries_one p w = keep_entry (passed p) [] w ∙ keep_pure none (keep p w)

entries_still : (m : Mid) (w : Kept) → keep (entries_pass (still m ∷ [])) w ≡ w
unfolding entries_pass
entries_still m w = keep_still m [] w ∙ keep_pure none w

flattened_found : (es : List Entry) (w : Kept) → keep (found_pass (flattened es)) w ≡ keep (entries_pass es) w
unfolding flattened sole
flattened_found [] w = array_of [] w
flattened_found (still m ∷ []) w = sole_nothing m w ∙ sym (entries_still m w)
flattened_found (passed p ∷ []) w = one_passed p w ∙ sym (entries_one p w)
flattened_found (e ∷ e' ∷ es) w = array_of (e ∷ e' ∷ es) w

-- what a fragment adds to its parent records what the fragment records
pub spliced_found : (f : Found) (w : Kept) → keep (entries_pass (spliced f)) w ≡ keep (found_pass f) w
unfolding spliced entries_pass
spliced_found nothing_found w = keep_pure none w ∙ sym (nothing_of w)
spliced_found (one_found (still m)) w = entries_still m w ∙ sym (one_still m w)
spliced_found (one_found (passed p)) w = entries_one p w ∙ sym (one_passed p w)
spliced_found (array_found es) w = sym (array_of es w)

called_none : (w : Kept) → keep (entries_pass []) w ≡ w
unfolding entries_pass
called_none w = keep_pure none w

found_one : (c : Child) (w : Kept) → keep (found_pass (one_child c)) w ≡ keep (entries_pass (called (c ∷ []))) w
unfolding one_child called
found_one (text t) w = one_still _ w ∙ sym (called_none w)
found_one empty w = nothing_of w ∙ sym (called_none w)
found_one (container s m) w = found_of_nothing m w ∙ sym (called_none w)
found_one (element e) w = one_passed (serialize_jsx e) w ∙ sym (entries_one (serialize_jsx e) w)
found_one (fragment f) w = sym (ap (λ (es : List Entry). keep (entries_pass es) w) (append-nil (spliced f.to_expr)) ∙ spliced_found f.to_expr w)
found_one (spread m) w = nothing_of w ∙ sym (called_none w)

-- none, one, or more
unfoldable pub few_of : List Child → Count
few_of [] = Zero
few_of (c ∷ []) = One
few_of (c ∷ c' ∷ cs) = More

abbrev pub how_many : Count → ℕ
how_many Zero = 0
how_many One = 1
how_many More = 2

pub found_none : (cs : List Child) → few_of cs ≡ Zero → (w : Kept) → keep (found_pass (children_to_expr cs)) w ≡ w
unfolding few_of children_to_expr
found_none [] h w = nothing_of w
found_none (c ∷ []) h w = absurd (omega (arith, ap how_many h))
found_none (c ∷ c' ∷ cs) h w = absurd (omega (arith, ap how_many h))

-- the only child, whatever it is, and one that records nothing
pub found_only : (c : Child) (cs : List Child) → few_of (c ∷ cs) ≡ One → children_to_expr (c ∷ cs) ≡ one_child c
unfolding few_of children_to_expr
found_only c [] h = refl
found_only c (c' ∷ cs) h = absurd (omega (arith, ap how_many h))

pub found_silent : (c : Child) → called (c ∷ []) ≡ [] → (w : Kept) → keep (found_pass (one_child c)) w ≡ w
found_silent c h w = found_one c w ∙ ap (λ (es : List Entry). keep (entries_pass es) w) h ∙ called_none w

module _ (cs : List Child) (w : Kept) where
  many : few_of cs ≡ More → children_to_expr cs ≡ many_children cs
  unfolding few_of children_to_expr
  many = go cs
    where
      go : (xs : List Child) → few_of xs ≡ More → children_to_expr xs ≡ many_children xs
      go [] h = absurd (omega (arith, ap how_many h))
      go (c ∷ []) h = absurd (omega (arith, ap how_many h))
      go (c ∷ c' ∷ xs) h = refl

  -- several children as an array
  pub found_array : few_of cs ≡ More → becomes_template cs ≡ false → keep (found_pass (children_to_expr cs)) w ≡ keep (entries_pass (called cs)) w
  unfolding many_children choose
  found_array n h =
      let e : many_children cs ≡ flattened (entries (merge false false [] cs)) = rw h in
      ap (λ (f : Found). keep (found_pass f) w) (many n ∙ e) ∙ flattened_found (entries (merge false false [] cs)) w ∙ merged_called false false [] cs w

  -- and as one template
  pub found_template : few_of cs ≡ More → becomes_template cs ≡ true → keep (found_pass (children_to_expr cs)) w
      ≡ write_runs w.st.next cs (keep (dynamic_exprs (children_to_string false cs)) (at w.out (bumped w.st)))
  unfolding many_children choose
  found_template n h =
      let m = merge false false [] cs in
      let p = raise (long_if (long_run m)) (gen_template (children_to_string false (short_runs m))) in
      let e : many_children cs ≡ one_found (passed p) = rw h in
      let b = at w.out (bumped w.st) in
      ap (λ (f : Found). keep (found_pass f) w) (many n ∙ e) ∙ one_passed p w ∙ keep_template (long_run m) (children_to_string false (short_runs m)) w
      ∙ ap (write w.st.next (long_run m) (children_to_string false (short_runs m))) (twice_within cs b ∙ sym (parts_within false cs b))

-- ---- an element

abbrev Quiet : List Part → Type 0
Quiet ps = (w : Kept) → keep (dynamic_exprs ps) w ≡ w

quiet_chars : (b : Bytes) → Quiet (chars b ∷ [])
unfolding dynamic_exprs
quiet_chars b w = keep_pure none w

quiet_none : Quiet []
unfolding dynamic_exprs
quiet_none w = keep_pure none w

quiet_gap : (b : Bytes) (m : Mid) → Quiet (chars b ∷ gap (pure m) ∷ [])
unfolding dynamic_exprs
quiet_gap b m w = keep_gap (pure m) [] w ∙ keep_pure none (keep (pure m) w) ∙ keep_pure m w

quiet_pick : (b : Bool) (ps qs : List Part) → Quiet ps → Quiet qs → Quiet (pick b ps qs)
quiet_pick true ps qs p q = p
quiet_pick false ps qs p q = q

quiet_dynamic : (n : Bytes) (m : Mid) → Quiet (dynamic_attr n m)
unfolding dynamic_attr
quiet_dynamic n m = quiet_pick (is_boolean_attr n) _ _ (quiet_gap _ _) (quiet_gap _ _)

quiet_container : (n : Bytes) (s : Shape) (m : Mid) → Quiet (container_attr n s m)
unfolding container_attr
quiet_container n (string_shape b) m = quiet_chars _
quiet_container n (number_shape k) m = quiet_chars _
quiet_container n (boolean_shape b) m = quiet_pick (is_boolean_attr n) _ _ (quiet_pick b _ _ (quiet_chars _) quiet_none) (quiet_dynamic n m)
quiet_container n null_shape m = quiet_dynamic n m
quiet_container n literal_shape m = quiet_dynamic n m
quiet_container n (minus_shape k) m = quiet_chars _
quiet_container n other_shape m = quiet_dynamic n m

quiet_plain : (n : Bytes) (v : Value) → Quiet (plain_attr n v)
unfolding plain_attr
quiet_plain n A.absent = quiet_pick (is_boolean_attr n) _ _ (quiet_chars _) (quiet_gap _ _)
quiet_plain n (A.string b) = quiet_pick (same n (ascii "key") || same n (ascii "ref")) _ _ (quiet_gap _ _) (quiet_chars _)
quiet_plain n A.empty = quiet_none
quiet_plain n (A.container s m) = quiet_container n s m
quiet_plain n (A.tag r) = quiet_none

quiet_listed : (n : Bytes) (v : Value) → Quiet (listed_attr n v)
unfolding listed_attr
quiet_listed n A.absent = quiet_gap _ _
quiet_listed n (A.string b) = quiet_gap _ _
quiet_listed n A.empty = quiet_gap _ _
quiet_listed n (A.container s m) = quiet_gap _ _
quiet_listed n (A.tag r) = quiet_gap _ _

module _ (o : Options) where
  quiet_attr : (a : Attribute) → Quiet (attr_parts o a)
  unfolding attr_parts
  quiet_attr (A.attribute n v) = quiet_pick (among (get_attr_name n false) o.skip_prop_serialize) _ _ (quiet_listed _ v) (quiet_plain _ v)
  quiet_attr (A.spread m) = quiet_none

  -- attributes record nothing
  quiet_attrs : (as' : List Attribute) → Quiet (attrs_parts o as')
  unfolding attrs_parts
  quiet_attrs [] w = quiet_none w
  quiet_attrs (a ∷ as') w = parts_append (attr_parts o a) (attrs_parts o as') w ∙ ap (keep (dynamic_exprs (attrs_parts o as'))) (quiet_attr a w) ∙ quiet_attrs as' w

  module _ (as' : List Attribute) (cs : List Child) (w : Kept) where
    keep_call : (n : Name) → keep (to_call_expr n as' cs) w ≡ keep (found_pass (children_to_expr cs)) w
    unfolding to_call_expr
    keep_call n = keep_map (call_node n as') (found_pass (children_to_expr cs)) w

    gap_call : (n : Name) → keep (dynamic_exprs (gap (to_call_expr n as' cs) ∷ [])) w ≡ keep (found_pass (children_to_expr cs)) w
    unfolding dynamic_exprs
    gap_call n = keep_gap (to_call_expr n as' cs) [] w ∙ keep_pure none (keep (to_call_expr n as' cs) w) ∙ keep_call n

    -- an element that is no HTML records what its children record in a call
    pub element_call : (n : Name) → is_serializable o n as' ≡ false → keep (dynamic_exprs (element_to_string_vec o n as' cs)) w ≡ keep (found_pass (children_to_expr cs)) w
    unfolding element_to_string_vec choose
    element_call (identifier n) h = rw h (gap_call (identifier n))
    element_call (member ns) h = gap_call (member ns)
    element_call (namespaced n m) h = gap_call (namespaced n m)

    -- any other what its children record in its template; a void one nothing
    around : (n : Bytes) → keep (dynamic_exprs (open_close o n as' cs)) w ≡ keep (dynamic_exprs (pick (is_void_element n) [] (children_to_string false cs))) w
    unfolding open_close dynamic_exprs
    around n =
        parts_append (attrs_parts o as') (chars (62 ∷ []) ∷ pick (is_void_element n) [] (children_to_string true cs ++ (chars (60 ∷ 47 ∷ (n ++ (62 ∷ []))) ∷ []))) w
        ∙ ap (keep (dynamic_exprs (pick (is_void_element n) [] (children_to_string true cs ++ (chars (60 ∷ 47 ∷ (n ++ (62 ∷ []))) ∷ []))))) (quiet_attrs as' w) ∙ on (is_void_element n)
      where
        on : (b : Bool) → keep (dynamic_exprs (pick b [] (children_to_string true cs ++ (chars (60 ∷ 47 ∷ (n ++ (62 ∷ []))) ∷ [])))) w ≡ keep (dynamic_exprs (pick b [] (children_to_string false cs))) w
        on true = refl
        on false = parts_append (children_to_string true cs) (chars (60 ∷ 47 ∷ (n ++ (62 ∷ []))) ∷ []) w ∙ keep_pure none (keep (dynamic_exprs (children_to_string true cs)) w) ∙ parts_within true cs w ∙ sym (parts_within false cs w)

    pub element_inner : (n : Name) → is_serializable o n as' ≡ true → keep (dynamic_exprs (element_to_string_vec o n as' cs)) w ≡ keep (dynamic_exprs (pick (is_void_element (identifier_bytes n)) [] (children_to_string false cs))) w
    unfolding element_to_string_vec choose is_serializable
    element_inner (identifier n) h = rw h (around n)
    element_inner (member ns) h = absurd (subst T (sym h) tt)
    element_inner (namespaced n m) h = absurd (subst T (sym h) tt)
