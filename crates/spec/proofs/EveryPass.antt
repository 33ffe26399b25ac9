-- Every pass of the transform keeps an invariant: one lemma for each of 000's functions, over children and attributes that keep it.
-- Main statements: `element_ok`, `fragment_ok`, `element_visits`, `fragment_visits`. Assumes nothing.
use Prim.Native.Nat.{ℕ, ◌+◌}
use native.Mathlib.Omega.{arith}
use mathlib.Core.Path.{◌≡◌, refl}
use mathlib.Core.Bool.{Bool, true, false, ◌&&◌, ◌||◌, not}
use mathlib.Core.List.{List, [], ◌∷◌, ◌++◌}
use lib.Dec.{T, eqb}
use Rattle.std.proofs.Math.Facts.{or_no}
use Rattle.page.proofs.Booleans.{or_left, or_right}
use Rattle.field.specs.Bytes.{Bytes, ascii, pick, same, among}
use Rattle.field.specs.Row.{inside}
use Rattle.text.specs.Escape.{escape_html}
use Rattle.text.specs.Text.{normalize_lit_str}
use Rattle.page.specs.Number.{render}
use Rattle.names.specs.Names.{get_attr_name, is_void_element, is_boolean_attr}
use Rattle.page.specs.Tree.{choose}
use Rattle.page.specs.Page.{Name, identifier, member, namespaced, Options}
use Rattle.spec.specs.Pass.{Pass, pure, map, raise, long_if, Mid, none, node, raw, ◌+++◌, Part, chars, gap, mark, over}
use Rattle.spec.specs.Output.{leaf, array_node, gen_template}
use Rattle.spec.specs.Merge.{Shape, string_shape, number_shape, boolean_shape, null_shape, literal_shape, minus_shape, other_shape, Entry, still, passed, Found, nothing_found, one_found, array_found, Element, Fragment, Child, text, empty, container, element, fragment, spread, flush, joined_text, merge, long_run, short_runs, becomes_template}
use Rattle.spec.specs.Attributes as A
use Rattle.spec.specs.Attributes.{Value, Attribute, first_upper, keeps_from_serializing, is_serializable, serialize_attr, attr_gap, listed_attr, dynamic_attr, container_attr, plain_attr, attr_parts, attrs_parts, is_component, prop_of, props_of, key_from, key_of, tag_flags}
use Rattle.spec.specs.Children.{maybe_wrap, merged_parts, children_to_string, serialize_jsx, stills, found_of, sole_mid, sole, flattened, spliced, entries, one_child, many_children, children_to_expr, entry_pass, entries_pass, found_pass, children_prop, props_node, members_row, name_expr, call_node, to_call_expr, open_close, element_to_string_vec}
use Rattle.spec.specs.Visit.{visit_after, leave, visit_found, visit_only_child, visit_fragment}
use Rattle.spec.specs.Transform.{element_of, fragment_of, element_raw}
use Rattle.spec.specs.Kept.{is_tag, has_value, listed, reads_key, key_follows, is_void, own_flags}
use Rattle.spec.proofs.Nested.{escape_free, boolean_free, attr_free}
use Rattle.spec.proofs.Good.{FormedBy, OneNode}
use Rattle.spec.proofs.Invariant.{Split, Alone, AloneField, plain, Invariant}
use Rattle.spec.proofs.Shapes.{chosen, and_right, is_text, Items, is_bare, FreeTexts, free_nil, merge_free}

module _ (I : Invariant) where
  open I use {literal, other, own, tag, Spare, Left, NameOk, MidOk, PassOk, Content, Opening, VisitOk, spare_sum, spare_none, spare_tag, mid_spare, pass_spare, content_spare, visit_spare, mid_none, mid_node, mid_literal, mid_other, mid_raw, mid_append, mid_nothing, mid_inner, mid_field, mid_tag, pass_pure, pass_both, pass_map, pass_raise, pass_template, content_none, content_text, content_gap, content_append, content_void, content_element, opening_none, opening_text, opening_gap, opening_append, visit_done, visit_any, visit_left, visit_null}

  -- ---- what holds of children and attributes

  unfoldable pub EntryOk : Entry → ℕ → Type 0
  EntryOk (still m) w = MidOk 0 m w × Alone m × Items m
  EntryOk (passed p) w = PassOk p w × ((n : ℕ) → AloneField (p n).value)

  unfoldable pub EntriesOk : List Entry → ℕ → Type 0
  EntriesOk [] w = Spare w
  EntriesOk (e ∷ es) w = Split Spare (EntryOk e) (EntriesOk es) w

  unfoldable pub FoundOk : Found → ℕ → Type 0
  FoundOk nothing_found w = Spare w
  FoundOk (one_found e) w = EntryOk e w
  FoundOk (array_found es) w = EntriesOk es w

  -- an expression in a container
  pub record ExprOk (s : Shape) (m : Mid) (w : ℕ) : Type 0 where
    pub held : MidOk 0 m w
    pub alone : Alone m
    pub bare : T (is_bare s) → AloneField m
    pub items : Items m
    pub texts : T (is_text s) → Spare w

  pub record ElementOk (e : Element) (w : ℕ) : Type 0 where
    pub parts : Content e.to_string_vec w
    pub serialized : PassOk (serialize_jsx e) w
    pub alone : (n : ℕ) → AloneField (serialize_jsx e n).value

  pub record FragmentOk (f : Fragment) (w : ℕ) : Type 0 where
    pub left : Left
    pub parts : Content f.to_string w
    pub found : FoundOk f.to_expr w

  unfoldable pub ChildOk : Child → ℕ → Type 0
  ChildOk (text t) w = Spare w
  ChildOk empty w = Spare w
  ChildOk (container s m) w = ExprOk s m w
  ChildOk (element e) w = ElementOk e w
  ChildOk (fragment f) w = FragmentOk f w
  ChildOk (spread m) w = Spare w

  unfoldable pub ChildrenOk : List Child → ℕ → Type 0
  ChildrenOk [] w = Spare w
  ChildrenOk (c ∷ cs) w = Split Spare (ChildOk c) (ChildrenOk cs) w

  unfoldable pub ValueOk : Value → ℕ → Type 0
  ValueOk A.absent w = Spare w
  ValueOk (A.string b) w = Spare w
  ValueOk A.empty w = Spare w
  ValueOk (A.container s m) w = ExprOk s m w
  ValueOk (A.tag r) w = VisitOk r w

  -- an attribute in front of others: what it adds in an opening tag and in a call, unless it is lost there
  pub record Attached (One : ℕ → Type 0) (Rest : ℕ → ℕ → Type 0) (lost_opening lost_call : Bool) (v w : ℕ) : Type 0 where
    pub own : ℕ
    pub opening : ℕ
    pub call : ℕ
    pub opening_spared : ℕ
    pub call_spared : ℕ
    pub holds : One own
    pub rest : Rest opening call
    pub opening_spare : Spare opening_spared
    pub call_spare : Spare call_spared
    pub in_opening : pick lost_opening 0 own + opening + opening_spared ≡ v
    pub in_call : pick lost_call 0 own + call + call_spared ≡ w

  unfoldable pub AttributesOk : Options → Bool → List Attribute → ℕ → ℕ → Type 0
  AttributesOk o norm [] v w = Spare v × Spare w
  AttributesOk o norm (A.attribute n x ∷ as') v w = Attached (ValueOk x) (AttributesOk o norm as') (not (listed o n) && is_tag x) (is_tag x || (reads_key norm n && key_follows norm as')) v w
  AttributesOk o norm (A.spread m ∷ as') v w = Attached (MidOk 0 m) (AttributesOk o norm as') false false v w

  -- ---- weights

  pub split : {P Q : ℕ → Type 0} {w : ℕ} (a b : ℕ) → a + b ≡ w → P a → Q b → Split Spare P Q w
  split a b e x y = record { first = a; second = b; spared = 0; sum = omega (arith, e); spare = spare_none; one = x; rest = y }

  -- the same share for another rest
  again : {P Q R : ℕ → Type 0} {w : ℕ} (g : Split Spare P Q w) → R g.second → Split Spare P R w
  again g y = record { first = g.first; second = g.second; spared = g.spared; sum = g.sum; spare = g.spare; one = g.one; rest = y }

  more : {P Q R S : ℕ → Type 0} {w : ℕ} (g : Split Spare P Q w) → R g.first → S g.second → Split Spare R S w
  more g x y = record { first = g.first; second = g.second; spared = g.spared; sum = g.sum; spare = g.spare; one = x; rest = y }

  spared_more : {P Q : ℕ → Type 0} {a b w : ℕ} → a + b ≡ w → Spare a → Split Spare P Q b → Split Spare P Q w
  spared_more {a = a} e s g = record { first = g.first; second = g.second; spared = a + g.spared; sum = omega (arith, e, g.sum); spare = spare_sum refl s g.spare; one = g.one; rest = g.rest }

  -- all for the rest, where the first may be spared; all for the first
  lighter : {P Q : ℕ → Type 0} {w : ℕ} → ((a b c : ℕ) → a + b ≡ c → Spare a → Q b → Q c) → (g : Split Spare P Q w) → Spare g.first → Q w
  lighter q g s = q (g.first + g.spared) g.second _ (omega (arith, g.sum)) (spare_sum refl s g.spare) g.rest

  only : {P Q : ℕ → Type 0} {w : ℕ} → ((a b c : ℕ) → a + b ≡ c → Spare a → P b → P c) → (g : Split Spare P Q w) → Spare g.second → P w
  only p g s = p (g.second + g.spared) g.first _ (omega (arith, g.sum)) (spare_sum refl s g.spare) g.one

  entry_spare : (e : Entry) (a b w : ℕ) → a + b ≡ w → Spare a → EntryOk e b → EntryOk e w
  unfolding EntryOk
  entry_spare (still m) a b w e s g = (mid_spare e s g.0, g.1, g.2)
  entry_spare (passed p) a b w e s g = (pass_spare e s g.0, g.1)

  entries_spare : (es : List Entry) (a b w : ℕ) → a + b ≡ w → Spare a → EntriesOk es b → EntriesOk es w
  unfolding EntriesOk
  entries_spare [] a b w e s g = spare_sum e s g
  entries_spare (x ∷ es) a b w e s g = spared_more e s g

  found_spare : (f : Found) (a b w : ℕ) → a + b ≡ w → Spare a → FoundOk f b → FoundOk f w
  unfolding FoundOk
  found_spare nothing_found a b w e s g = spare_sum e s g
  found_spare (one_found x) a b w e s g = entry_spare x a b w e s g
  found_spare (array_found es) a b w e s g = entries_spare es a b w e s g

  pub child_spare : (c : Child) (a b w : ℕ) → a + b ≡ w → Spare a → ChildOk c b → ChildOk c w
  unfolding ChildOk
  child_spare (text t) a b w e s g = spare_sum e s g
  child_spare empty a b w e s g = spare_sum e s g
  child_spare (container h m) a b w e s g = record { held = mid_spare e s g.held; alone = g.alone; bare = g.bare; items = g.items; texts = λ t. spare_sum e s (g.texts t) }
  child_spare (element x) a b w e s g = record { parts = content_spare e s g.parts; serialized = pass_spare e s g.serialized; alone = g.alone }
  child_spare (fragment f) a b w e s g = record { left = g.left; parts = content_spare e s g.parts; found = found_spare f.to_expr a b w e s g.found }
  child_spare (spread m) a b w e s g = spare_sum e s g

  children_spare : (cs : List Child) (a b w : ℕ) → a + b ≡ w → Spare a → ChildrenOk cs b → ChildrenOk cs w
  unfolding ChildrenOk
  children_spare [] a b w e s g = spare_sum e s g
  children_spare (c ∷ cs) a b w e s g = spared_more e s g

  -- ---- fields

  none_ok : {w : ℕ} → Spare w → MidOk 0 none w
  none_ok {w} s = mid_spare {a = w} (omega arith) s mid_none

  leaf_ok : (t : ℕ) (f : Bytes) → T (plain t) → FormedBy (inside t) f none → MidOk 0 (leaf t f) 0
  leaf_ok t f h g = mid_node t f h g (omega arith) (omega arith) mid_none mid_none

  nest_ok : (t : ℕ) {i : Mid} {k w : ℕ} → T (plain t) → FormedBy (inside t) [] i → MidOk k i w → MidOk k (node t [] i none) w
  nest_ok t h g x = mid_node t [] h g (omega arith) (omega arith) x mid_none

  -- a field that holds nothing, in front of others
  before_ok : (t : ℕ) (f : Bytes) {r : Mid} {k w : ℕ} → T (plain t) → FormedBy (inside t) f none → MidOk k r w → MidOk k (node t f none r) w
  before_ok t f h g x = mid_node t f h g (omega arith) (omega arith) mid_none x

  string_leaf : (b : Bytes) → MidOk 0 (leaf 0x70 b) 0
  unfolding FormedBy inside
  string_leaf b = leaf_ok 0x70 b tt tt

  null_leaf : MidOk 0 (leaf 0x73 []) 0
  unfolding FormedBy inside
  null_leaf = leaf_ok 0x73 [] tt tt

  true_leaf : MidOk 0 (leaf 0x72 (1 ∷ [])) 0
  unfolding FormedBy inside
  true_leaf = leaf_ok 0x72 (1 ∷ []) tt tt

  attr_ok : (n : Bytes) {m : Mid} {k w : ℕ} → MidOk k m w → MidOk k (node 0x91 [] (node 0x81 n none m) none) w
  unfolding FormedBy inside
  attr_ok n x = nest_ok 0x91 tt tt (before_ok 0x81 n tt tt x)

  prop_ok : (n : Bytes) {m : Mid} {k w : ℕ} → MidOk k m w → MidOk k (node 0x96 [] (node 0x81 n none m) none) w
  unfolding FormedBy inside
  prop_ok n x = nest_ok 0x96 tt tt (before_ok 0x81 n tt tt x)

  -- ---- attributes in an opening tag

  attr_gap_ok : (n : Bytes) {m : Mid} {w : ℕ} → MidOk 0 m w → Opening (attr_gap n m) w
  unfolding pure OneNode
  attr_gap_ok n x = opening_gap (pass_pure (attr_ok n x)) λ k. refl

  attr_leaf_ok : (n : Bytes) {m : Mid} {w : ℕ} → Spare w → MidOk 0 m 0 → Opening (attr_gap n m) w
  attr_leaf_ok n {w = w} s x = attr_gap_ok n (mid_spare {a = w} (omega arith) s x)

  dynamic_ok : (n : Bytes) {m : Mid} {w : ℕ} → MidOk 0 m w → Opening (dynamic_attr n m) w
  unfolding dynamic_attr pure OneNode FormedBy inside
  dynamic_ok n {m} {w} x = chosen (λ ps. Opening ps w) (is_boolean_attr n) (λ _. opening_gap (pass_pure (nest_ok 0x93 tt tt (mid_append (omega arith) (omega arith) x (leaf_ok 0x81 n tt tt)))) λ k. refl) (attr_gap_ok n x)

  listed_ok : (n : Bytes) (x : Value) (w : ℕ) → ValueOk x w → Opening (listed_attr n x) w
  unfolding listed_attr ValueOk
  listed_ok n A.absent w g = attr_leaf_ok n g true_leaf
  listed_ok n (A.string b) w g = attr_leaf_ok n g (string_leaf b)
  listed_ok n A.empty w g = attr_leaf_ok n g null_leaf
  listed_ok n (A.container s m) w g = attr_gap_ok n g.held
  listed_ok n (A.tag r) w g = attr_gap_ok n (mid_raw {b = 0} (omega arith) g mid_none)

  written_ok : (n b : Bytes) {w : ℕ} → Spare w → Opening (chars (serialize_attr n b) ∷ []) w
  unfolding serialize_attr
  written_ok n b s = opening_text _ s (attr_free n b _ refl)

  boolean_ok : (n : Bytes) (b : Bool) {m : Mid} {w : ℕ} → Spare w → MidOk 0 m w → Opening (pick (is_boolean_attr n) (pick b (chars (32 ∷ n) ∷ []) []) (dynamic_attr n m)) w
  boolean_ok n b {m} {w} s x = on (is_boolean_attr n) refl
    where
      on : (c : Bool) → is_boolean_attr n ≡ c → Opening (pick c (pick b (chars (32 ∷ n) ∷ []) []) (dynamic_attr n m)) w
      on true e = chosen (λ ps. Opening ps w) b (λ _. opening_text n s (boolean_free n e)) (opening_none s)
      on false e = dynamic_ok n x

  container_ok : (n : Bytes) (s : Shape) {m : Mid} {w : ℕ} → ExprOk s m w → Opening (container_attr n s m) w
  unfolding container_attr is_text
  container_ok n (string_shape b) g = written_ok n b (g.texts tt)
  container_ok n (number_shape k) g = written_ok n (render k) (g.texts tt)
  container_ok n (boolean_shape b) g = boolean_ok n b (g.texts tt) g.held
  container_ok n null_shape g = dynamic_ok n g.held
  container_ok n literal_shape g = dynamic_ok n g.held
  container_ok n (minus_shape k) g = written_ok n (45 ∷ render k) (g.texts tt)
  container_ok n other_shape g = dynamic_ok n g.held

  plain_ok : (n : Bytes) (x : Value) (w : ℕ) → ValueOk x w → Opening (plain_attr n x) (pick (is_tag x) 0 w)
  unfolding plain_attr ValueOk
  plain_ok n A.absent w g = chosen (λ ps. Opening ps w) (is_boolean_attr n) (λ _. opening_text (escape_html n) g (escape_free n)) (attr_leaf_ok n g true_leaf)
  plain_ok n (A.string b) w g = chosen (λ ps. Opening ps w) (same n (ascii "key") || same n (ascii "ref")) (λ _. attr_leaf_ok n g (string_leaf b)) (written_ok n b g)
  plain_ok n A.empty w g = opening_none g
  plain_ok n (A.container s m) w g = container_ok n s g
  plain_ok n (A.tag r) w g = opening_none spare_none

  attrs_ok : (o : Options) (norm : Bool) (as' : List Attribute) (v w : ℕ) → AttributesOk o norm as' v w → T (not (keeps_from_serializing as')) → Opening (attrs_parts o as') v
  unfolding attrs_parts attr_parts AttributesOk keeps_from_serializing
  attrs_ok o norm [] v w g h = opening_none g.0
  attrs_ok o norm (A.attribute n x ∷ as') v w g h =
      opening_append g.in_opening g.opening_spare (on (listed o n))
      (attrs_ok o norm as' g.opening g.call g.rest (or_no (same (get_attr_name n false) (ascii "dangerouslySetInnerHTML")) (keeps_from_serializing as') h).1)
    where
      on : (b : Bool) → Opening (pick b (listed_attr (get_attr_name n false) x) (plain_attr (get_attr_name n true) x)) (pick (not b && is_tag x) 0 g.own)
      on true = listed_ok (get_attr_name n false) x g.own g.holds
      on false = plain_ok (get_attr_name n true) x g.own g.holds
  attrs_ok o norm (A.spread m ∷ as') v w g h = absurd h

  -- ---- attributes in a call

  -- what one attribute adds to the properties, and the key that it leaves: `later` says whether a later one is taken
  record OneInCall (n : Bytes) (x : Value) (key : Mid) (later : Bool) (own before : ℕ) : Type 0 where
    prop_weight : ℕ
    key_weight : ℕ
    spared : ℕ
    prop : MidOk 0 (prop_of n x) prop_weight
    left : MidOk 0 (pick (same n (ascii "key")) (key_from x key) key) key_weight
    spare : Spare spared
    balance : prop_weight + pick later 0 key_weight + spared ≡ pick (is_tag x || (same n (ascii "key") && later)) 0 own + pick ((same n (ascii "key") && has_value x) || later) 0 before

  one_in_call : (n : Bytes) (x : Value) (key : Mid) (later : Bool) (w k : ℕ) → ValueOk x w → MidOk 0 key k → OneInCall n x key later w k
  unfolding prop_of key_from ValueOk
  one_in_call n x key later w k g h = on x (same n (ascii "key")) refl g
    where
      -- either way
      way : (Q : Bool → Type 0) → Q true → Q false → Q later
      way Q y z = elim later as Q [ true ↦ y | false ↦ z ]

      unless_later : Spare w → Spare (pick later 0 w)
      unless_later s = way (λ b. Spare (pick b 0 w)) spare_none s

      true_prop : MidOk 0 (node 0x96 [] (node 0x81 n none (leaf 0x72 (1 ∷ []))) none) 0
      true_prop = prop_ok n true_leaf

      text_ok : (b : Bytes) → MidOk 0 (leaf 0x70 (normalize_lit_str b)) 0
      text_ok b = string_leaf (normalize_lit_str b)

      on : (x : Value) (b : Bool) → same n (ascii "key") ≡ b → ValueOk x w → OneInCall n x key later w k
      on A.absent true e g = record { prop_weight = 0; key_weight = k; spared = pick later 0 w; prop = true_prop; left = rw e h; spare = unless_later g; balance = rw e (omega arith) }
      on A.absent false e g = record { prop_weight = 0; key_weight = k; spared = w; prop = true_prop; left = rw e h; spare = g; balance = rw e (omega arith) }
      on (A.string b) true e g = record { prop_weight = 0; key_weight = 0; spared = pick later 0 w; prop = rw e mid_none; left = rw e (text_ok b); spare = unless_later g; balance = rw e (way (λ b. 0 + pick b 0 0 + pick b 0 w ≡ pick b 0 w + 0) (omega arith) (omega arith)) }
      on (A.string b) false e g = record { prop_weight = 0; key_weight = k; spared = w; prop = rw e (prop_ok n (text_ok b)); left = rw e h; spare = g; balance = rw e (omega arith) }
      on A.empty true e g = record { prop_weight = 0; key_weight = 0; spared = pick later 0 w; prop = mid_none; left = rw e mid_none; spare = unless_later g; balance = rw e (way (λ b. 0 + pick b 0 0 + pick b 0 w ≡ pick b 0 w + 0) (omega arith) (omega arith)) }
      on A.empty false e g = record { prop_weight = 0; key_weight = k; spared = w; prop = mid_none; left = rw e h; spare = g; balance = rw e (omega arith) }
      on (A.container s m) true e g = record { prop_weight = 0; key_weight = w; spared = 0; prop = rw e mid_none; left = rw e g.held; spare = spare_none; balance = rw e (omega arith) }
      on (A.container s m) false e g = record { prop_weight = w; key_weight = k; spared = 0; prop = rw e (prop_ok n g.held); left = rw e h; spare = spare_none; balance = rw e (omega arith) }
      on (A.tag r) true e g = record { prop_weight = 0; key_weight = 0; spared = 0; prop = mid_none; left = rw e mid_none; spare = spare_none; balance = rw e (way (λ b. 0 + pick b 0 0 + 0 ≡ 0 + 0) (omega arith) (omega arith)) }
      on (A.tag r) false e g = record { prop_weight = 0; key_weight = k; spared = 0; prop = mid_none; left = rw e h; spare = spare_none; balance = rw e (omega arith) }

  -- the properties and the key share what the attributes weigh
  in_call_ok : (o : Options) (norm : Bool) (as' : List Attribute) (v w : ℕ) → AttributesOk o norm as' v w → (key : Mid) (k : ℕ) → MidOk 0 key k →
      Split Spare (MidOk 0 (props_of norm as')) (MidOk 0 (key_of norm as' key)) (w + pick (key_follows norm as') 0 k)
  unfolding props_of key_of key_follows AttributesOk FormedBy inside
  in_call_ok o norm [] v w g key k x = record { first = 0; second = k; spared = w; sum = omega arith; spare = g.1; one = mid_none; rest = x }
  in_call_ok o norm (A.attribute n y ∷ as') v w g key k x =
      let one = one_in_call (get_attr_name n norm) y key (key_follows norm as') g.own k g.holds x in
      let more = in_call_ok o norm as' g.opening g.call g.rest (pick (same (get_attr_name n norm) (ascii "key")) (key_from y key) key) one.key_weight one.left in
      record {
        first = one.prop_weight + more.first;
        second = more.second;
        spared = one.spared + more.spared + g.call_spared;
        sum = omega (arith, one.balance, more.sum, g.in_call);
        spare = spare_sum refl (spare_sum refl one.spare more.spare) g.call_spare;
        one = mid_append (omega arith) refl one.prop more.one;
        rest = more.rest;
      }
  in_call_ok o norm (A.spread m ∷ as') v w g key k x =
      let more = in_call_ok o norm as' g.opening g.call g.rest key k x in
      record {
        first = g.own + more.first;
        second = more.second;
        spared = more.spared + g.call_spared;
        sum = omega (arith, more.sum, g.in_call);
        spare = spare_sum refl more.spare g.call_spare;
        one = mid_node 0x53 [] tt tt (omega arith) refl g.holds more.one;
        rest = more.rest;
      }

  -- ---- merging

  flush_ok : (buf : Bytes) (cs : List Child) (w : ℕ) → ChildrenOk cs w → ChildrenOk (flush buf cs) w
  unfolding flush ChildrenOk ChildOk
  flush_ok [] cs w g = g
  flush_ok (b ∷ buf) cs w g = split 0 w (omega arith) spare_none g

  merge_ok : (esc par : Bool) (buf : Bytes) (cs : List Child) (w : ℕ) → ChildrenOk cs w → ChildrenOk (merge esc par buf cs) w
  unfolding merge joined_text is_text ChildrenOk ChildOk
  merge_ok esc par buf [] w g = flush_ok buf [] w g
  merge_ok esc par buf (text t ∷ cs) w g = merge_ok esc par _ cs w (lighter (children_spare cs) g g.one)
  merge_ok esc par buf (empty ∷ cs) w g = merge_ok esc par buf cs w (lighter (children_spare cs) g g.one)
  merge_ok esc par buf (container s m ∷ cs) w g = on s g.one (λ e b. merge_ok esc par b cs w (lighter (children_spare cs) g e)) (flush_ok buf _ w (again g (merge_ok esc par [] cs g.second g.rest)))
    where
      on : (s : Shape) → ExprOk s m g.first → (Spare g.first → (b : Bytes) → ChildrenOk (merge esc par b cs) w) → ChildrenOk (flush buf (container s m ∷ merge esc par [] cs)) w → ChildrenOk (merge esc par buf (container s m ∷ cs)) w
      on (string_shape b) x joined kept = joined (x.texts tt) _
      on (number_shape n) x joined kept = joined (x.texts tt) _
      on (boolean_shape b) x joined kept = joined (x.texts tt) _
      on null_shape x joined kept = kept
      on literal_shape x joined kept = kept
      on (minus_shape n) x joined kept = kept
      on other_shape x joined kept = kept
  merge_ok esc par buf (element c ∷ cs) w g = flush_ok buf _ w (again g (merge_ok esc par [] cs g.second g.rest))
  merge_ok esc par buf (fragment f ∷ cs) w g = flush_ok buf _ w (again g (merge_ok esc par [] cs g.second g.rest))
  merge_ok esc par buf (spread m ∷ cs) w g = merge_ok esc par buf cs w (lighter (children_spare cs) g g.one)

  short_ok : (cs : List Child) (w : ℕ) → ChildrenOk cs w → ChildrenOk (short_runs cs) w
  unfolding short_runs ChildrenOk ChildOk
  short_ok [] w g = g
  short_ok (text t ∷ cs) w g = chosen (λ cs. ChildrenOk cs w) (over t) (λ _. short_ok cs w (lighter (children_spare cs) g g.one)) (again g (short_ok cs g.second g.rest))
  short_ok (empty ∷ cs) w g = again g (short_ok cs g.second g.rest)
  short_ok (container s m ∷ cs) w g = again g (short_ok cs g.second g.rest)
  short_ok (element e ∷ cs) w g = again g (short_ok cs g.second g.rest)
  short_ok (fragment f ∷ cs) w g = again g (short_ok cs g.second g.rest)
  short_ok (spread m ∷ cs) w g = again g (short_ok cs g.second g.rest)

  -- ---- children in a template

  wrap_ok : (s : Shape) {m : Mid} {w : ℕ} → ExprOk s m w → MidOk 0 (maybe_wrap s m) w × AloneField (maybe_wrap s m)
  unfolding maybe_wrap is_bare AloneField FormedBy inside
  wrap_ok (string_shape b) {w = w} x = chosen (λ m. MidOk 0 m w × AloneField m) (same b (escape_html b)) (λ _. (x.held, x.bare tt)) (nest_ok 0x92 tt tt x.held, tt)
  wrap_ok (number_shape n) x = (x.held, x.bare tt)
  wrap_ok (boolean_shape b) x = (x.held, x.bare tt)
  wrap_ok null_shape x = (x.held, x.bare tt)
  wrap_ok literal_shape x = (x.held, x.bare tt)
  wrap_ok (minus_shape n) x = (nest_ok 0x92 tt tt x.held, tt)
  wrap_ok other_shape x = (nest_ok 0x92 tt tt x.held, tt)

  -- parts put together, with what is spared
  put : {P Q : ℕ → Type 0} {ps : List Part} {w : ℕ} (g : Split Spare P Q w) → Content ps (g.first + g.second) → Content ps w
  put g x = content_spare {a = g.spared} (omega (arith, g.sum)) g.spare x

  merged_ok : (cs : List Child) (w : ℕ) → ChildrenOk cs w → FreeTexts cs → Content (merged_parts cs) w
  unfolding merged_parts ChildrenOk ChildOk FreeTexts pure
  merged_ok [] w g h = content_spare {a = w} (omega arith) g content_none
  merged_ok (text t ∷ cs) w g h = content_text t h.0 (merged_ok cs w (lighter (children_spare cs) g g.one) h.1)
  merged_ok (empty ∷ cs) w g h = merged_ok cs w (lighter (children_spare cs) g g.one) h
  merged_ok (container s m ∷ cs) w g h = put g (content_gap refl (pass_pure (wrap_ok s g.one).0) (λ n. (wrap_ok s g.one).1) (merged_ok cs g.second g.rest h))
  merged_ok (element c ∷ cs) w g h = put g (content_append refl g.one.parts (merged_ok cs g.second g.rest h))
  merged_ok (fragment f ∷ cs) w g h = put g (content_append refl g.one.parts (merged_ok cs g.second g.rest h))
  merged_ok (spread m ∷ cs) w g h = merged_ok cs w (lighter (children_spare cs) g g.one) h

  string_ok : (par : Bool) (cs : List Child) (w : ℕ) → ChildrenOk cs w → Content (children_to_string par cs) w
  unfolding children_to_string
  string_ok par cs w g = merged_ok (merge true par [] cs) w (merge_ok true par [] cs w g) (merge_free par [] cs free_nil)

  -- ---- children in a call

  stills_ok : (m : Mid) {w : ℕ} → MidOk 0 m w → Items m → EntriesOk (stills m) w
  unfolding stills EntriesOk EntryOk Items Alone
  stills_ok none g h = mid_nothing g
  stills_ok (node t f i r) g h = let p = mid_field g in more p (p.one, h.0, (h.0, h.1, h.2, tt)) (stills_ok r p.rest h.3)
  stills_ok (raw q r) g h = let p = mid_tag g in more p (p.one, tt, tt) (stills_ok r p.rest h)

  found_of_ok : (m : Mid) (w : ℕ) → MidOk 0 m w → Alone m → Items m → FoundOk (found_of m) w
  unfolding found_of FoundOk EntryOk Items Alone
  found_of_ok none w g a h = absurd a
  found_of_ok (node t f i none) w g a h =
      chosen (λ x. FoundOk x w) (eqb t 0x76) (λ e. let k = or_left (eqb t 0x76) (eqb t 0x77) e in stills_ok i (mid_inner k g) (h.1 k)) (g, a, h)
  found_of_ok (node t f i (node u p j r)) w g a h = absurd a
  found_of_ok (node t f i (raw q r)) w g a h = absurd a
  found_of_ok (raw q r) w g a h = (g, a, h)

  sole_mid_ok : (m : Mid) (w : ℕ) → MidOk 0 m w → Alone m → Items m → FoundOk (sole_mid m) w
  unfolding sole_mid FoundOk EntriesOk EntryOk Items Alone
  sole_mid_ok none w g a h = absurd a
  sole_mid_ok (node t f i none) w g a h =
      chosen (λ x. FoundOk x w) (eqb t 0x77) (λ e. let k = or_right (eqb t 0x76) (eqb t 0x77) e in found_of_ok i w (mid_inner k g) (h.2 e) (h.1 k))
      (chosen (λ x. FoundOk x w) (eqb t 0x78) (λ e. split w 0 (omega arith) (g, a, h) spare_none) (found_of_ok (node t f i none) w g a h))
  sole_mid_ok (node t f i (node u p j r)) w g a h = absurd a
  sole_mid_ok (node t f i (raw q r)) w g a h = absurd a
  sole_mid_ok (raw q r) w g a h = (g, a, h)

  sole_ok : (e : Entry) (w : ℕ) → EntryOk e w → FoundOk (sole e) w
  unfolding sole EntryOk FoundOk
  sole_ok (still m) w g = sole_mid_ok m w g.0 g.1 g.2
  sole_ok (passed p) w g = g

  flattened_ok : (es : List Entry) (w : ℕ) → EntriesOk es w → FoundOk (flattened es) w
  unfolding flattened EntriesOk FoundOk
  flattened_ok [] w g = g
  flattened_ok (e ∷ []) w g = sole_ok e w (only (entry_spare e) g g.rest)
  flattened_ok (e ∷ e' ∷ es) w g = g

  string_entry : (b : Bytes) {w : ℕ} → Spare w → EntryOk (still (leaf 0x70 b)) w
  unfolding EntryOk Items Alone
  string_entry b {w} s = (mid_spare {a = w} (omega arith) s (string_leaf b), tt, (tt, (λ h. absurd h), (λ h. absurd h), tt))

  entries_append : (es fs : List Entry) (a b w : ℕ) → a + b ≡ w → EntriesOk es a → EntriesOk fs b → EntriesOk (es ++ fs) w
  unfolding EntriesOk
  entries_append [] fs a b w e g h = entries_spare fs a b w e g h
  entries_append (x ∷ es) fs a b w e g h = record { first = g.first; second = g.second + b; spared = g.spared; sum = omega (arith, g.sum, e); spare = g.spare; one = g.one; rest = entries_append es fs g.second b _ refl g.rest h }

  spliced_ok : (f : Found) (w : ℕ) → FoundOk f w → EntriesOk (spliced f) w
  unfolding spliced FoundOk EntriesOk
  spliced_ok nothing_found w g = g
  spliced_ok (one_found e) w g = split w 0 (omega arith) g spare_none
  spliced_ok (array_found es) w g = g

  entries_ok : (cs : List Child) (w : ℕ) → ChildrenOk cs w → EntriesOk (entries cs) w
  unfolding entries ChildrenOk ChildOk EntriesOk EntryOk
  entries_ok [] w g = g
  entries_ok (text t ∷ cs) w g = more g (string_entry t g.one) (entries_ok cs g.second g.rest)
  entries_ok (empty ∷ cs) w g = entries_ok cs w (lighter (children_spare cs) g g.one)
  entries_ok (container s m ∷ cs) w g = more g (g.one.held, g.one.alone, g.one.items) (entries_ok cs g.second g.rest)
  entries_ok (element c ∷ cs) w g = more g (g.one.serialized, g.one.alone) (entries_ok cs g.second g.rest)
  entries_ok (fragment f ∷ cs) w g =
      entries_spare (spliced f.to_expr ++ entries cs) g.spared (g.first + g.second) w (omega (arith, g.sum)) g.spare (entries_append (spliced f.to_expr) (entries cs) g.first g.second _ refl (spliced_ok f.to_expr g.first g.one.found) (entries_ok cs g.second g.rest))
  entries_ok (spread m ∷ cs) w g = entries_ok cs w (lighter (children_spare cs) g g.one)

  one_child_ok : (c : Child) (w : ℕ) → ChildOk c w → FoundOk (one_child c) w
  unfolding one_child ChildOk FoundOk EntryOk
  one_child_ok (text t) w g = string_entry _ g
  one_child_ok empty w g = g
  one_child_ok (container s m) w g = found_of_ok m w g.held g.alone g.items
  one_child_ok (element e) w g = (g.serialized, g.alone)
  one_child_ok (fragment f) w g = g.found
  one_child_ok (spread m) w g = g

  many_ok : (cs : List Child) (w : ℕ) → ChildrenOk cs w → FoundOk (many_children cs) (tag + w)
  unfolding many_children choose FoundOk EntryOk raise gen_template AloneField
  many_ok cs w g = on (becomes_template cs) (merge_ok false false [] cs w g)
    where
      on : (b : Bool) → ChildrenOk (merge false false [] cs) w →
          FoundOk (choose b (λ _. one_found (passed (raise (long_if (long_run (merge false false [] cs))) (gen_template (children_to_string false (short_runs (merge false false [] cs))))))) λ _. flattened (entries (merge false false [] cs))) (tag + w)
      on true h = (pass_raise (long_run (merge false false [] cs)) (pass_template _ refl (string_ok false _ w (short_ok (merge false false [] cs) w h))), λ n. tt)
      on false h = found_spare (flattened (entries (merge false false [] cs))) tag w _ refl spare_tag (flattened_ok (entries (merge false false [] cs)) w (entries_ok (merge false false [] cs) w h))

  to_expr_ok : (cs : List Child) (w : ℕ) → ChildrenOk cs w → FoundOk (children_to_expr cs) (tag + w)
  unfolding children_to_expr ChildrenOk FoundOk
  to_expr_ok [] w g = spare_sum refl spare_tag g
  to_expr_ok (c ∷ []) w g = found_spare (one_child c) tag w _ refl spare_tag (one_child_ok c w (only (child_spare c) g g.rest))
  to_expr_ok (c ∷ c' ∷ cs) w g = many_ok (c ∷ c' ∷ cs) w g

  -- ---- calls

  entry_pass_ok : (e : Entry) (w : ℕ) → EntryOk e w → PassOk (entry_pass e) w
  unfolding entry_pass EntryOk
  entry_pass_ok (still m) w g = pass_pure g.0
  entry_pass_ok (passed p) w g = g.0

  entries_pass_ok : (es : List Entry) (w : ℕ) → EntriesOk es w → PassOk (entries_pass es) w
  unfolding entries_pass EntriesOk
  entries_pass_ok [] w g = pass_pure (none_ok g)
  entries_pass_ok (e ∷ es) w g = pass_spare {a = g.spared} (omega (arith, g.sum)) g.spare (pass_both refl (entry_pass_ok e g.first g.one) (entries_pass_ok es g.second g.rest))

  found_pass_ok : (f : Found) (w : ℕ) → FoundOk f w → PassOk (found_pass f) w
  unfolding found_pass FoundOk FormedBy inside
  found_pass_ok nothing_found w g = pass_pure (none_ok g)
  found_pass_ok (one_found e) w g = entry_pass_ok e w g
  found_pass_ok (array_found es) w g = pass_map array_node 0 (λ m k b c e x. mid_node 0x76 [] tt tt (omega arith) (omega (arith, e)) x mid_none) (omega arith) (entries_pass_ok es w g)

  members_ok : (ns : List Bytes) → MidOk 0 (members_row ns) 0
  unfolding members_row FormedBy inside
  members_ok [] = mid_none
  members_ok (n ∷ ns) = before_ok 0x40 n tt tt (members_ok ns)

  name_ok : (n : Name) → MidOk 0 (name_expr n) 0
  unfolding name_expr FormedBy inside
  name_ok (identifier n) = chosen (λ m. MidOk 0 m 0) (first_upper n) (λ _. leaf_ok 0x40 n tt tt) (leaf_ok 0x81 n tt tt)
  name_ok (member ns) = nest_ok 0x41 tt tt (members_ok ns)
  name_ok (namespaced n m) = leaf_ok 0x81 _ tt tt

  children_prop_ok : (m : Mid) {k w : ℕ} → MidOk k m w → MidOk k (children_prop m) w
  unfolding children_prop
  children_prop_ok none x = x
  children_prop_ok (node t f i r) x = prop_ok (ascii "children") x
  children_prop_ok (raw q r) x = prop_ok (ascii "children") x

  props_node_ok : (m : Mid) {k w : ℕ} → MidOk k m w → MidOk k (props_node m) w
  unfolding props_node FormedBy inside
  props_node_ok none x = before_ok 0x73 [] tt tt x
  props_node_ok (node t f i r) x = nest_ok 0x95 tt tt x
  props_node_ok (raw q r) x = nest_ok 0x95 tt tt x

  call_ok : (o : Options) (n : Name) (as' : List Attribute) (cs : List Child) (v a w : ℕ) → AttributesOk o (not (is_component n)) as' v a → ChildrenOk cs w → PassOk (to_call_expr n as' cs) (tag + (a + w))
  unfolding to_call_expr
  call_ok o n as' cs v a w g h = pass_map (call_node n as') a held (omega arith) (found_pass_ok (children_to_expr cs) (tag + w) (to_expr_ok cs w h))
    where
      norm : Bool
      norm = not (is_component n)

      shared : Split Spare (MidOk 0 (props_of norm as')) (MidOk 0 (key_of norm as' none)) (a + pick (key_follows norm as') 0 0)
      shared = in_call_ok o norm as' v a g none 0 mid_none

      all : shared.first + shared.second + shared.spared ≡ a
      all = on (key_follows norm as') shared.sum
        where
          on : (b : Bool) → shared.first + shared.second + shared.spared ≡ a + pick b 0 0 → shared.first + shared.second + shared.spared ≡ a
          on true e = omega (arith, e)
          on false e = omega (arith, e)

      held : (m : Mid) (k b c : ℕ) → a + b ≡ c → MidOk k m b → MidOk k (call_node n as' m) c
      held m k b c e x =
          unfold call_node FormedBy inside in
          let props : MidOk k (props_of norm as' +++ children_prop m) (shared.first + b) = mid_append (omega arith) refl shared.one (children_prop_ok m x) in
          let arguments : MidOk k (props_node (props_of norm as' +++ children_prop m) +++ key_of norm as' none) (shared.first + b + shared.second) = mid_append (omega arith) refl (props_node_ok _ props) shared.rest in
          mid_spare {a = shared.spared} {b = shared.first + b + shared.second} (omega (arith, all, e)) shared.spare (nest_ok 0x94 tt tt (mid_append (omega arith) (omega arith) (name_ok n) arguments))

  call_alone : (n : Name) (as' : List Attribute) (cs : List Child) (k : ℕ) → AloneField (to_call_expr n as' cs k).value
  unfolding to_call_expr map call_node AloneField
  call_alone n as' cs k = tt

  -- ---- elements and fragments

  unfoldable pub NamedOk : Name → Type 0
  NamedOk (identifier n) = NameOk n
  NamedOk (member ns) = Unit {0}
  NamedOk (namespaced n m) = Unit {0}

  open_close_ok : (o : Options) (n : Bytes) → NameOk n → (norm : Bool) (as' : List Attribute) (cs : List Child) (v a w : ℕ) → AttributesOk o norm as' v a → T (not (keeps_from_serializing as')) → ChildrenOk cs w → Content (open_close o n as' cs) (own (tag_flags n as') + (v + pick (is_void_element n) 0 w))
  unfolding open_close
  open_close_ok o n ok norm as' cs v a w g k h = on (is_void_element n) refl
    where
      at : Opening (attrs_parts o as') v
      at = attrs_ok o norm as' v a g k

      on : (b : Bool) → is_void_element n ≡ b →
          Content (mark (tag_flags n as') ∷ chars (60 ∷ escape_html n) ∷ (attrs_parts o as' ++ (chars (62 ∷ []) ∷ pick b [] (children_to_string true cs ++ (chars (60 ∷ 47 ∷ (n ++ (62 ∷ []))) ∷ []))))) (own (tag_flags n as') + (v + pick b 0 w))
      on true e = content_void n as' ok e (omega arith) at
      on false e = content_element n as' ok e refl at (string_ok true cs w h)

  call_parts : {p : Pass Mid} {w : ℕ} → PassOk p w → ((n : ℕ) → AloneField (p n).value) → Content (gap p ∷ []) w
  call_parts x a = content_gap {b = 0} (omega arith) x a content_none

  pub element_ok : (o : Options) (n : Name) → NamedOk n → (as' : List Attribute) (cs : List Child) (v a w : ℕ) → AttributesOk o (not (is_component n)) as' v a → ChildrenOk cs w →
      ElementOk (element_of o n as' cs) (tag + pick (is_serializable o n as') (own (own_flags n as') + (v + pick (is_void n) 0 w)) (a + w))
  unfolding element_of serialize_jsx element_to_string_vec is_serializable choose gen_template AloneField NamedOk
  element_ok o (identifier n) ok as' cs v a w g h = on (is_serializable o (identifier n) as') λ t. and_right (not (first_upper n) && not (among n o.skip_serialize)) (not (keeps_from_serializing as')) t
    where
      on : (b : Bool) → (T b → T (not (keeps_from_serializing as'))) →
          ElementOk
          (record { serializable = b; to_string_vec = choose b (λ _. open_close o n as' cs) λ _. gap (to_call_expr (identifier n) as' cs) ∷ []; to_call_expr = to_call_expr (identifier n) as' cs })
          (tag + pick b (own (tag_flags n as') + (v + pick (is_void_element n) 0 w)) (a + w))
      on true k =
          let parts = open_close_ok o n ok (not (is_component (identifier n))) as' cs v a w g (k tt) h in
          record { parts = content_spare refl spare_tag parts; serialized = pass_template (open_close o n as' cs) refl parts; alone = λ n. tt }
      on false k =
          let call = call_ok o (identifier n) as' cs v a w g h in
          record { parts = call_parts call (call_alone (identifier n) as' cs); serialized = call; alone = call_alone (identifier n) as' cs }
  element_ok o (member ns) ok as' cs v a w g h =
      let call = call_ok o (member ns) as' cs v a w g h in
      record { parts = call_parts call (call_alone (member ns) as' cs); serialized = call; alone = call_alone (member ns) as' cs }
  element_ok o (namespaced n m) ok as' cs v a w g h =
      let call = call_ok o (namespaced n m) as' cs v a w g h in
      record { parts = call_parts call (call_alone (namespaced n m) as' cs); serialized = call; alone = call_alone (namespaced n m) as' cs }

  pub fragment_ok : Left → (cs : List Child) (w : ℕ) → ChildrenOk cs w → FragmentOk (fragment_of cs) (tag + w)
  unfolding fragment_of
  fragment_ok z cs w h = record { left = z; parts = content_spare refl spare_tag (string_ok false cs w h); found = to_expr_ok cs w h }

  pub element_visits : (e : Element) {w : ℕ} → ElementOk e w → VisitOk (element_raw e) w
  unfolding element_raw
  element_visits e g = visit_done g.serialized g.alone

  template_visits : (cs : List Child) (w : ℕ) → ChildrenOk cs w → VisitOk (visit_after (gen_template (children_to_string false cs))) (tag + w)
  unfolding gen_template AloneField
  template_visits cs w g = visit_done (pass_template (children_to_string false cs) refl (string_ok false cs w g)) λ n. tt

  left_visits : Left → {w : ℕ} → Spare w → VisitOk leave w
  left_visits z {w} s = visit_spare {a = w} (omega arith) s (visit_left z)

  found_visits : Left → (f : Found) (w : ℕ) → FoundOk f w → VisitOk (visit_found f) w
  unfolding visit_found found_pass entry_pass FoundOk EntryOk pure map AloneField
  found_visits z nothing_found w g = left_visits z g
  found_visits z (one_found (still m)) w g = visit_any z (found_pass_ok (one_found (still m)) w g) λ n. g.1
  found_visits z (one_found (passed p)) w g = visit_done (found_pass_ok (one_found (passed p)) w g) g.1
  found_visits z (array_found es) w g = visit_done (found_pass_ok (array_found es) w g) λ n. tt

  only_visits : Left → (c : Child) (w : ℕ) → ChildrenOk (c ∷ []) w → VisitOk (visit_only_child c) (tag + w)
  unfolding visit_only_child ChildrenOk ChildOk
  only_visits z (text t) w g = template_visits (text t ∷ []) w g
  only_visits z empty w g = template_visits (empty ∷ []) w g
  only_visits z (container s m) w g = template_visits (container s m ∷ []) w g
  only_visits z (element e) w g = let x = only (child_spare (element e)) g g.rest in visit_spare refl spare_tag (visit_done x.serialized x.alone)
  only_visits z (fragment f) w g = let x = only (child_spare (fragment f)) g g.rest in visit_spare refl spare_tag (found_visits z f.to_expr w x.found)
  only_visits z (spread m) w g = let x = only (child_spare (spread m)) g g.rest in visit_spare refl spare_tag (left_visits z x)

  pub fragment_visits : Left → (cs : List Child) (w : ℕ) → ChildrenOk cs w → VisitOk (visit_fragment cs) (tag + w)
  unfolding visit_fragment ChildrenOk
  fragment_visits z [] w g = visit_spare {b = 0} (omega arith) (spare_sum refl spare_tag g) visit_null
  fragment_visits z (c ∷ []) w g = only_visits z c w g
  fragment_visits z (c ∷ c' ∷ cs) w g = template_visits (c ∷ c' ∷ cs) w g
