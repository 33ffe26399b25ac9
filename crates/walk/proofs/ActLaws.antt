-- Laws of `see` where tags stand, and of `act`: passes in a row, a field around a pass, a template, the parts of a template, the entries of
-- an array, a jsx call.
-- Main statements: `see_append`, `act_pure`, `act_both`, `act_around`, `act_gen_template`, `act_dynamic_append`, `act_entries_append`,
-- `act_stills`, `act_found_expr`, `act_call_none`, `act_call_some`, `act_grows`. Assumes nothing.
use mathlib.Core.Path.{◌≡◌, refl, sym, ap, ◌∙◌}
use Prim.Native.Nat.{ℕ, ◌+◌}
use native.Mathlib.Omega.{arith}
use mathlib.Core.List.{List, [], ◌∷◌, ◌++◌, append_assoc}
use mathlib.Core.Bool.{Bool, true, false, ◌||◌, not, false≢true}
use lib.Dec.{eqb, ltb}
use borrow.Author.Tests.{eq-eqb, ne_eqb}
use lib.ListN.{length}
use Rattle.field.specs.Bytes.{Bytes, ascii, pick, same}
use Rattle.field.specs.Number.{big_endian}
use Rattle.field.specs.Row.{Row, end, loose, field, field_bytes, bytes, long_body}
use Rattle.field.proofs.PutLaws.{length_put}
use Rattle.text.specs.Text.{normalize_lit_str}
use Rattle.names.specs.Names.{get_attr_name}
use Rattle.page.specs.Number.{whole, scaled, number_tag, minus_tag}
use Rattle.page.specs.Page as P
use Rattle.page.specs.Page.{Name, Options}
use Rattle.spec.specs.Pass.{Done, Pass, pure, map, both, bind, raise, join, long_if, Raw, Mid, none, node, raw, ◌+++◌, ◌⧺◌, Part, chars, gap, mark}
use Rattle.spec.specs.declared.Flags.{Flags}
use Rattle.spec.specs.Output.{leaf, string_node, null_node, prop_node, dynamic_exprs, gen_template}
use Rattle.spec.specs.Merge.{Entry, still, nothing_found, one_found, array_found, Child}
use Rattle.spec.specs.Attributes as Held
use Rattle.spec.specs.Attributes.{Attribute, is_component, props_of, prop_of, key_of}
use Rattle.spec.specs.Children.{stills, found_of, spliced, entry_pass, entries_pass, found_pass, children_prop, props_node, name_expr, call_node, children_to_expr, to_call_expr}
use Rattle.spec.specs.Visit.{visit_exprs, visit_inside, visit_after, leave}
use Rattle.spec.specs.Transform.{stands, expr, raw_tag, items, pieces}
use Rattle.spec.specs.declared.Flags.{Flags}
use Rattle.walk.specs.See.{World, at, wrote, see, passed, act, to_page, begun, numbered, wrap, props_closed}
use Rattle.walk.proofs.SeeLaws.{Split, wrote_then, wrote_last, fronted, see_none, see_front, see_rest, see_node, see_page, see_templates_length, Grows}

-- ---- rows in which tags stand

or_inside : (e i a b : Bool) → (e || (i || (a || b))) ≡ ((e || (i || a)) || b)
or_inside true i a b = refl
or_inside false true a b = refl
or_inside false false a b = refl

-- a row behind fields
split_fields : (x y : Row) → Split (x ⧺ y) (x ⧺ end) y
unfolding ◌⧺◌ bytes stands long_body
split_fields end y = record { split_bytes = refl; split_stands = λ u. refl; split_long = refl }
split_fields (loose b) y = record { split_bytes = refl; split_stands = λ u. refl; split_long = refl }
split_fields (field t f i r) y =
    let h = split_fields r y in
    let b = field_bytes t (f ++ bytes i) in
    record {
      split_bytes = ap (λ (x : Bytes). b ++ x) h.split_bytes ∙ sym (append_assoc b (bytes (r ⧺ end)) (bytes y));
      split_stands = λ u. ap (λ (x : Bool). eqb t u || (stands u i || x)) (h.split_stands u) ∙ or_inside (eqb t u) (stands u i) (stands u (r ⧺ end)) (stands u y);
      split_long = ap (λ (x : Bool). ltb 65535 (length (f ++ bytes i)) || (long_body i || x)) h.split_long ∙ or_inside (ltb 65535 (length (f ++ bytes i))) (long_body i) (long_body (r ⧺ end)) (long_body y);
    }

module _ (q : Raw) (w : World) where
  -- a visit, without loose bytes
  fields_of : Done Row
  fields_of = let d = q w.st.later in record { value = d.value ⧺ end; taken = d.taken; templates = d.templates; flags = d.flags }

  see_fields : see (raw q none) w ≡ wrote fields_of w
  unfolding see visit_exprs pure both fields_of
  see_fields = let d = q w.st.later in wrote_last (d.value ⧺ end) d.taken d.templates d.flags w

  pub see_raw_rest : (r : Mid) → see (raw q r) w ≡ see r (see (raw q none) w)
  unfolding see visit_exprs both fields_of
  see_raw_rest r =
      let d = q w.st.later in
      let e = visit_exprs r (w.st.later + d.taken) in
      wrote_then fields_of e (d.value ⧺ e.value) (split_fields d.value e.value) w ∙ ap (see r) (sym see_fields)

  -- a tag alone: what its visit writes
  pub see_raw : (q w.st.later).value ⧺ end ≡ (q w.st.later).value → see (raw q none) w ≡ wrote (q w.st.later) w
  unfolding fields_of
  see_raw h =
      let d = q w.st.later in
      see_fields ∙ ap (λ (x : Row). wrote (record { value = x; taken = d.taken; templates = d.templates; flags = d.flags }) w) h

pub see_append : (a b : Mid) (w : World) → see (a +++ b) w ≡ see b (see a w)
unfolding ◌+++◌
see_append none b w = ap (see b) (sym (see_none w))
see_append (node t f i r) b w = see_rest t f i w (r +++ b) ∙ see_append r b (see (node t f i none) w) ∙ ap (see b) (sym (see_rest t f i w r))
see_append (raw q r) b w = see_raw_rest q w (r +++ b) ∙ see_append r b (see (raw q none) w) ∙ ap (see b) (sym (see_raw_rest q w r))

-- no visit leaves loose bytes
pub fields_append : (x y z : Row) → (x ⧺ y) ⧺ z ≡ x ⧺ (y ⧺ z)
unfolding ◌⧺◌
fields_append end y z = refl
fields_append (loose b) y z = refl
fields_append (field t f i r) y z = ap (field t f i) (fields_append r y z)

pub visit_fields : (m : Mid) (n : ℕ) → (visit_exprs m n).value ⧺ end ≡ (visit_exprs m n).value
unfolding visit_exprs pure both ◌⧺◌
visit_fields none n = refl
visit_fields (node t f i r) n = ap (field t f (visit_exprs i n).value) (visit_fields r (n + (visit_exprs i n).taken))
visit_fields (raw q r) n =
    let d = q n in
    let e = visit_exprs r (n + d.taken) in
    fields_append d.value e.value end ∙ ap (λ (x : Row). d.value ⧺ x) (visit_fields r (n + d.taken))

inside_fields : (m : Mid) (n : ℕ) → (visit_inside m n).value ⧺ end ≡ (visit_inside m n).value
unfolding visit_inside leave raise pure both ◌⧺◌
inside_fields none n = refl
inside_fields (node t f i r) n = ap (field t f (visit_exprs i n).value) (visit_fields r (n + (visit_exprs i n).taken))
inside_fields (raw q r) n = refl

pub after_fields : (p : Pass Mid) (n : ℕ) → (visit_after p n).value ⧺ end ≡ (visit_after p n).value
unfolding visit_after bind
after_fields p n = inside_fields (p n).value (n + (p n).taken)

-- ---- what a first pass leaves goes through what is written

-- the state with another first number
abbrev reset : World → ℕ → World
reset w n = at w.templates w.page (record { first = n; later = w.st.later; templates = w.st.templates; page = w.st.page; seen = w.st.seen })

module _ (d : Done Mid) where
  pub passed_see : (m : Mid) (w : World) → passed d (see m w) ≡ see m (passed d w)
  unfolding see
  passed_see m w = refl

  passed_pick : (b : Bool) (x y : World) → passed d (pick b x y) ≡ pick b (passed d x) (passed d y)
  passed_pick true x y = refl
  passed_pick false x y = refl

  pub passed_props_closed : (q : ℕ) (w : World) → passed d (props_closed q w) ≡ props_closed q (passed d w)
  passed_props_closed q w =
      let b = eqb w.st.page (q + 3) in
      let x = at w.templates w.page (to_page q w.st) in
      passed_pick b (see null_node x) (wrap 0x95 q w) ∙ ap (λ (y : World). pick b y (wrap 0x95 q (passed d w))) (passed_see null_node x)

-- a pass that leaves nothing
passed_none : (m : Mid) (n : ℕ) (w : World) → passed (pure m n) w ≡ w
unfolding pure
passed_none m n w =
    let k : w.st.first + 0 ≡ w.st.first = omega arith in
    λ i. reset w (k i)

-- ---- passes

pub act_pure : (m : Mid) (w : World) → act (pure m) w ≡ see m w
unfolding act pure
act_pure m w = passed_none m w.st.first (see m w)

-- what a pass with the value m is made to
pub act_map_pure : (f : Mid → Mid) (m : Mid) (w : World) → act (map f (pure m)) w ≡ see (f m) w
unfolding act map pure
act_map_pure f m w = act_pure (f m) w

pub act_long : (b : Bool) (p : Pass Mid) (w : World) → act (raise (long_if b) p) w ≡ act p w
unfolding act raise
act_long b p w = refl

passed_join : (c d : Done Mid) (v : Mid) (w : World) →
    passed (record { value = v; taken = c.taken + d.taken; templates = c.templates ++ d.templates; flags = join c.flags d.flags }) w ≡ passed d (passed c w)
passed_join c d v w =
    let n : w.st.first + (c.taken + d.taken) ≡ w.st.first + c.taken + d.taken = omega arith in
    λ i. reset w (n i)

pub act_both : (p q : Pass Mid) (w : World) → act (both ◌+++◌ p q) w ≡ act q (act p w)
unfolding act both see
act_both p q w =
    let c = p w.st.first in
    let d = q (w.st.first + c.taken) in
    ap (passed (both ◌+++◌ p q w.st.first)) (see_append c.value d.value w)
    ∙ passed_join c d (c.value +++ d.value) (see d.value (see c.value w))
    ∙ ap (passed d) (passed_see c d.value (see c.value w))

-- a field around what a pass gives
pub act_around : (t : ℕ) (p : Pass Mid) (w : World) → act (map (λ (m : Mid). node t [] m none) p) w ≡ wrap t w.st.page (act p (begun w))
unfolding act map
act_around t p w = let d = p w.st.first in ap (passed d) (see_node t d.value w)

-- ---- templates

module _ (ps : List Part) (w : World) where
  -- the number that the template takes
  bump : World → World
  bump x = at x.templates x.page (record { first = x.st.first + 1; later = x.st.later; templates = x.st.templates; page = x.st.page; seen = x.st.seen })

  numbered_is : bump (fronted (big_endian 4 w.st.first []) w) ≡ numbered w
  unfolding bump big_endian
  numbered_is =
      let n : w.st.page + 3 + 4 ≡ w.st.page + 7 = omega arith in
      λ i. at w.templates (numbered w).page (record { first = w.st.first + 1; later = w.st.later; templates = w.st.templates; page = n i; seen = w.st.seen })

  pub act_gen_template : act (gen_template ps) w ≡ wrap 0x90 w.st.page (act (dynamic_exprs ps) (numbered w))
  unfolding act gen_template see bump
  act_gen_template =
      let d = dynamic_exprs ps (w.st.first + 1) in
      let b = big_endian 4 w.st.first [] in
      let x = wrap 0x90 w.st.page (see d.value (fronted b w)) in
      let n : w.st.first + (1 + d.taken) ≡ w.st.first + 1 + d.taken = omega arith in
      ap (passed (gen_template ps w.st.first)) (see_front 0x90 b d.value w)
      ∙ (λ i. reset x (n i))
      ∙ ap (λ (y : World). wrap 0x90 w.st.page (passed d (see d.value y))) numbered_is

pub act_no_parts : (w : World) → act (dynamic_exprs []) w ≡ w
unfolding dynamic_exprs
act_no_parts w = act_pure none w ∙ see_none w

pub act_chars : (b : Bytes) (ps : List Part) (w : World) → act (dynamic_exprs (chars b ∷ ps)) w ≡ act (dynamic_exprs ps) w
unfolding dynamic_exprs
act_chars b ps w = refl

pub act_mark : (f : Flags) (ps : List Part) (w : World) → act (dynamic_exprs (mark f ∷ ps)) w ≡ act (dynamic_exprs ps) w
unfolding dynamic_exprs
act_mark f ps w = refl

pub act_gap : (p : Pass Mid) (ps : List Part) (w : World) → act (dynamic_exprs (gap p ∷ ps)) w ≡ act (dynamic_exprs ps) (act p w)
unfolding dynamic_exprs
act_gap p ps w = act_both p (dynamic_exprs ps) w

pub act_dynamic_append : (a b : List Part) (w : World) → act (dynamic_exprs (a ++ b)) w ≡ act (dynamic_exprs b) (act (dynamic_exprs a) w)
act_dynamic_append [] b w = ap (act (dynamic_exprs b)) (sym (act_no_parts w))
act_dynamic_append (chars c ∷ a) b w = act_chars c (a ++ b) w ∙ act_dynamic_append a b w ∙ ap (act (dynamic_exprs b)) (sym (act_chars c a w))
act_dynamic_append (mark f ∷ a) b w = act_mark f (a ++ b) w ∙ act_dynamic_append a b w ∙ ap (act (dynamic_exprs b)) (sym (act_mark f a w))
act_dynamic_append (gap p ∷ a) b w = act_gap p (a ++ b) w ∙ act_dynamic_append a b (act p w) ∙ ap (act (dynamic_exprs b)) (sym (act_gap p a w))

-- ---- arrays

pub act_no_entries : (w : World) → act (entries_pass []) w ≡ w
unfolding entries_pass
act_no_entries w = act_pure none w ∙ see_none w

pub act_entry : (e : Entry) (es : List Entry) (w : World) → act (entries_pass (e ∷ es)) w ≡ act (entries_pass es) (act (entry_pass e) w)
unfolding entries_pass
act_entry e es w = act_both (entry_pass e) (entries_pass es) w

pub act_one_entry : (e : Entry) (w : World) → act (entries_pass (e ∷ [])) w ≡ act (entry_pass e) w
act_one_entry e w = act_entry e [] w ∙ act_no_entries (act (entry_pass e) w)

pub act_still : (m : Mid) (w : World) → act (entry_pass (still m)) w ≡ see m w
unfolding entry_pass
act_still m w = act_pure m w

pub act_entries_append : (a b : List Entry) (w : World) → act (entries_pass (a ++ b)) w ≡ act (entries_pass b) (act (entries_pass a) w)
act_entries_append [] b w = ap (act (entries_pass b)) (sym (act_no_entries w))
act_entries_append (e ∷ a) b w = act_entry e (a ++ b) w ∙ act_entries_append a b (act (entry_pass e) w) ∙ ap (act (entries_pass b)) (sym (act_entry e a w))

pub act_stills : (m : Mid) (w : World) → act (entries_pass (stills m)) w ≡ see m w
unfolding stills
act_stills none w = act_no_entries w ∙ sym (see_none w)
act_stills (node t f i r) w =
    act_entry (still (node t f i none)) (stills r) w ∙ ap (act (entries_pass (stills r))) (act_still (node t f i none) w)
    ∙ act_stills r (see (node t f i none) w) ∙ sym (see_rest t f i w r)
act_stills (raw q r) w =
    act_entry (still (raw q none)) (stills r) w ∙ ap (act (entries_pass (stills r))) (act_still (raw q none) w)
    ∙ act_stills r (see (raw q none) w) ∙ sym (see_raw_rest q w r)

pub act_nothing_found : (w : World) → act (found_pass nothing_found) w ≡ w
unfolding found_pass
act_nothing_found w = act_pure none w ∙ see_none w

pub act_one_found : (e : Entry) (w : World) → act (found_pass (one_found e)) w ≡ act (entry_pass e) w
unfolding found_pass
act_one_found e w = refl

pub act_array_found : (es : List Entry) (w : World) → act (found_pass (array_found es)) w ≡ wrap 0x76 w.st.page (act (entries_pass es) (begun w))
unfolding found_pass
act_array_found es w = act_around 0x76 (entries_pass es) w

-- an expression that stands: an array is its elements in a field, all else stands as it is
module _ (w : World) where
  pub act_found_array : (i : Mid) → act (found_pass (found_of (node 0x76 [] i none))) w ≡ see (node 0x76 [] i none) w
  unfolding found_of
  act_found_array i = act_array_found (stills i) w ∙ ap (wrap 0x76 w.st.page) (act_stills i (begun w)) ∙ sym (see_node 0x76 i w)

  pub act_found_node : (t : ℕ) (f : Bytes) (i r : Mid) → eqb t 0x76 ≡ false → act (found_pass (found_of (node t f i r))) w ≡ see (node t f i r) w
  unfolding found_of
  act_found_node t f i r h =
      ap (λ (b : Bool). act (found_pass (pick b (array_found (stills i)) (one_found (still (node t f i r))))) w) h
      ∙ act_one_found (still (node t f i r)) w ∙ act_still (node t f i r) w

  pub act_found_raw : (q : Raw) (r : Mid) → act (found_pass (found_of (raw q r))) w ≡ see (raw q r) w
  unfolding found_of
  act_found_raw q r = act_one_found (still (raw q r)) w ∙ act_still (raw q r) w

  -- what a fragment adds to its parent's
  pub act_spliced_array : (f : Bytes) (i r : Mid) → act (entries_pass (spliced (found_of (node 0x76 f i r)))) w ≡ see i w
  unfolding found_of spliced
  act_spliced_array f i r = act_stills i w

  pub act_spliced_node : (t : ℕ) (f : Bytes) (i r : Mid) → eqb t 0x76 ≡ false → act (entries_pass (spliced (found_of (node t f i r)))) w ≡ see (node t f i r) w
  unfolding found_of spliced
  act_spliced_node t f i r h =
      ap (λ (b : Bool). act (entries_pass (spliced (pick b (array_found (stills i)) (one_found (still (node t f i r)))))) w) h
      ∙ act_one_entry (still (node t f i r)) w ∙ act_still (node t f i r) w

  pub act_spliced_raw : (q : Raw) (r : Mid) → act (entries_pass (spliced (found_of (raw q r)))) w ≡ see (raw q r) w
  unfolding found_of spliced
  act_spliced_raw q r = act_one_entry (still (raw q r)) w ∙ act_still (raw q r) w

-- the elements of an array literal, or the expression
unfoldable pub elements_of : Options → P.Expr → Mid
elements_of o (P.string_literal b) = expr o (P.string_literal b) none
elements_of o (P.number_literal n) = expr o (P.number_literal n) none
elements_of o (P.boolean_literal b) = expr o (P.boolean_literal b) none
elements_of o P.null_literal = expr o P.null_literal none
elements_of o (P.other_literal b) = expr o (P.other_literal b) none
elements_of o (P.minus_literal n) = expr o (P.minus_literal n) none
elements_of o (P.array_literal is) = items o is
elements_of o (P.other_expr ps) = expr o (P.other_expr ps) none
elements_of o (P.tag_expr t) = expr o (P.tag_expr t) none

module _ (o : Options) (w : World) where
  pub act_found_expr : (e : P.Expr) → act (found_pass (found_of (expr o e none))) w ≡ see (expr o e none) w
  unfolding expr number_tag minus_tag
  act_found_expr (P.string_literal b) = act_found_node w 0x70 b none none refl
  act_found_expr (P.number_literal (whole n)) = act_found_node w 0x71 _ none none refl
  act_found_expr (P.number_literal (scaled n p)) = act_found_node w 0x7a _ none none refl
  act_found_expr (P.boolean_literal b) = act_found_node w 0x72 _ none none refl
  act_found_expr P.null_literal = act_found_node w 0x73 [] none none refl
  act_found_expr (P.other_literal b) = act_found_node w 0x74 b none none refl
  act_found_expr (P.minus_literal (whole n)) = act_found_node w 0x75 _ none none refl
  act_found_expr (P.minus_literal (scaled n p)) = act_found_node w 0x7b _ none none refl
  act_found_expr (P.array_literal is) = act_found_array w (items o is)
  act_found_expr (P.other_expr ps) = act_found_node w 0x79 [] (pieces o ps) none refl
  act_found_expr (P.tag_expr t) = act_found_raw w (raw_tag o t) none

  pub act_spliced_expr : (e : P.Expr) → act (entries_pass (spliced (found_of (expr o e none)))) w ≡ see (elements_of o e) w
  unfolding expr elements_of number_tag minus_tag
  act_spliced_expr (P.string_literal b) = act_spliced_node w 0x70 b none none refl
  act_spliced_expr (P.number_literal (whole n)) = act_spliced_node w 0x71 _ none none refl
  act_spliced_expr (P.number_literal (scaled n p)) = act_spliced_node w 0x7a _ none none refl
  act_spliced_expr (P.boolean_literal b) = act_spliced_node w 0x72 _ none none refl
  act_spliced_expr P.null_literal = act_spliced_node w 0x73 [] none none refl
  act_spliced_expr (P.other_literal b) = act_spliced_node w 0x74 b none none refl
  act_spliced_expr (P.minus_literal (whole n)) = act_spliced_node w 0x75 _ none none refl
  act_spliced_expr (P.minus_literal (scaled n p)) = act_spliced_node w 0x7b _ none none refl
  act_spliced_expr (P.array_literal is) = act_spliced_array w [] (items o is) none
  act_spliced_expr (P.other_expr ps) = act_spliced_node w 0x79 [] (pieces o ps) none refl
  act_spliced_expr (P.tag_expr t) = act_spliced_raw w (raw_tag o t) none

-- ---- a jsx call

-- behind the name; behind the properties that attributes give; the `children` property begins; the call ends
abbrev pub call_named : Name → World → World
call_named n w = see (name_expr n) (begun w)

abbrev pub call_props : Name → List Attribute → World → World
call_props n as' w = see (props_of (not (is_component n)) as') (begun (call_named n w))

abbrev pub children_begun : World → World
children_begun w = see (leaf 0x81 (ascii "children")) (begun w)

abbrev pub call_closed : Name → List Attribute → World → World → World
call_closed n as' w z = wrap 0x94 w.st.page (see (key_of (not (is_component n)) as' none) (props_closed (call_named n w).st.page z))

abbrev pub is_none : Mid → Bool
is_none none = true
is_none (node t f i r) = false
is_none (raw q r) = false

-- properties are fields
abbrev raw_first : Mid → Bool
raw_first none = false
raw_first (node t f i r) = false
raw_first (raw q r) = true

pick_first : (b : Bool) (t : ℕ) (f : Bytes) (i y c : Mid) → raw_first (y +++ c) ≡ false → raw_first ((pick b none (node t f i none) +++ y) +++ c) ≡ false
unfolding ◌+++◌
pick_first true t f i y c h = h
pick_first false t f i y c h = refl

keyed_first : (n : Bytes) (m y c : Mid) → raw_first (y +++ c) ≡ false → raw_first ((pick (same n (ascii "key")) none (prop_node n m) +++ y) +++ c) ≡ false
keyed_first n m y c h = pick_first (same n (ascii "key")) 0x96 [] (node 0x81 n none m) y c h

props_first : (norm : Bool) (as' : List Attribute) (c : Mid) → raw_first c ≡ false → raw_first (props_of norm as' +++ c) ≡ false
unfolding props_of prop_of ◌+++◌
props_first norm [] c h = h
props_first norm (Held.attribute n Held.absent ∷ as') c h = refl
props_first norm (Held.attribute n (Held.string b) ∷ as') c h = keyed_first (get_attr_name n norm) (string_node (normalize_lit_str b)) (props_of norm as') c (props_first norm as' c h)
props_first norm (Held.attribute n Held.empty ∷ as') c h = props_first norm as' c h
props_first norm (Held.attribute n (Held.container s m) ∷ as') c h = keyed_first (get_attr_name n norm) m (props_of norm as') c (props_first norm as' c h)
props_first norm (Held.attribute n (Held.tag r) ∷ as') c h = props_first norm as' c h
props_first norm (Held.spread m ∷ as') c h = refl

children_first : (v : Mid) → raw_first (children_prop v) ≡ false
unfolding children_prop
children_first none = refl
children_first (node t f i r) = refl
children_first (raw q r) = refl

-- null for no property
see_props : (m : Mid) (w : World) → raw_first m ≡ false → see (props_node m) w ≡ props_closed w.st.page (see m (begun w))
unfolding props_node
see_props none w h =
    let q = w.st.page in
    sym (ap (props_closed q) (see_none (begun w)) ∙ ap (λ (b : Bool). pick b (see null_node w) (wrap 0x95 q (begun w))) (eq-eqb (q + 3) (q + 3) refl))
see_props (node t f i r) w h =
    let q = w.st.page in
    let x = see (node t f i r) (begun w) in
    see_node 0x95 (node t f i r) w
    ∙ sym (ap (λ (b : Bool). pick b (see null_node (at x.templates x.page (to_page q x.st))) (wrap 0x95 q x)) (ne_eqb x.st.page (q + 3) (λ e. omega (arith, see_page t f i r (begun w), e))))
see_props (raw r s) w h = absurd (false≢true (sym h))

children_stand : (v : Mid) (w : World) → is_none v ≡ false → see (children_prop v) w ≡ wrap 0x96 w.st.page (see v (children_begun w))
unfolding children_prop
children_stand none w h = absurd (false≢true (sym h))
children_stand (node t f i r) w h =
    see_node 0x96 (node 0x81 (ascii "children") none (node t f i r)) w ∙ ap (wrap 0x96 w.st.page) (see_rest 0x81 (ascii "children") none (begun w) (node t f i r))
children_stand (raw q r) w h =
    see_node 0x96 (node 0x81 (ascii "children") none (raw q r)) w ∙ ap (wrap 0x96 w.st.page) (see_rest 0x81 (ascii "children") none (begun w) (raw q r))

module _ (n : Name) (as' : List Attribute) (w : World) where
  see_call : (v : Mid) → see (call_node n as' v) w ≡ call_closed n as' w (see (children_prop v) (call_props n as' w))
  unfolding call_node
  see_call v =
      let norm = not (is_component n) in
      let ps = props_of norm as' in
      let c = children_prop v in
      let key = key_of norm as' none in
      let w₁ = call_named n w in
      see_node 0x94 (name_expr n +++ (props_node (ps +++ c) +++ key)) w
      ∙ ap (wrap 0x94 w.st.page)
      (see_append (name_expr n) (props_node (ps +++ c) +++ key) (begun w)
      ∙ see_append (props_node (ps +++ c)) key w₁
      ∙ ap (see key) (see_props (ps +++ c) w₁ (props_first norm as' c (children_first v)) ∙ ap (props_closed w₁.st.page) (see_append ps c (begun w₁))))

  passed_closed : (d : Done Mid) (z : World) → passed d (call_closed n as' w z) ≡ call_closed n as' w (passed d z)
  passed_closed d z =
      let key = key_of (not (is_component n)) as' none in
      let q = (call_named n w).st.page in
      ap (wrap 0x94 w.st.page) (passed_see d key (props_closed q z) ∙ ap (see key) (passed_props_closed d q z))

  -- no children
  pub act_call_none : act (map (call_node n as') (found_pass nothing_found)) w ≡ call_closed n as' w (call_props n as' w)
  unfolding found_pass children_prop
  act_call_none = act_map_pure (call_node n as') none w ∙ see_call none ∙ ap (call_closed n as' w) (see_none (call_props n as' w))

  -- a pass that gives something
  pub act_call_some : (p : Pass Mid) → is_none (p w.st.first).value ≡ false →
      act (map (call_node n as') p) w ≡ call_closed n as' w (wrap 0x96 (call_props n as' w).st.page (act p (children_begun (call_props n as' w))))
  unfolding act map see
  act_call_some p h =
      let d = p w.st.first in
      let x = call_props n as' w in
      ap (passed d) (see_call d.value ∙ ap (call_closed n as' w) (children_stand d.value x h))
      ∙ passed_closed d (wrap 0x96 x.st.page (see d.value (children_begun x)))

  pub act_to_call : (cs : List Child) → act (to_call_expr n as' cs) w ≡ act (map (call_node n as') (found_pass (children_to_expr cs))) w
  unfolding to_call_expr
  act_to_call cs = refl

-- passes that give something
module _ (n : ℕ) where
  pub template_stands : (ps : List Part) → is_none (gen_template ps n).value ≡ false
  unfolding gen_template
  template_stands ps = refl

  pub raised_stands : (f : Flags) (p : Pass Mid) → is_none (raise f p n).value ≡ is_none (p n).value
  unfolding raise
  raised_stands f p = refl

  pub call_stands : (m : Name) (as' : List Attribute) (cs : List Child) → is_none (to_call_expr m as' cs n).value ≡ false
  unfolding to_call_expr map call_node
  call_stands m as' cs = refl

  pub array_stands : (es : List Entry) → is_none (found_pass (array_found es) n).value ≡ false
  unfolding found_pass map
  array_stands es = refl

-- ---- room, and lengths

module _ (p : Pass Mid) (w : World) where
  pub act_grows : Grows w (act p w)
  unfolding act see
  act_grows = record { g_first = omega arith; g_later = omega arith; g_templates = omega arith; g_page = omega arith }

  pub act_first : (act p w).st.first ≡ w.st.first + (p w.st.first).taken
  unfolding act see
  act_first = refl

  pub act_templates_length : length (act p w).templates ≡ length w.templates
  unfolding act
  act_templates_length = see_templates_length (p w.st.first).value w

  pub act_page_length : length (act p w).page ≡ length w.page
  unfolding act see
  act_page_length = length_put _ _ _
