-- The gaps of a template, as the page walk writes them: of an element, of its attributes and of its children. In a loop s is what is left of
-- a series, w where the walk stands, and total where it is to end. Main statements: `jsx_template`, `jsx_call`, `element_call`,
-- `element_parts`, `element_bare`, `parts_direct`; `template_room` and the like; `container_on`, `element_on`, `attr_on` and the like for a turn.
-- Assumes nothing.
use mathlib.Core.Path.{◌≡◌, refl, sym, ap, ◌∙◌, subst}
use Prim.Native.Nat.{ℕ, ◌+◌, ◌≤◌}
use native.Mathlib.Omega.{arith}
use mathlib.Core.Bool.{Bool, true, false}
use mathlib.Core.List.{List, [], ◌∷◌, ◌++◌}
use mathlib.Core.Option.{Option, none, some}
use lib.ListN.{length}
use Rattle.field.specs.Bytes.{Bytes, pick}
use Rattle.field.specs.Row.{Row, read, Ended}
use Rattle.field.specs.Front.{tag_of_front, body_of, behind_of}
use Rattle.field.proofs.RowLaws.{read_nil}
use Rattle.field.proofs.Actions.{Action, Lows, by, on, room, finish, low_now}
use Rattle.text.specs.Escape.{escape_html}
use Rattle.names.specs.Names.{AttrName, is_void_element}
use Rattle.page.specs.Page.{Name, identifier, member, namespaced, Options}
use Rattle.page.specs.Tree.{choose, attributes_in, attr_name_in, value_in, contained_in, expr_in, Contained, nothing_contained, contained}
use Rattle.spec.specs.Pass as S
use Rattle.spec.specs.Pass.{no_flags, Done, Pass, pure, Mid, node, ◌+++◌, Part, chars, gap}
use Rattle.spec.specs.Output.{escape_node, dynamic_exprs, gen_template}
use Rattle.spec.specs.Merge.{Shape, joined_text, Child, text, empty, container, element, fragment, spread, flush, merge}
use Rattle.spec.specs.Attributes as A
use Rattle.spec.specs.Attributes.{Attribute, is_serializable}
use Rattle.spec.specs.Children.{maybe_wrap, merged_parts, children_to_string, serialize_jsx, to_call_expr, element_to_string_vec}
use Rattle.spec.specs.Transform.{element_of, attributes, shape_of, expr}
use Rattle.decisions.specs.Index.{names_of}
use Rattle.decisions.specs.At.{opts, element_name, behind_name, identifier_bytes, attributes_at, children_at, element_at, serializable, IsAttribute, NoAttribute}
use Rattle.decisions.specs.Becomes.{Fate, dynamic, in_tag, tag_case, tag_parts, gap_case, gap_tag, gap_front, gap_expr, gap_behind, gap_mid, contained_mid, held as held_bytes, joins, leaves, as_child, child_case}
use Rattle.decisions.proofs.BecomesLaws.{parts_are, held_is, joins_text, leaves_none, leaves_wraps, leaves_expr}
use Rattle.decisions.specs.declared.becomes.AsChild.{AsChild}
use Rattle.decisions.specs.declared.becomes.AsChild.TheVariants as C
use Rattle.decisions.proofs.Laws.{element_serializable}
use Rattle.decisions.proofs.Series.{tested}
use Rattle.strings.specs.Carve.{child_parts, contained_parts}
use Rattle.strings.proofs.MergeLaws.{direct, child_direct}
use Rattle.strings.proofs.TreeLaws.{kids, attrs_at, attr_at, attrs_step, attrs_gone, inner, parts_at, parts_60, parts_52, parts_30, parts_31, parts_none, parts_other, element_open}
use Rattle.decisions.specs.declared.becomes.InTag.{InTag}
use Rattle.decisions.specs.declared.becomes.InTag.TheVariants as I
use Rattle.decisions.specs.declared.becomes.Gap.{Gap}
use Rattle.decisions.specs.declared.becomes.Gap.TheVariants as G
use Rattle.walk.specs.declared.state.Walk.{Walk}
use Rattle.walk.specs.See.{World, at, see, act, passed, begun, numbered, wrap, wrap_if, begun_if, to_page, Low}
use Rattle.walk.specs.Plan.{front, back}
use Rattle.walk.proofs.SeeLaws.{plain, see_node, Grows, see_grows, low_back, low_is, grows_same, grows_then, wrap_grows, at_see, lift_world}
use Rattle.walk.proofs.ActLaws.{see_append, act_pure, act_gen_template, act_no_parts, act_chars, act_mark, act_gap, act_dynamic_append, act_grows, act_templates_length, act_page_length}
use Rattle.visits.specs.Visiting.{expr_at, held_at}

-- ---- gaps, one after the other

pub parts : Action [] ◌++◌ (λ (ps : List Part). act (dynamic_exprs ps))
parts = record { nil = act_no_parts; append = act_dynamic_append }

pub parts_low : Lows (λ (w : World). Low w.st) (λ (ps : List Part). act (dynamic_exprs ps))
parts_low = record { back = λ ps w l. low_back (act_grows (dynamic_exprs ps) w) l }

-- a pass acts by what it gives from the next number on
pub act_by : (p q : Pass Mid) (w : World) → p w.st.first ≡ q w.st.first → act p w ≡ act q w
unfolding act
act_by p q w e = ap (λ (d : Done Mid). passed d (see d.value w)) e

-- both outs keep their lengths
module _ (p q : Pass Mid) (w w₀ : World) (g : act p w ≡ act q w₀) where
  pub templates_kept : length w.templates ≡ length w₀.templates
  templates_kept = sym (act_templates_length p w) ∙ ap (λ (x : World). length x.templates) g ∙ act_templates_length q w₀

  pub page_kept : length w.page ≡ length w₀.page
  page_kept = sym (act_page_length p w) ∙ ap (λ (x : World). length x.page) g ∙ act_page_length q w₀

-- ---- merging changes no gap

flush_gaps : (buf : Bytes) (cs : List Child) (w : World) → act (dynamic_exprs (merged_parts (flush buf cs))) w ≡ act (dynamic_exprs (merged_parts cs)) w
unfolding flush merged_parts
flush_gaps [] cs w = refl
flush_gaps (b ∷ buf) cs w = act_chars (b ∷ buf) (merged_parts cs) w

merge_gaps : (par : Bool) (buf : Bytes) (cs : List Child) (w : World) → act (dynamic_exprs (merged_parts (merge true par buf cs))) w ≡ act (dynamic_exprs (direct false cs)) w
unfolding merge merged_parts direct child_direct child_parts
merge_gaps par buf [] w = flush_gaps buf [] w
merge_gaps par buf (text t ∷ cs) w = merge_gaps par _ cs w ∙ sym (act_chars _ (direct false cs) w)
merge_gaps par buf (empty ∷ cs) w = merge_gaps par buf cs w
merge_gaps par buf (container s m ∷ cs) w = on_joined (joined_text s) (λ b. merge_gaps par (buf ++ b) cs w) (merge_gaps par [] cs (act (pure (maybe_wrap s m)) w))
  where
    on_joined : (j : Option Bytes) →
        ((b : Bytes) → act (dynamic_exprs (merged_parts (merge true par (buf ++ b) cs))) w ≡ act (dynamic_exprs (direct false cs)) w) →
        act (dynamic_exprs (merged_parts (merge true par [] cs))) (act (pure (maybe_wrap s m)) w) ≡ act (dynamic_exprs (direct false cs)) (act (pure (maybe_wrap s m)) w) →
        act (dynamic_exprs (merged_parts (elim j [ some b ↦ merge true par (buf ++ b) cs | none ↦ flush buf (container s m ∷ merge true par [] cs) ]))) w
        ≡ act (dynamic_exprs ((elim j [ some b ↦ chars b ∷ [] | none ↦ gap (pure (maybe_wrap s m)) ∷ [] ]) ++ direct false cs)) w
    on_joined (some b) f g = f b ∙ sym (act_chars b (direct false cs) w)
    on_joined none f g =
        flush_gaps buf (container s m ∷ merge true par [] cs) w
        ∙ act_gap (pure (maybe_wrap s m)) (merged_parts (merge true par [] cs)) w ∙ g ∙ sym (act_gap (pure (maybe_wrap s m)) (direct false cs) w)
merge_gaps par buf (element e ∷ cs) w =
    flush_gaps buf (element e ∷ merge true par [] cs) w
    ∙ act_dynamic_append e.to_string_vec (merged_parts (merge true par [] cs)) w
    ∙ merge_gaps par [] cs (act (dynamic_exprs e.to_string_vec) w) ∙ sym (act_dynamic_append e.to_string_vec (direct false cs) w)
merge_gaps par buf (fragment f ∷ cs) w =
    flush_gaps buf (fragment f ∷ merge true par [] cs) w
    ∙ act_dynamic_append f.to_string (merged_parts (merge true par [] cs)) w
    ∙ merge_gaps par [] cs (act (dynamic_exprs f.to_string) w) ∙ sym (act_dynamic_append f.to_string (direct false cs) w)
merge_gaps par buf (spread m ∷ cs) w = merge_gaps par buf cs w

-- at the end of a parent or not
pub parts_direct : (par : Bool) (cs : List Child) (w : World) → act (dynamic_exprs (children_to_string par cs)) w ≡ act (dynamic_exprs (direct false cs)) w
unfolding children_to_string
parts_direct par cs w = merge_gaps par [] cs w

-- ---- a template: its call is begun, its gaps are written, and it is closed

module _ (ps : List Part) (w : World) {total : World} (g : act (gen_template ps) w ≡ total) where
  template_is : wrap 0x90 w.st.page (act (dynamic_exprs ps) (numbered w)) ≡ total
  template_is = sym (act_gen_template ps w) ∙ g

  gaps_low : Low total.st → Low (act (dynamic_exprs ps) (numbered w)).st
  gaps_low l = low_back (wrap_grows 0x90 w.st.page (act (dynamic_exprs ps) (numbered w))) (low_is template_is l)

  pub template_room : Low total.st → Low (numbered w).st
  template_room l = low_back (act_grows (dynamic_exprs ps) (numbered w)) (gaps_low l)

  module _ {w₁ : World} (e₁ : w₁ ≡ numbered w) where
    pub template_inside : Low total.st → Low (act (dynamic_exprs ps) w₁).st
    template_inside l = low_is (ap (act (dynamic_exprs ps)) e₁) (gaps_low l)

    module _ {w₂ : World} (e₂ : w₂ ≡ act (dynamic_exprs ps) w₁) where
      gaps_are : w₂ ≡ act (dynamic_exprs ps) (numbered w)
      gaps_are = e₂ ∙ ap (act (dynamic_exprs ps)) e₁

      pub template_page : w.st.page + 3 ≤ w₂.st.page
      template_page = omega (arith, (act_grows (dynamic_exprs ps) (numbered w)).g_page, ap (λ (x : World). x.st.page) gaps_are)

      pub template_low : Low total.st → Low w₂.st
      template_low l = low_is gaps_are (gaps_low l)

      pub template_done : {w₃ : World} → w₃ ≡ wrap 0x90 w.st.page w₂ → w₃ ≡ total
      template_done e₃ = e₃ ∙ ap (wrap 0x90 w.st.page) gaps_are ∙ template_is

-- ---- an element

-- one that is no HTML is a gap
call_parts : (o : Options) (as' : List Attribute) (cs : List Child) (n : Name) → is_serializable o n as' ≡ false → element_to_string_vec o n as' cs ≡ gap (to_call_expr n as' cs) ∷ []
unfolding element_to_string_vec choose
call_parts o as' cs (identifier n) h = rw h
call_parts o as' cs (member ns) h = refl
call_parts o as' cs (namespaced n m) h = refl

-- no bytes hold no attribute and no child
no_attrs : (skip props : Bytes) (w : World) → act (dynamic_exprs (attrs_at skip props [])) w ≡ act (dynamic_exprs []) w
unfolding attributes_in attributes A.attrs_parts
no_attrs skip props w = ap (λ (x : Row). act (dynamic_exprs (A.attrs_parts (opts skip props) (attributes_at skip props x))) w) read_nil

no_inner : (skip props : Bytes) (w : World) → act (dynamic_exprs (children_to_string false (kids skip props []))) w ≡ act (dynamic_exprs []) w
no_inner skip props w = parts_direct false (kids skip props []) w ∙ ap (λ (ps : List Part). act (dynamic_exprs ps) w) (parts_none skip props false [] (subst Ended (sym read_nil) tt))

module _ (skip props b : Bytes) {z : Bool} (e : z ≡ serializable skip b) (w : World) where
  decided : {y : Bool} → z ≡ y → (element_at skip props b).serializable ≡ y
  decided h = element_serializable skip props b ∙ sym e ∙ h

  pub jsx_template : z ≡ true → act (gen_template (element_at skip props b).to_string_vec) w ≡ act (serialize_jsx (element_at skip props b)) w
  unfolding serialize_jsx choose
  jsx_template h = rw (decided h)

  pub jsx_call : z ≡ false → act (element_at skip props b).to_call_expr w ≡ act (serialize_jsx (element_at skip props b)) w
  unfolding serialize_jsx choose
  jsx_call h = rw (decided h)

  call_gap : z ≡ false → (element_at skip props b).to_string_vec ≡ gap (element_at skip props b).to_call_expr ∷ []
  unfolding element_at element_of
  call_gap h = call_parts (opts skip props) (attributes_at skip props (behind_name (read b))) (children_at skip props (behind_name (read b))) (element_name (read b)) (decided h)

  pub element_call : z ≡ false → act (element_at skip props b).to_call_expr w ≡ act (dynamic_exprs (element_at skip props b).to_string_vec) w
  element_call h =
      let p = (element_at skip props b).to_call_expr in
      sym (ap (λ (ps : List Part). act (dynamic_exprs ps) w) (call_gap h) ∙ act_gap p [] w ∙ act_no_parts (act p w))

  -- any other has the gaps of its attributes, and then, unless it is void, of its children
  module _ (h : z ≡ true) {r i : Bytes} (q : r ≡ behind_of b) (v : i ≡ pick (is_void_element (identifier_bytes (element_name (read b)))) [] (behind_of b)) where
    inner_gaps : (x : World) (y : Bool) →
        act (dynamic_exprs (pick y [] (inner skip props (identifier_bytes (element_name (read b))) r))) x
        ≡ act (dynamic_exprs (children_to_string false (kids skip props (pick y [] (behind_of b))))) x
    inner_gaps x true = sym (no_inner skip props x)
    inner_gaps x false =
        let n = identifier_bytes (element_name (read b)) in
        let c = chars (60 ∷ 47 ∷ (n ++ (62 ∷ []))) ∷ [] in
        let k = children_to_string true (kids skip props r) in
        act_dynamic_append k c x ∙ act_chars (60 ∷ 47 ∷ (n ++ (62 ∷ []))) [] (act (dynamic_exprs k) x) ∙ act_no_parts (act (dynamic_exprs k) x)
        ∙ parts_direct true (kids skip props r) x ∙ sym (parts_direct false (kids skip props r) x)
        ∙ ap (λ (y : Bytes). act (dynamic_exprs (children_to_string false (kids skip props y))) x) q

    pub element_parts : act (dynamic_exprs (children_to_string false (kids skip props i))) (act (dynamic_exprs (attrs_at skip props r)) w) ≡ act (dynamic_exprs (element_at skip props b).to_string_vec) w
    element_parts =
        let n = identifier_bytes (element_name (read b)) in
        let x = act (dynamic_exprs (attrs_at skip props r)) w in
        let ps = pick (is_void_element n) [] (inner skip props n r) in
        sym
        (ap (λ (ps : List Part). act (dynamic_exprs ps) w) (element_open skip props b e h refl q)
        ∙ act_mark _ (chars (60 ∷ escape_html n) ∷ (attrs_at skip props r ++ (chars (62 ∷ []) ∷ ps))) w
        ∙ act_chars _ (attrs_at skip props r ++ (chars (62 ∷ []) ∷ ps)) w
        ∙ act_dynamic_append (attrs_at skip props r) (chars (62 ∷ []) ∷ ps) w
        ∙ act_chars (62 ∷ []) ps x
        ∙ inner_gaps x (is_void_element n)
        ∙ ap (λ (y : Bytes). act (dynamic_exprs (children_to_string false (kids skip props y))) x) (sym v))

    pub attrs_room : Low (act (dynamic_exprs (element_at skip props b).to_string_vec) w).st → Low (act (dynamic_exprs (attrs_at skip props r)) w).st
    attrs_room l = low_back (act_grows (dynamic_exprs (children_to_string false (kids skip props i))) (act (dynamic_exprs (attrs_at skip props r)) w)) (low_is element_parts l)

    module _ {w₁ : World} (e₁ : w₁ ≡ act (dynamic_exprs (attrs_at skip props r)) w) where
      pub inner_done : {w₂ : World} → w₂ ≡ act (dynamic_exprs (children_to_string false (kids skip props i))) w₁ → w₂ ≡ act (dynamic_exprs (element_at skip props b).to_string_vec) w
      inner_done e₂ = e₂ ∙ ap (act (dynamic_exprs (children_to_string false (kids skip props i)))) e₁ ∙ element_parts

      pub inner_room : Low (act (dynamic_exprs (element_at skip props b).to_string_vec) w).st → Low (act (dynamic_exprs (children_to_string false (kids skip props i))) w₁).st
      inner_room l = low_is (inner_done refl) l

  -- with nothing behind its name it has none
  module _ (h : z ≡ true) where
    bare : (r : Bytes) → r ≡ behind_of b → length r ≡ 0 → w ≡ act (dynamic_exprs (element_at skip props b).to_string_vec) w
    bare [] q n =
        let x = act (dynamic_exprs (attrs_at skip props [])) w in
        sym (no_inner skip props x ∙ act_no_parts x ∙ no_attrs skip props w ∙ act_no_parts w)
        ∙ element_parts h q (either (is_void_element (identifier_bytes (element_name (read b)))))
      where
        either : (y : Bool) → [] ≡ pick y [] (behind_of b)
        either true = refl
        either false = q
    bare (x ∷ r) q n = absurd (omega arith)

    pub element_bare : {r : Bytes} → r ≡ behind_of b → length r ≡ 0 → w ≡ act (dynamic_exprs (element_at skip props b).to_string_vec) w
    element_bare {r} q n = bare r q n

-- ---- a container, by what becomes of it

module _ (o : Options) where
  abbrev by_join : Shape → Mid → Option Bytes → List Part
  by_join s m j = elim j [ some b ↦ chars b ∷ [] | none ↦ gap (pure (maybe_wrap s m)) ∷ [] ]

  -- its expression, wrapped with jsxEscape or not
  leaves_parts : (r : Row) {z : Bool} → leaves z ≡ as_child (contained_in r) →
      contained_parts o (contained_in r) ≡ gap (pure (pick z (escape_node (expr o (expr_in r) S.none)) (expr o (expr_in r) S.none))) ∷ []
  unfolding contained_parts child_parts as_child
  leaves_parts r {z} q =
      let e = expr_in r in
      let h : contained_in r ≡ contained e = leaves_expr r q in
      let k : leaves z ≡ as_child (contained e) = q ∙ ap as_child h in
      ap (contained_parts o) h
      ∙ ap (by_join (shape_of e) (expr o e S.none)) (leaves_none (shape_of e) k)
      ∙ ap (λ (m : Mid). gap (pure m) ∷ []) (leaves_wraps (shape_of e) (expr o e S.none) k)

  container_is : (r : Row) (w : World) {z : Bool} → leaves z ≡ as_child (contained_in r) →
      act (dynamic_exprs (contained_parts o (contained_in r))) w ≡ wrap_if z 0x92 w.st.page (see (expr o (expr_in r) S.none) (begun_if z w))
  container_is r w {z} q =
      let m = expr o (expr_in r) S.none in
      let n = pick z (escape_node m) m in
      ap (λ (ps : List Part). act (dynamic_exprs ps) w) (leaves_parts r q) ∙ act_gap (pure n) [] w ∙ act_no_parts (act (pure n) w) ∙ act_pure n w ∙ wrapped z
    where
      wrapped : (z : Bool) → see (pick z (escape_node (expr o (expr_in r) S.none)) (expr o (expr_in r) S.none)) w ≡ wrap_if z 0x92 w.st.page (see (expr o (expr_in r) S.none) (begun_if z w))
      wrapped true = see_node 0x92 (expr o (expr_in r) S.none) w
      wrapped false = refl

  -- what joins has no gap
  joins_no_gap : (x : Contained) (w : World) {t : Bytes} → joins t ≡ as_child x → act (dynamic_exprs (contained_parts o x)) w ≡ w
  unfolding contained_parts child_parts as_child
  joins_no_gap nothing_contained w q = act_no_parts w
  joins_no_gap (contained e) w {t} q =
      ap (λ (j : Option Bytes). act (dynamic_exprs (by_join (shape_of e) (expr o e S.none) j)) w) (joins_text (shape_of e) q) ∙ act_chars (escape_html t) [] w ∙ act_no_parts w

wrap_if_grows : (z : Bool) (t q : ℕ) (w : World) → Grows w (wrap_if z t q w)
wrap_if_grows true t q w = wrap_grows t q w
wrap_if_grows false t q w = grows_same w

begun_if_page : (z : Bool) (w : World) → z ≡ true → w.st.page + 3 ≤ (begun_if z w).st.page
begun_if_page z w h = subst (λ (y : Bool). w.st.page + 3 ≤ (begun_if y w).st.page) (sym h) (omega arith)

-- ---- a turn over children

module _ (skip props s : Bytes) (n : ℕ) (e : n ≡ tag_of_front s) (w : World) {total : World} (g : act (dynamic_exprs (parts_at skip props false s)) w ≡ total) where
  pub parts_room : Low total.st → Low w.st
  parts_room l = low_now parts_low g l

  module _ (h : n ≡ 0x52) {c : Bytes} (p : c ≡ body_of s) where
    abbrev child : List Part
    child = contained_parts (opts skip props) (contained_in (read c))

    -- a text leaves none
    joined_past : {t : Bytes} → joins t ≡ as_child (contained_in (read c)) → {r : Bytes} → r ≡ behind_of s → act (dynamic_exprs (parts_at skip props false r)) w ≡ total
    joined_past f q = on parts child (by parts (parts_52 skip props false s n e p q h) g) (sym (joins_no_gap (opts skip props) (contained_in (read c)) w f))

    pub child_past : (x : AsChild) → ((z : Bool) → x ≡ C.Gap z → ⊥) → child_case x ≡ as_child (contained_in (read c)) → {r : Bytes} → r ≡ behind_of s →
        act (dynamic_exprs (parts_at skip props false r)) w ≡ total
    child_past (C.Text t) g f q = joined_past f q
    child_past (C.Gap z) g f q = absurd (g z refl)

    module _ {z : Bool} (f : leaves z ≡ as_child (contained_in (read c))) where
      abbrev m : Mid
      m = expr_at skip props c

      contained_is : wrap_if z 0x92 w.st.page (see m (begun_if z w)) ≡ act (dynamic_exprs child) w
      contained_is = sym (container_is (opts skip props) (read c) w f)

      contained_low : Low total.st → Low (see m (begun_if z w)).st
      contained_low l =
          low_back (wrap_if_grows z 0x92 w.st.page (see m (begun_if z w)))
          (low_is contained_is (room parts parts_low child (by parts (parts_52 skip props false s n e p refl h) g) l))

      module _ {w₁ : World} (e₁ : w₁ ≡ begun_if z w) where
        pub container_room : Low total.st → Low (see m w₁).st
        container_room l = low_is (ap (see m) e₁) (contained_low l)

        module _ {w₂ : World} (e₂ : w₂ ≡ see m w₁) where
          pub container_page : z ≡ true → w.st.page + 3 ≤ w₂.st.page
          container_page y = omega (arith, begun_if_page z w y, (see_grows m (begun_if z w)).g_page, ap (λ (x : World). x.st.page) (e₂ ∙ ap (see m) e₁))

          pub container_low : Low total.st → Low w₂.st
          container_low l = low_is e₂ (container_room l)

          pub container_on : {r : Bytes} → r ≡ behind_of s → {w₃ : World} → w₃ ≡ wrap_if z 0x92 w.st.page w₂ → act (dynamic_exprs (parts_at skip props false r)) w₃ ≡ total
          container_on q e₃ = on parts child (by parts (parts_52 skip props false s n e p q h) g) (e₃ ∙ ap (wrap_if z 0x92 w.st.page) (e₂ ∙ ap (see m) e₁) ∙ contained_is)

  module _ (h : n ≡ 0x30) {b : Bytes} (p : b ≡ body_of s) where
    pub element_room : Low total.st → Low (act (dynamic_exprs (element_at skip props b).to_string_vec) w).st
    element_room l = room parts parts_low (element_at skip props b).to_string_vec (by parts (parts_30 skip props false s n e p refl h) g) l

    pub element_on : {r : Bytes} → r ≡ behind_of s → {w' : World} → w' ≡ act (dynamic_exprs (element_at skip props b).to_string_vec) w → act (dynamic_exprs (parts_at skip props false r)) w' ≡ total
    element_on q d = on parts (element_at skip props b).to_string_vec (by parts (parts_30 skip props false s n e p q h) g) d

  module _ (h : n ≡ 0x31) {b : Bytes} (p : b ≡ body_of s) where
    pub fragment_room : Low total.st → Low (act (dynamic_exprs (children_to_string false (kids skip props b))) w).st
    fragment_room l = room parts parts_low (children_to_string false (kids skip props b)) (by parts (parts_31 skip props false s n e p refl h) g) l

    pub fragment_on : {r : Bytes} → r ≡ behind_of s → {w' : World} → w' ≡ act (dynamic_exprs (children_to_string false (kids skip props b))) w → act (dynamic_exprs (parts_at skip props false r)) w' ≡ total
    fragment_on q d = on parts (children_to_string false (kids skip props b)) (by parts (parts_31 skip props false s n e p q h) g) d

  -- a text leaves no gap, and no more does what is no child
  pub parts_past : (n ≡ 256 → ⊥) → (n ≡ 0x52 → ⊥) → (n ≡ 0x30 → ⊥) → (n ≡ 0x31 → ⊥) → {r : Bytes} → r ≡ behind_of s → act (dynamic_exprs (parts_at skip props false r)) w ≡ total
  parts_past a b c d {r} q =
      tested n 0x60 (λ h. sym (ap (λ (ps : List Part). act (dynamic_exprs ps) w) (parts_60 skip props false s n e refl q h refl) ∙ act_chars _ (parts_at skip props false r) w) ∙ g)
      λ h. by parts (parts_other skip props false s n e q a h b c d) g

  pub parts_end : Ended (read s) → w ≡ total
  parts_end i = finish parts (by parts (parts_none skip props false s i) g)

-- ---- the field that an attribute leaves, in an opening tag or in a call

-- a field's fields, one behind the other
field_is : (t : ℕ) (f h z : Mid) (w : World) → see (node t [] (f +++ (h +++ z)) S.none) w ≡ wrap t w.st.page (see z (see h (see f (begun w))))
field_is t f h z w = see_node t (f +++ (h +++ z)) w ∙ ap (wrap t w.st.page) (see_append f (h +++ z) (begun w) ∙ see_append h z (see f (begun w)))

-- no template stands in its ends
front_plain : (turn : Bytes → Bytes) (n : AttrName) (u : Gap) → plain (gap_front turn n (gap_case u)) ≡ true
front_plain turn n (G.True norm) = refl
front_plain turn n (G.String norm b) = refl
front_plain turn n G.Null = refl
front_plain turn n (G.Attr norm c) = refl
front_plain turn n (G.Choice c) = refl

behind_plain : (n : AttrName) (u : Gap) → plain (gap_behind n (gap_case u)) ≡ true
behind_plain n (G.True norm) = refl
behind_plain n (G.String norm b) = refl
behind_plain n G.Null = refl
behind_plain n (G.Attr norm c) = refl
behind_plain n (G.Choice c) = refl

-- a is the fields of a 50, u the gap that it leaves, and t its tag
module _ (skip props : Bytes) (t : ℕ) (turn : Bytes → Bytes) (a : Bytes) (u : Gap) (w : World) where
  abbrev name : AttrName
  name = attr_name_in (read a)

  abbrev pub gap_field : Mid
  gap_field = gap_mid t turn (opts skip props) name (gap_case u)

  abbrev held : Mid
  held = contained_mid (opts skip props) (gap_expr (gap_case u))

  gap_is : back t a u w.st.page (see held (front turn a u w)) ≡ see gap_field w
  unfolding gap_mid
  gap_is = sym (field_is (gap_tag t (gap_case u)) (gap_front turn name (gap_case u)) held (gap_behind name (gap_case u)) w)

  inner_low : Low (see gap_field w).st → Low (see held (front turn a u w)).st
  inner_low l =
      let x = see held (front turn a u w) in
      let b = gap_behind name (gap_case u) in
      low_back (grows_then (see_grows b x) (wrap_grows (gap_tag t (gap_case u)) w.st.page (see b x))) (low_is gap_is l)

  front_is : at w.templates (front turn a u (at [] w.page w.st)).page (front turn a u (at [] w.page w.st)).st ≡ front turn a u w
  front_is = at_see w.templates (gap_front turn name (gap_case u)) (front_plain turn name u) w.page (to_page (w.st.page + 3) w.st)

  pub gap_front_room : Low (see gap_field w).st → Low (front turn a u (at [] w.page w.st)).st
  gap_front_room l = subst Low (sym (ap (λ (x : World). x.st) front_is)) (low_back (see_grows held (front turn a u w)) (inner_low l))

  -- what the code visits, c, is what is held
  module _ {p₁ : Bytes} {x₁ : Walk} (f₁ : at [] p₁ x₁ ≡ front turn a u (at [] w.page w.st)) {c : Bytes} (d : c ≡ held_bytes u) where
    inner_is : see (held_at skip props c) (at w.templates p₁ x₁) ≡ see held (front turn a u w)
    unfolding contained_mid
    inner_is =
        ap (λ (y : Mid). see y (at w.templates p₁ x₁)) (ap (λ (x : Bytes). held_at skip props x) d ∙ ap (contained_mid (opts skip props)) (held_is u))
        ∙ ap (see held) (lift_world w.templates f₁ ∙ front_is)

    pub gap_held_room : Low (see gap_field w).st → Low (see (held_at skip props c) (at w.templates p₁ x₁)).st
    gap_held_room l = low_is inner_is (inner_low l)

    module _ {o₂ p₂ : Bytes} {x₂ : Walk} (e₂ : at o₂ p₂ x₂ ≡ see (held_at skip props c) (at w.templates p₁ x₁)) where
      back_is : at o₂ (back t a u w.st.page (at [] p₂ x₂)).page (back t a u w.st.page (at [] p₂ x₂)).st ≡ see gap_field w
      back_is = ap (wrap (gap_tag t (gap_case u)) w.st.page) (at_see o₂ (gap_behind name (gap_case u)) (behind_plain name u) p₂ x₂) ∙ ap (back t a u w.st.page) (e₂ ∙ inner_is) ∙ gap_is

      pub gap_back_room : Low (see gap_field w).st → (w.st.page + 3 ≤ x₂.page) × Low (back t a u w.st.page (at [] p₂ x₂)).st
      gap_back_room l = (
        omega (
          arith,
          (see_grows (gap_front turn name (gap_case u)) (begun w)).g_page,
          (see_grows held (front turn a u w)).g_page,
          ap (λ (x : World). x.st.page) (e₂ ∙ inner_is),
        ),
        subst Low (sym (ap (λ (x : World). x.st) back_is)) l,
      )

      pub gap_done : {p₃ : Bytes} {x₃ : Walk} → at [] p₃ x₃ ≡ back t a u w.st.page (at [] p₂ x₂) → at o₂ p₃ x₃ ≡ see gap_field w
      gap_done f₃ = lift_world o₂ f₃ ∙ back_is

-- ---- a turn over attributes: a is the fields of a 50, f what becomes of it, and r the row behind it

module _ (skip props s : Bytes) (w : World) {total : World} (g : act (dynamic_exprs (attrs_at skip props s)) w ≡ total) where
  -- the gap u of the attribute with the fields a
  abbrev left : Bytes → Gap → Mid
  left a u = gap_field skip props 0x91 (λ b. b) a u w

  module _ {a r : Bytes} (i : IsAttribute s a r) {f : Fate} (k : f ≡ in_tag (names_of props) (attr_name_in (read a)) (value_in (read a))) where
    fate_is : act (dynamic_exprs (tag_parts (opts skip props) (attr_name_in (read a)) f)) w ≡ act (dynamic_exprs (attr_at skip props a)) w
    fate_is =
        sym
        (ap (λ (ps : List Part). act (dynamic_exprs ps) w)
        (parts_are (opts skip props) (attr_name_in (read a)) (value_in (read a)) ∙ ap (tag_parts (opts skip props) (attr_name_in (read a))) (sym k)))

    fate_on : {w' : World} → w' ≡ act (dynamic_exprs (tag_parts (opts skip props) (attr_name_in (read a)) f)) w → act (dynamic_exprs (attrs_at skip props r)) w' ≡ total
    fate_on e = on parts (attr_at skip props a) (by parts (attrs_step skip props i) g) (e ∙ fate_is)

    fate_low : Low total.st → Low (act (dynamic_exprs (tag_parts (opts skip props) (attr_name_in (read a)) f)) w).st
    fate_low l = low_is fate_is (room parts parts_low (attr_at skip props a) (by parts (attrs_step skip props i) g) l)

  module _ {a r : Bytes} (i : IsAttribute s a r) where
    -- one that leaves no gap
    pub attr_past : (x : InTag) → ((u : Gap) → x ≡ I.Gap u → ⊥) → tag_case x ≡ in_tag (names_of props) (attr_name_in (read a)) (value_in (read a)) → act (dynamic_exprs (attrs_at skip props r)) w ≡ total
    attr_past I.Nothing n k = fate_on i k (sym (act_no_parts w))
    attr_past I.Name n k = fate_on i k (sym (act_chars _ [] w ∙ act_no_parts w))
    attr_past (I.Text v) n k = fate_on i k (sym (act_chars _ [] w ∙ act_no_parts w))
    attr_past (I.Gap u) n k = absurd (n u refl)

    -- one that leaves the gap u
    module _ (u : Gap) (k : dynamic (gap_case u) ≡ in_tag (names_of props) (attr_name_in (read a)) (value_in (read a))) where
      one_gap : act (dynamic_exprs (tag_parts (opts skip props) (attr_name_in (read a)) (dynamic (gap_case u)))) w ≡ see (left a u) w
      one_gap = act_chars (32 ∷ []) (gap (pure (left a u)) ∷ []) w ∙ act_gap (pure (left a u)) [] w ∙ act_no_parts (act (pure (left a u)) w) ∙ act_pure (left a u) w

      pub attr_low : Low total.st → Low (see (left a u) w).st
      attr_low l = low_is (sym one_gap) (fate_low i k l)

      pub attr_on : {w' : World} → w' ≡ see (left a u) w → act (dynamic_exprs (attrs_at skip props r)) w' ≡ total
      attr_on e = fate_on i k (e ∙ sym one_gap)

  pub attrs_end : {r : Bytes} → NoAttribute s r → w ≡ total
  attrs_end n = finish parts (by parts (attrs_gone skip props n) g)
