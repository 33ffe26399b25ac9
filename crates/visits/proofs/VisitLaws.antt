-- A visit: the record walk, and then both passes with the numbers behind it. What a first pass gives is no tag, or the tag is left. What the
-- children of a fragment give, by its kind; a fragment, by how many children it has and by the first.
-- Main statements: `see_visit`; `element_*`, `template_*` and `found_*` for the steps of a visit; `left_room`, `left_done`; `fragment_*`. Assumes nothing.
use mathlib.Core.Path.{◌≡◌, refl, sym, ap, ◌∙◌, subst}
use Prim.Native.Nat.{ℕ, ◌+◌, ◌≤◌}
use native.Mathlib.Omega.{arith}
use mathlib.Core.List.{List, [], ◌∷◌, ◌++◌}
use mathlib.Core.Bool.{Bool, true, false, ◌||◌, or-false, false≢true}
use lib.Dec.{eqb}
use lib.ListN.{length}
use borrow.Author.Tests.{ne_eqb}
use Rattle.field.specs.Bytes.{Bytes, pick}
use Rattle.field.specs.Row.{Row, end, field, read, bytes, long_body}
use Rattle.field.specs.Front.{tag_of_front, body_of, behind_of}
use Rattle.field.proofs.PutLaws.{put_nil}
use Rattle.page.specs.Number.{Number, whole, scaled, number_tag, minus_tag, number_in}
use Rattle.page.specs.Page as P
use Rattle.page.specs.Page.{Options}
use Rattle.page.specs.Tree.{choose, expr_by, Contained, nothing_contained, contained, element_in, fragment_in, children_in, contained_in, expr_in}
use Rattle.page.proofs.Tags.{ChildTag, text_tag, container_tag, element_child_tag, fragment_child_tag, spread_child_tag, child_tag}
use Rattle.spec.specs.Pass.{Done, Pass, pure, map, both, bind, raise, join, no_flags, Raw, Mid, none, node, raw, ◌⧺◌, Part}
use Rattle.spec.specs.Output.{leaf, gen_template, dynamic_exprs}
use Rattle.spec.specs.Merge as M
use Rattle.spec.specs.Merge.{nothing_found, one_found, array_found}
use Rattle.spec.specs.Children.{children_to_string, serialize_jsx, found_of, entry_pass, found_pass, children_to_expr, call_node, to_call_expr}
use Rattle.spec.specs.Visit.{visit_exprs, visit_inside, visit_after, visit_found, visit_only_child, visit_fragment, leave}
use Rattle.spec.specs.Transform.{templates_row, stands, element_of, fragment_of, element_raw, shape_of, expr, children, child}
use Rattle.decisions.specs.declared.children.Count.{Count}
use Rattle.decisions.specs.declared.children.Count.TheVariants.{Zero, One, More}
use Rattle.decisions.specs.At.{opts, element_at, children_at, is_none, few, FirstChild}
use Rattle.decisions.proofs.Series.{tested, any_front, children_61, expr_70, expr_71, expr_72, expr_74, expr_75, expr_76, expr_79, expr_7a, expr_7b, expr_30, expr_31}
use Rattle.strings.specs.Recorded.{recorded}
use Rattle.strings.proofs.TreeLaws.{held, kids_60, kids_52, kids_30, kids_31}
use Rattle.records.specs.declared.Records.{Records}
use Rattle.records.specs.Keep as K
use Rattle.records.specs.Keep.{keep}
use Rattle.found.specs.Finds.{Finds, part}
use Rattle.found.specs.declared.Kind.{Kind}
use Rattle.found.specs.declared.Kind.TheVariants as F
use Rattle.walk.specs.declared.state.Walk.{Walk}
use Rattle.strings.specs.Due.{graver, long_due, grave}
use Rattle.walk.specs.See.{World, at, wrote, see, passed, act, numbered, wrap, left, Low}
use Rattle.walk.proofs.SeeLaws.{Split, wrote_then, lift, lift_left, low_is}
use Rattle.walk.proofs.ActLaws.{see_raw, after_fields, passed_see, act_gen_template, act_grows, act_first}
use Rattle.visits.specs.Visiting.{Place, expr_at, element_mid, fragment_mid, is_left, found_out, recording, entered, enter, with_first, returned, Given}
use Rattle.visits.proofs.FieldLaws.{template_begin, template_inner, template_close, template_done}

-- ---- a visit

-- a tag stands in front
abbrev pub is_raw : Mid → Bool
is_raw none = false
is_raw (node t f i r) = false
is_raw (raw q r) = true

inside_exprs : (m : Mid) (n : ℕ) → is_raw m ≡ false → visit_inside m n ≡ visit_exprs m n
unfolding visit_inside visit_exprs
inside_exprs none n h = refl
inside_exprs (node t f i r) n h = refl
inside_exprs (raw q r) n h = absurd (false≢true (sym h))

-- a tag is seen by its visit alone
pub see_visited : (q q' : Raw) (w : World) → q w.st.later ≡ q' w.st.later → see (raw q none) w ≡ see (raw q' none) w
unfolding see visit_exprs both pure
see_visited q q' w e = ap (λ (d : Done Row). wrote (record { value = d.value ⧺ end; taken = d.taken + 0; templates = d.templates ++ []; flags = join d.flags no_flags }) w) e

split_end : (v : Row) → Split v end v
unfolding bytes stands long_body
split_end v = record { split_bytes = refl; split_stands = λ u. refl; split_long = refl }

module _ (p : Pass Mid) (w : World) where
  abbrev recorded_by : K.Kept
  recorded_by = keep p (K.at w.templates (recording w.st))

  -- what the first pass takes, records and raises; the page is written behind it
  taken_by : Done Row
  taken_by = let r = p w.st.later in record { value = end; taken = r.taken; templates = r.templates; flags = r.flags }

  wrote_taken : wrote taken_by w ≡ returned w.st.first (passed (p w.st.later) (enter recorded_by w))
  unfolding taken_by keep bytes stands long_body
  wrote_taken =
      let r = p w.st.later in
      let s = w.st.seen in
      let n : w.st.page + 0 ≡ w.st.page = omega arith in
      λ i. record {
        templates = recorded r.templates w.templates w.st.templates;
        page = put_nil w.page w.st.page i;
        st =
            record {
              first = w.st.first;
              later = w.st.later + r.taken;
              templates = w.st.templates + length (bytes (templates_row r.templates));
              page = n i;
              seen =
                  record {
                    jsx = or-false s.jsx i;
                    attr = or-false s.attr i;
                    escape = or-false s.escape i;
                    due = graver s.due (graver (grave r.flags) (long_due (or-false (long_body (templates_row r.templates)) i)));
                  };
            };
      }

-- q is visited as what p gives, which is no tag
module _ (q : Raw) (p : Pass Mid) (w : World) (v : q w.st.later ≡ visit_after p w.st.later) (h : is_raw (p w.st.later).value ≡ false) where
  pub see_visit : see (raw q none) w ≡ returned w.st.first (act p (enter (recorded_by p w) w))
  unfolding visit_after bind act see keep taken_by
  see_visit =
      let a : Raw = visit_after p in
      let r = p w.st.later in
      let d = visit_exprs r.value (w.st.later + r.taken) in
      see_visited q a w v
      ∙ see_raw a w (after_fields p w.st.later)
      ∙ ap (λ (e : Done Row). wrote (record { value = e.value; taken = r.taken + e.taken; templates = r.templates ++ e.templates; flags = join r.flags e.flags }) w) (inside_exprs r.value (w.st.later + r.taken) h)
      ∙ wrote_then (taken_by p w) d d.value (split_end d.value) w
      ∙ ap (wrote d) (wrote_taken p w)
      ∙ ap (returned w.st.first) (sym (passed_see r r.value (enter (recorded_by p w) w)))

  visit_low : Low (see (raw q none) w).st → Low (returned w.st.first (act p (enter (recorded_by p w) w))).st
  visit_low l = low_is (sym see_visit) l

  -- room for the record walk
  record_low : Low (see (raw q none) w).st → K.Low (recorded_by p w)
  record_low l =
      let g = act_grows p (enter (recorded_by p w) w) in
      let m = visit_low l in
      record { low_next = omega (arith, g.g_later, m.low_later); low_place = omega (arith, g.g_templates, m.low_templates) }

  -- and for both passes behind it, the first of which takes no more numbers than the record walk did
  pass_low : Low (see (raw q none) w).st → Low (act p (enter (recorded_by p w) w)).st
  unfolding keep
  pass_low l =
      let g = act_grows p (enter (recorded_by p w) w) in
      let m = visit_low l in
      record { low_first = omega (arith, act_first p (enter (recorded_by p w) w), g.g_later, m.low_later); low_later = m.low_later; low_templates = m.low_templates; low_page = m.low_page }

-- the same in the words of the code: rs is what `records_of` gives, k what the record walk leaves, and x where both passes begin
module _ (q : Raw) (p : Pass Mid) (o g : Bytes) (st : Walk) (v : q st.later ≡ visit_after p st.later) (h : is_raw (p st.later).value ≡ false) {rs : Records} (e : rs ≡ recording st) where
  pub visit_recorded : Low (see (raw q none) (at o g st)).st → K.Low (keep p (K.at o rs))
  visit_recorded l = subst (λ (z : Records). K.Low (keep p (K.at o z))) (sym e) (record_low q p (at o g st) v h l)

  module _ {o₁ : Bytes} {k : Records} (d : K.at o₁ k ≡ keep p (K.at o rs)) {x : Walk} (f : x ≡ entered k st) where
    entered_is : at o₁ g x ≡ enter (recorded_by p (at o g st)) (at o g st)
    entered_is = ap (at o₁ g) f ∙ ap (λ (z : K.Kept). enter z (at o g st)) (d ∙ ap (λ (z : Records). keep p (K.at o z)) e)

    pub visit_paged : Low (see (raw q none) (at o g st)).st → Low (act p (at o₁ g x)).st
    visit_paged l = low_is (ap (act p) entered_is) (pass_low q p (at o g st) v h l)

    pub visit_done : {o₂ g₂ : Bytes} {y : Walk} → at o₂ g₂ y ≡ act p (at o₁ g x) → {z : Walk} → z ≡ with_first st.first y → at o₂ g₂ z ≡ see (raw q none) (at o g st)
    visit_done {o₂} {g₂} {y} a {z} b = ap (at o₂ g₂) b ∙ (ap (returned st.first) (a ∙ ap (act p) entered_is) ∙ sym (see_visit q p (at o g st) v h))

-- ---- a visit that gives a template: `begin_template`, its parts, `close`

template_untagged : (ps : List Part) (n : ℕ) → is_raw (gen_template ps n).value ≡ false
unfolding gen_template
template_untagged ps n = refl

abbrev pub template_raw : (skip props s : Bytes) → Raw
template_raw skip props s = visit_after (gen_template (children_to_string false (children_at skip props (read s))))

module _ (skip props s o g : Bytes) (st : Walk) {rs : Records} (e : rs ≡ recording st) where
  abbrev parts : List Part
  parts = children_to_string false (children_at skip props (read s))

  pub template_recorded : Low (see (raw (template_raw skip props s) none) (at o g st)).st → K.Low (keep (gen_template (children_to_string false (children_at skip props (read s)))) (K.at o rs))
  template_recorded = visit_recorded (template_raw skip props s) (gen_template parts) o g st refl (template_untagged parts st.later) e

  module _ {o₁ : Bytes} {k : Records} (d : K.at o₁ k ≡ keep (gen_template (children_to_string false (children_at skip props (read s)))) (K.at o rs)) {x : Walk} (f : x ≡ entered k st) where
    paged : Low (see (raw (template_raw skip props s) none) (at o g st)).st → Low (act (gen_template parts) (at o₁ g x)).st
    paged = visit_paged (template_raw skip props s) (gen_template parts) o g st refl (template_untagged parts st.later) e d f

    -- the record walk leaves the place in page out
    same_place : st.page ≡ x.page
    same_place = sym (ap (λ (y : Walk). y.page) f)

    pub template_start : Low (see (raw (template_raw skip props s) none) (at o g st)).st → Low (numbered (at [] g x)).st
    template_start l = template_begin 0x90 (act (dynamic_exprs parts)) (act_grows (dynamic_exprs parts)) o₁ g x (act (gen_template parts) (at o₁ g x)) (act_gen_template parts (at o₁ g x)) (paged l)

    module _ {g₁ : Bytes} {r : Walk} (e₁ : at [] g₁ r ≡ numbered (at [] g x)) where
      pub template_parts : Low (see (raw (template_raw skip props s) none) (at o g st)).st → Low (act (dynamic_exprs (children_to_string false (children_at skip props (read s)))) (at o₁ g₁ r)).st
      template_parts l = template_inner 0x90 (act (dynamic_exprs parts)) (act_grows (dynamic_exprs parts)) o₁ g x (act (gen_template parts) (at o₁ g x)) (act_gen_template parts (at o₁ g x)) g₁ r e₁ (paged l)

      module _ {o₂ g₂ : Bytes} {y : Walk} (e₂ : at o₂ g₂ y ≡ act (dynamic_exprs (children_to_string false (children_at skip props (read s)))) (at o₁ g₁ r)) where
        pub template_end : Low (see (raw (template_raw skip props s) none) (at o g st)).st → (st.page + 3 ≤ y.page) × Low y
        template_end l =
            subst (λ (n : ℕ). (n + 3 ≤ y.page) × Low y) (sym same_place)
            (template_close 0x90 (act (dynamic_exprs parts)) (act_grows (dynamic_exprs parts)) o₁ g x (act (gen_template parts) (at o₁ g x)) (act_gen_template parts (at o₁ g x)) g₁ r e₁ o₂ g₂ y e₂ (paged l))

        pub template_visited : {g₃ : Bytes} {z : Walk} → at [] g₃ z ≡ wrap 0x90 st.page (at [] g₂ y) → {z' : Walk} → z' ≡ with_first st.first z →
            at o₂ g₃ z' ≡ see (raw (template_raw skip props s) none) (at o g st)
        template_visited {g₃} {z} e₃ b =
            visit_done (template_raw skip props s) (gen_template parts) o g st refl (template_untagged parts st.later) e d f
            (template_done 0x90 (act (dynamic_exprs parts)) (act_grows (dynamic_exprs parts)) o₁ g x (act (gen_template parts) (at o₁ g x)) (act_gen_template parts (at o₁ g x)) g₁ r e₁ o₂ g₂ y e₂ g₃ z
            (e₃ ∙ ap (λ (n : ℕ). wrap 0x90 n (at [] g₂ y)) same_place))
            b

-- ---- a tag that is left

pub see_left : (w : World) → see (raw leave none) w ≡ left w
unfolding left leave raise pure ◌⧺◌
see_left w = see_raw leave w refl

-- in the words of `leave`
module _ (m : Mid) (o g : Bytes) (st : Walk) (e : see m (at o g st) ≡ left (at o g st)) where
  pub left_room : Low (see m (at o g st)).st → Low (left (at [] g st)).st
  unfolding left
  left_room l = low_is (sym e) l

  pub left_done : (g₁ : Bytes) (r : Walk) → at [] g₁ r ≡ left (at [] g st) → at o g₁ r ≡ see m (at o g st)
  left_done g₁ r d = lift_left o g g₁ st r d ∙ sym e

-- ---- what a first pass gives is no tag

pub element_untagged : (skip props b : Bytes) (n : ℕ) → is_raw (serialize_jsx (element_at skip props b) n).value ≡ false
unfolding serialize_jsx element_at element_of choose gen_template to_call_expr map call_node
element_untagged skip props b n = on (element_at skip props b).serializable
  where
    on : (x : Bool) → is_raw (choose x (λ _. gen_template (element_at skip props b).to_string_vec) (λ _. (element_at skip props b).to_call_expr) n).value ≡ false
    on true = refl
    on false = refl

element_visited : (e : M.Element) (n : ℕ) → element_raw e n ≡ visit_after (serialize_jsx e) n
unfolding element_raw
element_visited e n = refl

module _ (skip props b o g : Bytes) (st : Walk) {rs : Records} (e : rs ≡ recording st) where
  pub element_recorded : Low (see (element_mid skip props b) (at o g st)).st → K.Low (keep (serialize_jsx (element_at skip props b)) (K.at o rs))
  element_recorded =
      visit_recorded (element_raw (element_at skip props b)) (serialize_jsx (element_at skip props b)) o g st (element_visited (element_at skip props b) st.later) (element_untagged skip props b st.later) e

  module _ {o₁ : Bytes} {k : Records} (d : K.at o₁ k ≡ keep (serialize_jsx (element_at skip props b)) (K.at o rs)) {x : Walk} (f : x ≡ entered k st) where
    pub element_paged : Low (see (element_mid skip props b) (at o g st)).st → Low (act (serialize_jsx (element_at skip props b)) (at o₁ g x)).st
    element_paged =
        visit_paged (element_raw (element_at skip props b)) (serialize_jsx (element_at skip props b)) o g st (element_visited (element_at skip props b) st.later) (element_untagged skip props b st.later) e d f

    pub element_done : {o₂ g₂ : Bytes} {y : Walk} → at o₂ g₂ y ≡ act (serialize_jsx (element_at skip props b)) (at o₁ g x) → {z : Walk} → z ≡ with_first st.first y → at o₂ g₂ z ≡ see (element_mid skip props b) (at o g st)
    element_done a b' =
        visit_done (element_raw (element_at skip props b)) (serialize_jsx (element_at skip props b)) o g st (element_visited (element_at skip props b) st.later) (element_untagged skip props b st.later) e d f a b'

neither : (a b : Bool) → (a || b) ≡ false → (a ≡ false) × (b ≡ false)
neither true b h = absurd (false≢true (sym h))
neither false b h = (refl, h)

number_untagged : (o : Options) (n : ℕ) (x : Number) → is_raw (found_pass (found_of (expr o (P.number_literal x) none)) n).value ≡ false
unfolding expr found_of found_pass entry_pass pure map number_tag
number_untagged o n (whole x) = refl
number_untagged o n (scaled x p) = refl

minus_untagged : (o : Options) (n : ℕ) (x : Number) → is_raw (found_pass (found_of (expr o (P.minus_literal x) none)) n).value ≡ false
unfolding expr found_of found_pass entry_pass pure map minus_tag
minus_untagged o n (whole x) = refl
minus_untagged o n (scaled x p) = refl

module _ (skip props b : Bytes) where
  expr_untagged : (n : ℕ) → (eqb (tag_of_front b) 0x30 || eqb (tag_of_front b) 0x31) ≡ false → is_raw (found_pass (found_of (expr_at skip props b)) n).value ≡ false
  unfolding expr_in expr_by choose expr found_of found_pass entry_pass pure map
  expr_untagged n h =
      let t = tag_of_front b in
      let k = neither (eqb t 0x30) (eqb t 0x31) h in
      let G : P.Expr → Bool = λ (e : P.Expr). is_raw (found_pass (found_of (expr (opts skip props) e none)) n).value in
      tested t 0x70 (λ k. ap G (expr_70 b t refl k)) λ a.
      tested t 0x71 (λ k. ap G (expr_71 b t refl k) ∙ number_untagged (opts skip props) n (number_in t (body_of b))) λ c.
      tested t 0x72 (λ k. ap G (expr_72 b t refl k)) λ d.
      tested t 0x74 (λ k. ap G (expr_74 b t refl k)) λ e.
      tested t 0x75 (λ k. ap G (expr_75 b t refl k) ∙ minus_untagged (opts skip props) n (number_in t (body_of b))) λ f.
      tested t 0x76 (λ k. ap G (expr_76 b t refl k)) λ g.
      tested t 0x79 (λ k. ap G (expr_79 b t refl k)) λ i.
      tested t 0x7a (λ k. ap G (expr_7a b t refl k) ∙ number_untagged (opts skip props) n (number_in t (body_of b))) λ j.
      tested t 0x7b (λ k. ap G (expr_7b b t refl k) ∙ minus_untagged (opts skip props) n (number_in t (body_of b))) λ l.
      any_front (λ (r : Row). is_raw (found_pass (found_of (expr (opts skip props) (expr_in r) none)) n).value ≡ false) b t refl refl (λ x. refl) λ x y.
      rw (ne_eqb t 0x70 a, ne_eqb t 0x71 c, ne_eqb t 0x72 d, ne_eqb t 0x74 e, ne_eqb t 0x75 f, ne_eqb t 0x76 g, ne_eqb t 0x79 i, ne_eqb t 0x7a j, ne_eqb t 0x7b l, k.0, k.1)

  finds_untagged : (x : M.Found) (k : Kind) → Finds skip props x k b → is_left k b ≡ false → (n : ℕ) → is_raw (found_pass x n).value ≡ false
  unfolding found_pass entry_pass pure map raise gen_template
  finds_untagged x F.Nothing e u n = absurd (false≢true (sym u))
  finds_untagged x F.Empty e u n = ap (λ (y : M.Found). is_raw (found_pass y n).value) e
  finds_untagged x (F.Many k) e u n = ap (λ (y : M.Found). is_raw (found_pass y n).value) e.0
  finds_untagged x F.Run e u n = ap (λ (y : M.Found). is_raw (found_pass y n).value) e.found_is
  finds_untagged x F.Text e u n = ap (λ (y : M.Found). is_raw (found_pass y n).value) e
  finds_untagged x F.Element e u n = ap (λ (y : M.Found). is_raw (found_pass y n).value) e.0 ∙ element_untagged skip props (body_of b) n
  finds_untagged x F.Template e u n = ap (λ (y : M.Found). is_raw (found_pass y n).value) e
  finds_untagged x F.Expr e u n = ap (λ (y : M.Found). is_raw (found_pass y n).value) e ∙ expr_untagged n u
  finds_untagged x F.Item e u n = absurd e
  finds_untagged x F.Hole e u n = ap (λ (y : M.Found). is_raw (found_pass y n).value) e

pub given_untagged : (skip props s : Bytes) (f : Place) → Given skip props s f → is_left f.kind (part s f) ≡ false → (n : ℕ) →
    is_raw (found_pass (children_to_expr (children_at skip props (read s))) n).value ≡ false
given_untagged skip props s f e u n = finds_untagged skip props (part s f) (children_to_expr (children_at skip props (read s))) f.kind e.finds u n

-- ---- a fragment in a fragment, by what its children give

abbrev pub found_raw : (skip props s : Bytes) → Raw
found_raw skip props s = visit_found (children_to_expr (children_at skip props (read s)))

-- the bytes of a tag
record TagAt (c : Bytes) : Type 0 where
  the_tag : P.Tag
  expr_is : expr_in (read c) ≡ P.tag_expr the_tag

tag_at : (c : Bytes) (t : P.Tag) → expr_in (read c) ≡ P.tag_expr t → TagAt c
tag_at c t e = record { the_tag = t; expr_is = e }

tagged : (c : Bytes) → (eqb (tag_of_front c) 0x30 || eqb (tag_of_front c) 0x31) ≡ true → TagAt c
tagged c h =
    let t = tag_of_front c in
    tested t 0x30 (λ k. tag_at c (element_in (read (body_of c))) (expr_30 c t refl k)) λ a.
    tested t 0x31 (λ k. tag_at c (fragment_in (read (body_of c))) (expr_31 c t refl k)) λ b.
    absurd (false≢true (let z : (eqb t 0x30 || eqb t 0x31) ≡ false = rw (ne_eqb t 0x30 a, ne_eqb t 0x31 b) in sym z ∙ h))

module _ (o : Options) (n : ℕ) where
  left_tag : (t : P.Tag) → visit_found (found_of (expr o (P.tag_expr t) none)) n ≡ leave n
  unfolding visit_found expr found_of visit_after found_pass entry_pass pure bind visit_inside leave raise
  left_tag t = refl

  visit_expr : (e : P.Expr) → visit_found (found_of (expr o e none)) n ≡ visit_after (found_pass (found_of (expr o e none))) n
  unfolding visit_found expr found_of number_tag minus_tag
  visit_expr (P.string_literal c) = refl
  visit_expr (P.number_literal (whole m)) = refl
  visit_expr (P.number_literal (scaled m p)) = refl
  visit_expr (P.boolean_literal c) = refl
  visit_expr P.null_literal = refl
  visit_expr (P.other_literal c) = refl
  visit_expr (P.minus_literal (whole m)) = refl
  visit_expr (P.minus_literal (scaled m p)) = refl
  visit_expr (P.array_literal is) = refl
  visit_expr (P.other_expr ps) = refl
  visit_expr (P.tag_expr t) = refl

module _ (skip props b : Bytes) (n : ℕ) where
  visit_given : (x : M.Found) (k : Kind) → Finds skip props x k b → is_left k b ≡ false → visit_found x n ≡ visit_after (found_pass x) n
  unfolding visit_found
  visit_given x F.Nothing e u = absurd (false≢true (sym u))
  visit_given x F.Empty e u = subst (λ (y : M.Found). visit_found y n ≡ visit_after (found_pass y) n) (sym e) refl
  visit_given x (F.Many k) e u = subst (λ (y : M.Found). visit_found y n ≡ visit_after (found_pass y) n) (sym e.0) refl
  visit_given x F.Run e u = subst (λ (y : M.Found). visit_found y n ≡ visit_after (found_pass y) n) (sym e.found_is) refl
  visit_given x F.Text e u = subst (λ (y : M.Found). visit_found y n ≡ visit_after (found_pass y) n) (sym e) refl
  visit_given x F.Element e u = subst (λ (y : M.Found). visit_found y n ≡ visit_after (found_pass y) n) (sym e.0) refl
  visit_given x F.Template e u = subst (λ (y : M.Found). visit_found y n ≡ visit_after (found_pass y) n) (sym e) refl
  visit_given x F.Expr e u = subst (λ (y : M.Found). visit_found y n ≡ visit_after (found_pass y) n) (sym e) (visit_expr (opts skip props) n (expr_in (read b)))
  visit_given x F.Item e u = absurd e
  visit_given x F.Hole e u = subst (λ (y : M.Found). visit_found y n ≡ visit_after (found_pass y) n) (sym e) refl

  visit_left : (x : M.Found) (k : Kind) → Finds skip props x k b → is_left k b ≡ true → visit_found x n ≡ leave n
  unfolding visit_found
  visit_left x F.Nothing e u = ap (λ (y : M.Found). visit_found y n) e
  visit_left x F.Empty e u = absurd (false≢true u)
  visit_left x (F.Many k) e u = absurd (false≢true u)
  visit_left x F.Run e u = absurd (false≢true u)
  visit_left x F.Text e u = absurd (false≢true u)
  visit_left x F.Element e u = absurd (false≢true u)
  visit_left x F.Template e u = absurd (false≢true u)
  visit_left x F.Expr e u =
      let g = tagged b u in
      ap (λ (y : M.Found). visit_found y n) e ∙ ap (λ (y : P.Expr). visit_found (found_of (expr (opts skip props) y none)) n) g.expr_is ∙ left_tag (opts skip props) n g.the_tag
  visit_left x F.Item e u = absurd (false≢true u)
  visit_left x F.Hole e u = absurd (false≢true u)

module _ (skip props s : Bytes) (f : Place) (e : Finds skip props (children_to_expr (children_at skip props (read s))) f.kind (part s f)) (w : World) where
  pub found_left : is_left f.kind (part s f) ≡ true → see (raw (found_raw skip props s) none) w ≡ left w
  found_left u =
      see_visited (found_raw skip props s) leave w
      (visit_left skip props (part s f) w.st.later (children_to_expr (children_at skip props (read s))) f.kind e u)
      ∙ see_left w

-- and anything else is visited
module _ (skip props s : Bytes) (f : Place) (j : Given skip props s f) (u : is_left f.kind (part s f) ≡ false) (o g : Bytes) (st : Walk) {rs : Records} (e : rs ≡ recording st) where
  found_visited : found_raw skip props s st.later ≡ visit_after (found_pass (children_to_expr (children_at skip props (read s)))) st.later
  found_visited = visit_given skip props (part s f) st.later (children_to_expr (children_at skip props (read s))) f.kind j.finds u

  pub found_recorded : Low (see (raw (found_raw skip props s) none) (at o g st)).st → K.Low (keep (found_pass (children_to_expr (children_at skip props (read s)))) (K.at o rs))
  found_recorded = visit_recorded (found_raw skip props s) (found_pass (children_to_expr (children_at skip props (read s)))) o g st found_visited (given_untagged skip props s f j u st.later) e

  module _ {o₁ : Bytes} {k : Records} (d : K.at o₁ k ≡ keep (found_pass (children_to_expr (children_at skip props (read s)))) (K.at o rs)) {x : Walk} (q : x ≡ entered k st) where
    pub found_paged : Low (see (raw (found_raw skip props s) none) (at o g st)).st → Low (act (found_out false (children_to_expr (children_at skip props (read s)))) (at o₁ g x)).st
    unfolding found_out
    found_paged = visit_paged (found_raw skip props s) (found_pass (children_to_expr (children_at skip props (read s)))) o g st found_visited (given_untagged skip props s f j u st.later) e d q

    pub found_done : {o₂ g₂ : Bytes} {y : Walk} → at o₂ g₂ y ≡ act (found_out false (children_to_expr (children_at skip props (read s)))) (at o₁ g x) → {z : Walk} → z ≡ with_first st.first y → at o₂ g₂ z ≡ see (raw (found_raw skip props s) none) (at o g st)
    unfolding found_out
    found_done a b = visit_done (found_raw skip props s) (found_pass (children_to_expr (children_at skip props (read s)))) o g st found_visited (given_untagged skip props s f j u st.later) e d q a b

-- ---- a fragment

abbrev few_of : List M.Child → Count
few_of [] = Zero
few_of (c ∷ []) = One
few_of (c ∷ d ∷ cs) = More

abbrev how_many : Count → ℕ
how_many Zero = 0
how_many One = 1
how_many More = 2

few_behind : (o : Options) (c : M.Child) (cs : P.Children) → pick (is_none cs) One More ≡ few_of (c ∷ children o cs)
unfolding is_none children
few_behind o c P.no_children = refl
few_behind o c (P.text_child b cs) = refl
few_behind o c (P.empty_child cs) = refl
few_behind o c (P.container_child e cs) = refl
few_behind o c (P.tag_child t cs) = refl
few_behind o c (P.spread_child e cs) = refl

few_is : (o : Options) (cs : P.Children) → few cs ≡ few_of (children o cs)
unfolding few children
few_is o P.no_children = refl
few_is o (P.text_child b cs) = few_behind o (M.text b) cs
few_is o (P.empty_child cs) = few_behind o M.empty cs
few_is o (P.container_child e cs) = few_behind o (M.container (shape_of e) (expr o e none)) cs
few_is o (P.tag_child t cs) = few_behind o (child o t) cs
few_is o (P.spread_child e cs) = few_behind o (M.spread (expr o e none)) cs

module _ (n : ℕ) where
  fragment_0 : (cs : List M.Child) → few_of cs ≡ Zero → visit_fragment cs n ≡ pure (field 0x73 [] end end) n
  unfolding visit_fragment
  fragment_0 [] h = refl
  fragment_0 (c ∷ []) h = absurd (omega (arith, ap how_many h))
  fragment_0 (c ∷ d ∷ cs) h = absurd (omega (arith, ap how_many h))

  fragment_1 : (c : M.Child) (cs : List M.Child) → few_of (c ∷ cs) ≡ One → visit_fragment (c ∷ cs) n ≡ visit_only_child c n
  unfolding visit_fragment
  fragment_1 c [] h = refl
  fragment_1 c (d ∷ cs) h = absurd (omega (arith, ap how_many h))

  fragment_2 : (cs : List M.Child) → few_of cs ≡ More → visit_fragment cs n ≡ visit_after (gen_template (children_to_string false cs)) n
  unfolding visit_fragment
  fragment_2 [] h = absurd (omega (arith, ap how_many h))
  fragment_2 (c ∷ []) h = absurd (omega (arith, ap how_many h))
  fragment_2 (c ∷ d ∷ cs) h = refl

  -- a text or a container is a template, alone too
  fragment_text : (b : Bytes) (cs : List M.Child) → visit_fragment (M.text b ∷ cs) n ≡ visit_after (gen_template (children_to_string false (M.text b ∷ cs))) n
  unfolding visit_fragment visit_only_child
  fragment_text b [] = refl
  fragment_text b (d ∷ cs) = refl

  fragment_held : (skip props : Bytes) (x : Contained) (cs : List M.Child) → visit_fragment (held skip props x ∷ cs) n ≡ visit_after (gen_template (children_to_string false (held skip props x ∷ cs))) n
  unfolding visit_fragment visit_only_child
  fragment_held skip props nothing_contained [] = refl
  fragment_held skip props nothing_contained (d ∷ cs) = refl
  fragment_held skip props (contained e) [] = refl
  fragment_held skip props (contained e) (d ∷ cs) = refl

module _ (skip props s : Bytes) (w : World) {n : Count} (e : n ≡ few (children_in (read s))) where
  count : n ≡ few_of (children_at skip props (read s))
  count = e ∙ few_is (opts skip props) (children_in (read s))

  pub fragment_null : n ≡ Zero → see (fragment_mid skip props s) w ≡ see (leaf 0x73 []) w
  unfolding see visit_exprs both pure ◌⧺◌
  fragment_null h = see_visited (visit_fragment (children_at skip props (read s))) (pure (field 0x73 [] end end)) w (fragment_0 w.st.later (children_at skip props (read s)) (sym count ∙ h))

  pub fragment_several : n ≡ More → see (fragment_mid skip props s) w ≡ see (raw (template_raw skip props s) none) w
  fragment_several h =
      see_visited (visit_fragment (children_at skip props (read s))) (template_raw skip props s) w
      (fragment_2 w.st.later (children_at skip props (read s)) (sym count ∙ h))

  -- an only child, which stands in front of a
  module _ (h : n ≡ One) {a : Bytes} (f : FirstChild s a) {t : ℕ} (k : t ≡ tag_of_front a) {b : Bytes} (q : b ≡ body_of a) where
    kids_same : children_at skip props (read a) ≡ children_at skip props (read s)
    kids_same = ap (children (opts skip props)) f.same_children

    only_child : (c : M.Child) (cs : List M.Child) → children_at skip props (read a) ≡ c ∷ cs → visit_fragment (children_at skip props (read s)) w.st.later ≡ visit_only_child c w.st.later
    only_child c cs g =
        let j = sym kids_same ∙ g in
        ap (λ (x : List M.Child). visit_fragment x w.st.later) j ∙ fragment_1 w.st.later c cs (ap few_of (sym j) ∙ (sym count ∙ h))

    pub fragment_element : t ≡ 0x30 → see (fragment_mid skip props s) w ≡ see (element_mid skip props b) w
    unfolding element_raw visit_only_child
    fragment_element z =
        see_visited (visit_fragment (children_at skip props (read s))) (element_raw (element_at skip props b)) w
        (only_child (M.element (element_at skip props b)) (children_at skip props (read (behind_of a))) (kids_30 skip props a t k q refl z))

    pub fragment_fragment : t ≡ 0x31 → see (fragment_mid skip props s) w ≡ see (raw (found_raw skip props b) none) w
    unfolding fragment_of visit_only_child
    fragment_fragment z =
        see_visited (visit_fragment (children_at skip props (read s))) (found_raw skip props b) w
        (only_child (M.fragment (fragment_of (children_at skip props (read b)))) (children_at skip props (read (behind_of a))) (kids_31 skip props a t k q refl z))

    pub fragment_spread : t ≡ 0x61 → see (fragment_mid skip props s) w ≡ left w
    unfolding visit_only_child children
    fragment_spread z =
        let g = ap (children (opts skip props)) (children_61 a t k z) in
        see_visited (visit_fragment (children_at skip props (read s))) leave w
        (only_child (M.spread (expr (opts skip props) (expr_in (read (body_of a))) none)) (children_at skip props (read (behind_of a))) g)
        ∙ see_left w

    some_left : length a ≡ 0 → ⊥
    unfolding few
    some_left z = omega (arith, ap how_many (sym h ∙ e ∙ ap few (f.none_left z)))

    by_tag : (u : ℕ) → u ≡ tag_of_front a → ChildTag u → (u ≡ 0x30 → ⊥) → (u ≡ 0x31 → ⊥) → (u ≡ 0x61 → ⊥) →
        visit_fragment (children_at skip props (read a)) w.st.later ≡ visit_after (gen_template (children_to_string false (children_at skip props (read a)))) w.st.later
    by_tag u g text_tag x y z =
        subst (λ (cs : List M.Child). visit_fragment cs w.st.later ≡ visit_after (gen_template (children_to_string false cs)) w.st.later)
        (sym (kids_60 skip props a u g refl refl refl)) (fragment_text w.st.later (body_of a) (children_at skip props (read (behind_of a))))
    by_tag u g container_tag x y z =
        subst (λ (cs : List M.Child). visit_fragment cs w.st.later ≡ visit_after (gen_template (children_to_string false cs)) w.st.later)
        (sym (kids_52 skip props a u g refl refl refl)) (fragment_held w.st.later skip props (contained_in (read (body_of a))) (children_at skip props (read (behind_of a))))
    by_tag u g element_child_tag x y z = absurd (x refl)
    by_tag u g fragment_child_tag x y z = absurd (y refl)
    by_tag u g spread_child_tag x y z = absurd (z refl)

    pub fragment_only : (t ≡ 0x30 → ⊥) → (t ≡ 0x31 → ⊥) → (t ≡ 0x61 → ⊥) → see (fragment_mid skip props s) w ≡ see (raw (template_raw skip props s) none) w
    fragment_only x y z =
        see_visited (visit_fragment (children_at skip props (read s))) (template_raw skip props s) w
        (subst (λ (cs : List M.Child). visit_fragment cs w.st.later ≡ visit_after (gen_template (children_to_string false cs)) w.st.later) kids_same
        (by_tag (tag_of_front a) refl (child_tag (tag_of_front a) (f.child_first some_left)) (λ j. x (k ∙ j)) (λ j. y (k ∙ j)) (λ j. z (k ∙ j))))

-- null, in the words of `leaf`
module _ (m : Mid) (o g : Bytes) (st : Walk) (e : see m (at o g st) ≡ see (leaf 0x73 []) (at o g st)) where
  pub null_room : Low (see m (at o g st)).st → Low (see (leaf 0x73 []) (at [] g st)).st
  unfolding see
  null_room l = low_is (sym e) l

  pub null_done : (g₁ : Bytes) (r : Walk) → at [] g₁ r ≡ see (leaf 0x73 []) (at [] g st) → at o g₁ r ≡ see m (at o g st)
  null_done g₁ r d = lift o g g₁ st r (leaf 0x73 []) refl d ∙ sym e
