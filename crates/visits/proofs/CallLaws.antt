-- A jsx call: whether `children` stands; what is left to be done at each step, with the room that it takes and where it ends; and a turn over
-- the attributes that become properties, where s is what is left of them, w where the walk stands and total where it is to end.
-- Main statements: `found_stands`, `call_is`; `begin_room`, `begun_on` and the like; `prop_on`, `spread_on`, `props_end`. Assumes nothing.
use Rattle.std.specs.Prelude.{Option, None}
use mathlib.Core.Path.{◌≡◌, refl, sym, ap, ◌∙◌, subst}
use Prim.Native.Nat.{ℕ, ◌+◌, ◌≤◌, ◌<◌, ◌^◌}
use native.Mathlib.Omega.{arith}
use mathlib.Core.Bool.{Bool, true, false, ◌&&◌, not, false≢true}
use mathlib.Core.List.{List, [], ◌∷◌}
use lib.Dec.{eqb}
use borrow.Author.Tests.{eqb-true, eq-eqb}
use lib.ListN.{length}
use Rattle.field.specs.Bytes.{Bytes, ascii, pick}
use Rattle.field.specs.Row.{Row, read}
use Rattle.field.specs.Front.{tag_of_front, body_of, behind_of}
use Rattle.field.proofs.FrontLaws.{read_empty}
use Rattle.field.proofs.Actions.{Action, Lows, by, on, room, finish}
use Rattle.text.specs.Text.{normalize_lit_str}
use Rattle.names.specs.Names.{AttrName, get_attr_name}
use Rattle.page.specs.Number.{whole, scaled, number_tag, minus_tag}
use Rattle.page.specs.Page as P
use Rattle.page.specs.Page.{Name, identifier, member, namespaced, Options}
use Rattle.page.specs.Tree.{choose, attr_name_in, attributes_in, children_in, value_in, expr_in}
use Rattle.spec.specs.Pass as S
use Rattle.spec.specs.Pass.{Done, Pass, pure, map, long_if, Mid, node, ◌+++◌}
use Rattle.spec.specs.Output.{leaf, null_node, gen_template}
use Rattle.spec.specs.Merge.{Found, Element, merge, long_run, short_runs}
use Rattle.spec.specs.Attributes as A
use Rattle.spec.specs.Attributes.{is_component, first_upper, prop_of, props_of, key_of}
use Rattle.spec.specs.Children.{found_of, entry_pass, found_pass, members_row, name_expr, call_node, to_call_expr, serialize_jsx, children_to_expr, children_to_string}
use Rattle.spec.specs.Transform.{expr, value, attributes, children, element_of}
use Rattle.decisions.specs.At.{opts, element_name, attributes_at, children_at, element_at}
use Rattle.decisions.proofs.Series.{behind_name_at, attributes_50, attributes_53, attributes_other}
use Rattle.found.specs.Finds as Finds
use Rattle.found.specs.declared.Kind.{Kind}
use Rattle.found.specs.declared.Kind.TheVariants as K
use Rattle.walk.specs.declared.state.Walk.{Walk}
use Rattle.walk.specs.See.{World, at, see, act, passed, to_page, begun, wrap, wrap_if, props_closed, Low}
use Rattle.walk.proofs.SeeLaws.{Grows, grows_same, grows_then, see_grows, begun_grows, wrap_grows, low_back, low_is, see_none, see_node, see_page, see_state, see_templates_length, see_page_length, plain, lift, lift_world, lift_wrap, lift_wrap_if, lift_begun, lift_props_closed}
use Rattle.walk.proofs.ActLaws.{see_append, act_grows, act_pure, act_map_pure, passed_see, passed_props_closed, call_named, call_props, children_begun, call_closed, act_call_none, act_call_some, act_to_call, is_none, template_stands, raised_stands, call_stands, array_stands}
use Rattle.decisions.specs.Becomes.{Dynamic, as_property, property_mid}
use Rattle.decisions.proofs.BecomesLaws.{property_is}
use Rattle.visits.specs.Visiting.{expr_at, found_out, is_found}
use Rattle.visits.proofs.FieldLaws.{field_begin, field_inner, field_close, field_done}

-- ---- whether the children give something

serialize_stands : (j : ℕ) (e : Element) → is_none (e.to_call_expr j).value ≡ false → is_none (serialize_jsx e j).value ≡ false
unfolding serialize_jsx choose
serialize_stands j e h = either e.serializable
  where
    either : (b : Bool) → is_none (choose b (λ _. gen_template e.to_string_vec) (λ _. e.to_call_expr) j).value ≡ false
    either true = template_stands j e.to_string_vec
    either false = h

expr_stands : (o : Options) (j : ℕ) (e : P.Expr) → is_none (found_pass (found_of (expr o e S.none)) j).value ≡ false
unfolding expr found_of found_pass entry_pass pure map number_tag minus_tag
expr_stands o j (P.string_literal b) = refl
expr_stands o j (P.number_literal (whole n)) = refl
expr_stands o j (P.number_literal (scaled n p)) = refl
expr_stands o j (P.boolean_literal b) = refl
expr_stands o j P.null_literal = refl
expr_stands o j (P.other_literal b) = refl
expr_stands o j (P.minus_literal (whole n)) = refl
expr_stands o j (P.minus_literal (scaled n p)) = refl
expr_stands o j (P.array_literal is) = refl
expr_stands o j (P.other_expr ps) = refl
expr_stands o j (P.tag_expr t) = refl

module _ (skip props : Bytes) (j : ℕ) where
  abbrev lacks : Found → Bool
  lacks f = is_none (found_out false f j).value

  pub found_stands : (f : Found) (k : Kind) (b : Bytes) → Finds.Finds skip props f k b → is_none (found_out false f j).value ≡ not (is_found k)
  unfolding found_out found_pass entry_pass pure element_at element_of
  found_stands f K.Nothing b e = ap lacks e
  found_stands f K.Empty b e = ap lacks e ∙ array_stands j []
  found_stands f (K.Many k) b e = ap lacks e.0 ∙ array_stands j (Finds.entries_at skip props b)
  found_stands f K.Run b e = ap lacks e.found_is
  found_stands f K.Text b e = ap lacks e
  found_stands f K.Element b e =
      let x = element_at skip props (body_of b) in
      ap lacks e.0 ∙ serialize_stands j x (call_stands j _ _ _)
  found_stands f K.Template b e =
      let m = merge false false [] (children_at skip props (read b)) in
      let p = gen_template (children_to_string false (short_runs m)) in
      ap lacks e ∙ raised_stands j (long_if (long_run m)) p ∙ template_stands j (children_to_string false (short_runs m))
  found_stands f K.Expr b e = ap lacks e ∙ expr_stands (opts skip props) j (expr_in (read b))
  found_stands f K.Item b e = absurd e
  found_stands f K.Hole b e = ap lacks e ∙ array_stands j _

-- before it is known
unfoldable pub stands_by : Mid → Bool
stands_by m = not (is_none m)

pub lacks_by : (m : Mid) → is_none m ≡ not (stands_by m)
unfolding stands_by
lacks_by S.none = refl
lacks_by (node t f i r) = refl
lacks_by (S.raw q r) = refl

-- ---- what grows

closed_grows : (q : ℕ) (x : World) → Grows x (props_closed q x)
closed_grows q x = either (eqb x.st.page (q + 3)) refl
  where
    either : (b : Bool) → eqb x.st.page (q + 3) ≡ b → Grows x (pick b (see null_node (at x.templates x.page (to_page q x.st))) (wrap 0x95 q x))
    either true e =
        let y = at x.templates x.page (to_page q x.st) in
        let g = see_grows null_node y in
        record {
          g_first = g.g_first;
          g_later = g.g_later;
          g_templates = g.g_templates;
          g_page = omega (arith, eqb-true x.st.page (q + 3) e, see_page 0x73 [] S.none S.none y);
        }
    either false e = wrap_grows 0x95 q x

wrap_if_grows : (b : Bool) (t p : ℕ) (x : World) → Grows x (wrap_if b t p x)
wrap_if_grows true t p x = wrap_grows t p x
wrap_if_grows false t p x = grows_same x

-- `children` begins, where it stands
abbrev pub children_front : Bool → World → World
children_front b x = pick b (children_begun x) x

children_grow : (b : Bool) (x : World) → Grows x (children_front b x)
children_grow true x = grows_then (begun_grows x) (see_grows _ (begun x))
children_grow false x = grows_same x

-- the page, where something was done
pub grew : {w w' : World} → Grows w w' → {o p : Bytes} {r : Walk} → at o p r ≡ w' → w.st.page ≤ r.page
grew g e = omega (arith, g.g_page, ap (λ (x : World). x.st.page) e)

-- ---- what is left of a call at each step

pub record Call : Type 0 where
  pub name : Mid
  pub props : Mid
  pub found : Pass Mid
  pub stands : Bool
  pub key : Mid

-- p is where the call began, q where its properties did, h where `children` did
unfoldable pub key_left : ℕ → Mid → World → World
key_left p m x = wrap 0x94 p (see m x)

key_grows : (p : ℕ) (m : Mid) (x : World) → Grows x (key_left p m x)
unfolding key_left
key_grows p m x = grows_then (see_grows m x) (wrap_grows 0x94 p (see m x))

module _ (k : Call) where
  unfoldable pub props_left : (p q : ℕ) → World → World
  props_left p q x = key_left p k.key (props_closed q x)

  unfoldable pub child_left : (p q h : ℕ) → World → World
  child_left p q h x = props_left p q (wrap_if k.stands 0x96 h x)

  unfoldable pub found_left : (p q h : ℕ) → World → World
  found_left p q h x = child_left p q h (act k.found x)

  unfoldable pub children_left : (p q : ℕ) → World → World
  children_left p q x = found_left p q x.st.page (children_front k.stands x)

  unfoldable pub attributes_left : (p q : ℕ) → World → World
  attributes_left p q x = children_left p q (see k.props x)

  unfoldable pub named_left : ℕ → World → World
  named_left p x = attributes_left p x.st.page (begun x)

  unfoldable pub name_left : ℕ → World → World
  name_left p x = named_left p (see k.name x)

  unfoldable pub call_left : World → World
  call_left x = name_left x.st.page (begun x)

  props_grow : (p q : ℕ) (x : World) → Grows x (props_left p q x)
  unfolding props_left
  props_grow p q x = grows_then (closed_grows q x) (key_grows p k.key (props_closed q x))

  child_grows : (p q h : ℕ) (x : World) → Grows x (child_left p q h x)
  unfolding child_left
  child_grows p q h x = grows_then (wrap_if_grows k.stands 0x96 h x) (props_grow p q (wrap_if k.stands 0x96 h x))

  found_grows : (p q h : ℕ) (x : World) → Grows x (found_left p q h x)
  unfolding found_left
  found_grows p q h x = grows_then (act_grows k.found x) (child_grows p q h (act k.found x))

  left_grows : (p q : ℕ) (x : World) → Grows x (children_left p q x)
  unfolding children_left
  left_grows p q x = grows_then (children_grow k.stands x) (found_grows p q x.st.page (children_front k.stands x))

  attributes_grow : (p q : ℕ) (x : World) → Grows x (attributes_left p q x)
  unfolding attributes_left
  attributes_grow p q x = grows_then (see_grows k.props x) (left_grows p q (see k.props x))

  named_grows : (p : ℕ) (x : World) → Grows x (named_left p x)
  unfolding named_left
  named_grows p x = grows_then (begun_grows x) (attributes_grow p x.st.page (begun x))

  name_grows : (p : ℕ) (x : World) → Grows x (name_left p x)
  unfolding name_left
  name_grows p x = grows_then (see_grows k.name x) (named_grows p (see k.name x))

-- a call by what stands in bytes: r lies behind the name in b
abbrev pub call_of : (skip props b r : Bytes) → Bool → Bool → Call
call_of skip props b r norm s =
    record {
      name = name_expr (element_name (read b));
      props = props_of norm (attributes_at skip props (read r));
      found = found_out false (children_to_expr (children_at skip props (read r)));
      stands = s;
      key = key_of norm (attributes_at skip props (read r)) S.none;
    }

-- a pass that gives nothing may still take numbers
is_nothing : (m : Mid) → is_none m ≡ true → m ≡ S.none
is_nothing S.none h = refl
is_nothing (node t f i r) h = absurd (false≢true h)
is_nothing (S.raw q r) h = absurd (false≢true h)

module _ (n : Name) (as' : List A.Attribute) (w : World) where
  call_nothing : see (call_node n as' S.none) w ≡ call_closed n as' w (call_props n as' w)
  unfolding found_pass
  call_nothing = sym (act_map_pure (call_node n as') S.none w) ∙ act_call_none n as' w

  passed_closed : (d : Done Mid) (x : World) → passed d (call_closed n as' w x) ≡ call_closed n as' w (passed d x)
  passed_closed d x =
      let key = key_of (not (is_component n)) as' S.none in
      let q = (call_named n w).st.page in
      ap (wrap 0x94 w.st.page) (passed_see d key (props_closed q x) ∙ ap (see key) (passed_props_closed d q x))

  -- `children` stands where b holds
  act_call : (p : Pass Mid) (b : Bool) → is_none (p w.st.first).value ≡ not b →
      act (map (call_node n as') p) w ≡ call_closed n as' w (wrap_if b 0x96 (call_props n as' w).st.page (act p (children_front b (call_props n as' w))))
  unfolding act map see
  act_call p true h = act_call_some n as' w p h
  act_call p false h =
      let d = p w.st.first in
      let x = call_props n as' w in
      let e : d.value ≡ S.none = is_nothing d.value h in
      ap (λ (m : Mid). passed d (see (call_node n as' m) w)) e
      ∙ ap (passed d) call_nothing
      ∙ passed_closed d x
      ∙ ap (λ (y : World). call_closed n as' w (passed d y)) (sym (see_none x) ∙ ap (λ (m : Mid). see m x) (sym e))

call_at : (skip props b : Bytes) {r : Bytes} → r ≡ behind_of b →
    (element_at skip props b).to_call_expr ≡ to_call_expr (element_name (read b)) (attributes_at skip props (read r)) (children_at skip props (read r))
unfolding element_at element_of
call_at skip props b q =
    ap (λ (x : Row). to_call_expr (element_name (read b)) (attributes_at skip props x) (children_at skip props x)) (behind_name_at b ∙ ap read (sym q))

module _ (skip props b : Bytes) {r : Bytes} (q : r ≡ behind_of b) {z : Bool} (e : z ≡ is_component (element_name (read b))) (w : World) (s : Bool) where
  pub call_is : is_none (found_out false (children_to_expr (children_at skip props (read r))) w.st.first).value ≡ not s →
      call_left (call_of skip props b r (not z) s) w ≡ act (element_at skip props b).to_call_expr w
  unfolding call_left name_left named_left attributes_left children_left found_left child_left props_left key_left found_out
  call_is h =
      let n = element_name (read b) in
      let as' = attributes_at skip props (read r) in
      let cs = children_at skip props (read r) in
      ap (λ (y : Bool). call_left (call_of skip props b r (not y) s) w) e
      ∙ sym (ap (λ (p : Pass Mid). act p w) (call_at skip props b q) ∙ act_to_call n as' w cs ∙ act_call n as' w (found_pass (children_to_expr cs)) s h)

members_plain : (ns : List Bytes) → plain (members_row ns) ≡ true
unfolding members_row
members_plain [] = refl
members_plain (n ∷ ns) = members_plain ns

pub name_plain : (n : Name) → plain (name_expr n) ≡ true
unfolding name_expr
name_plain (identifier n) = either (first_upper n)
  where
    either : (b : Bool) → plain (pick b (leaf 0x40 n) (leaf 0x81 n)) ≡ true
    either true = refl
    either false = refl
name_plain (member ns) = ap (λ (b : Bool). b && true) (members_plain ns)
name_plain (namespaced n m) = refl

-- ---- the steps: what each function asks for, and what is left when it has answered

-- what a function is asked for of page out alone
pub see_low : (m : Mid) (o p : Bytes) (s : Walk) → Low (see m (at o p s)).st → Low (see m (at [] p s)).st
see_low m o p s l = subst Low (see_state m o [] p p s) l

front_low : (b : Bool) (o p : Bytes) (s : Walk) → Low (children_front b (at o p s)).st → Low (children_front b (at [] p s)).st
front_low true o p s l = see_low (leaf 0x81 (ascii "children")) o p (to_page (s.page + 3) s) l
front_low false o p s l = l

closed_low : (q : ℕ) (o p : Bytes) (s : Walk) → Low (props_closed q (at o p s)).st → Low (props_closed q (at [] p s)).st
closed_low q o p s l = either (eqb s.page (q + 3)) l
  where
    either : (b : Bool) → Low (pick b (see null_node (at o p (to_page q s))) (wrap 0x95 q (at o p s))).st → Low (pick b (see null_node (at [] p (to_page q s))) (wrap 0x95 q (at [] p s))).st
    either true m = see_low null_node o p (to_page q s) m
    either false m = m

lift_front : (b : Bool) (o p p' : Bytes) (s r : Walk) → at [] p' r ≡ children_front b (at [] p s) → at o p' r ≡ children_front b (at o p s)
lift_front true o p p' s r e = lift o p p' (to_page (s.page + 3) s) r (leaf 0x81 (ascii "children")) refl e
lift_front false o p p' s r e = lift_world o e

pub front_grew : (b : Bool) (p p' : Bytes) (s r : Walk) → at [] p' r ≡ children_front b (at [] p s) → s.page ≤ r.page
front_grew b p p' s r e = grew (children_grow b (at [] p s)) e

pub child_grew : (b : Bool) (t q : ℕ) (p p' : Bytes) (s r : Walk) → at [] p' r ≡ wrap_if b t q (at [] p s) → s.page ≤ r.page
child_grew b t q p p' s r e = grew (wrap_if_grows b t q (at [] p s)) e

pub closed_grew : (q : ℕ) (p p' : Bytes) (s r : Walk) → at [] p' r ≡ props_closed q (at [] p s) → s.page ≤ r.page
closed_grew q p p' s r e = grew (closed_grows q (at [] p s)) e

pub front_past : (b : Bool) (p p' : Bytes) (s r : Walk) → at [] p' r ≡ children_front b (at [] p s) → b ≡ true → s.page + 3 ≤ r.page
front_past true p p' s r e h = grew (see_grows (leaf 0x81 (ascii "children")) (begun (at [] p s))) e
front_past false p p' s r e h = absurd (false≢true h)

module _ (k : Call) (o s : Bytes) (x : Walk) (total : World) (l : Low total.st) where
  -- the name
  pub begin_room : call_left k (at o s x) ≡ total → x.page + 3 < 2 ^ 63
  unfolding call_left
  begin_room g = let m = low_back (name_grows k x.page (begun (at o s x))) (low_is g l) in omega (arith, m.low_page)

  pub name_room : (p : ℕ) → name_left k p (at o s x) ≡ total → Low (see k.name (at [] s x)).st
  unfolding name_left
  name_room p g = see_low k.name o s x (low_back (named_grows k p (see k.name (at o s x))) (low_is g l))

  -- the properties
  pub props_begin_room : (p : ℕ) → named_left k p (at o s x) ≡ total → x.page + 3 < 2 ^ 63
  unfolding named_left
  props_begin_room p g = let m = low_back (attributes_grow k p x.page (begun (at o s x))) (low_is g l) in omega (arith, m.low_page)

  module _ (p q : ℕ) where
    pub props_room : attributes_left k p q (at o s x) ≡ total → Low (see k.props (at o s x)).st
    unfolding attributes_left
    props_room g = low_back (left_grows k p q (see k.props (at o s x))) (low_is g l)

    -- `children`
    pub front_room : children_left k p q (at o s x) ≡ total → Low (children_front k.stands (at [] s x)).st
    unfolding children_left
    front_room g = front_low k.stands o s x (low_back (found_grows k p q x.page (children_front k.stands (at o s x))) (low_is g l))

    pub found_room : (h : ℕ) → found_left k p q h (at o s x) ≡ total → Low (act k.found (at o s x)).st
    unfolding found_left
    found_room h g = low_back (child_grows k p q h (act k.found (at o s x))) (low_is g l)

    pub child_room : (h : ℕ) → child_left k p q h (at o s x) ≡ total → Low x
    child_room h g = low_back (child_grows k p q h (at o s x)) (low_is g l)

    pub closed_room : props_left k p q (at o s x) ≡ total → Low (props_closed q (at [] s x)).st
    unfolding props_left
    closed_room g = closed_low q o s x (low_back (key_grows p k.key (props_closed q (at o s x))) (low_is g l))

module _ (k : Call) (o s : Bytes) (x r : Walk) (total : World) where
  pub begun_on : r ≡ to_page (x.page + 3) x → call_left k (at o s x) ≡ total → name_left k x.page (at o s r) ≡ total
  unfolding call_left
  begun_on e g = ap (name_left k x.page) (lift_begun o s x r e) ∙ g

  pub props_begun_on : (p : ℕ) → r ≡ to_page (x.page + 3) x → named_left k p (at o s x) ≡ total → attributes_left k p x.page (at o s r) ≡ total
  unfolding named_left
  props_begun_on p e g = ap (attributes_left k p x.page) (lift_begun o s x r e) ∙ g

module _ (k : Call) (p : ℕ) (o s s' : Bytes) (x r : Walk) (total : World) where
  pub name_on : plain k.name ≡ true → at [] s' r ≡ see k.name (at [] s x) → name_left k p (at o s x) ≡ total → named_left k p (at o s' r) ≡ total
  unfolding name_left
  name_on h e g = ap (named_left k p) (lift o s s' x r k.name h e) ∙ g

  module _ (q : ℕ) where
    pub front_on : at [] s' r ≡ children_front k.stands (at [] s x) → children_left k p q (at o s x) ≡ total → found_left k p q x.page (at o s' r) ≡ total
    unfolding children_left
    front_on e g = ap (found_left k p q x.page) (lift_front k.stands o s s' x r e) ∙ g

    pub child_on : (h : ℕ) → at [] s' r ≡ wrap_if k.stands 0x96 h (at [] s x) → child_left k p q h (at o s x) ≡ total → props_left k p q (at o s' r) ≡ total
    unfolding child_left
    child_on h e g = ap (props_left k p q) (lift_wrap_if o s s' x r k.stands 0x96 h e) ∙ g

    pub closed_on : at [] s' r ≡ props_closed q (at [] s x) → props_left k p q (at o s x) ≡ total → key_left p k.key (at o s' r) ≡ total
    unfolding props_left
    closed_on e g = ap (key_left p k.key) (lift_props_closed o s s' x r q e) ∙ g

module _ (k : Call) (p q : ℕ) (w w' total : World) where
  pub props_on : w' ≡ see k.props w → attributes_left k p q w ≡ total → children_left k p q w' ≡ total
  unfolding attributes_left
  props_on e g = ap (children_left k p q) e ∙ g

  pub found_on : (h : ℕ) → w' ≡ act k.found w → found_left k p q h w ≡ total → child_left k p q h w' ≡ total
  unfolding found_left
  found_on h e g = ap (child_left k p q h) e ∙ g

-- the key
module _ (p : ℕ) (m n : Mid) (e : n ≡ m) (w total : World) (g : key_left p m w ≡ total) where
  held_is : wrap 0x94 p (see n w) ≡ total
  unfolding key_left
  held_is = ap (λ (y : Mid). wrap 0x94 p (see y w)) e ∙ g

  pub held_room : Low total.st → Low (see n w).st
  held_room l = low_back (wrap_grows 0x94 p (see n w)) (low_is held_is l)

  module _ (o s : Bytes) (x : Walk) (a : at o s x ≡ see n w) where
    pub call_low : Low total.st → Low x
    call_low l = low_is a (held_room l)

    pub call_done : (s' : Bytes) (r : Walk) → at [] s' r ≡ wrap 0x94 p (at [] s x) → at o s' r ≡ total
    call_done s' r b = lift_wrap o s s' x r 0x94 p b ∙ ap (wrap 0x94 p) a ∙ held_is

-- nothing stands behind the name
module _ (skip props b r : Bytes) (norm : Bool) (h : length r ≡ 0) where
  abbrev bare : Call
  bare = call_of skip props b r norm false

  pub bare_lacks : (j : ℕ) → is_none (found_out false (children_to_expr (children_at skip props (read r))) j).value ≡ true
  unfolding children_in children children_to_expr found_out found_pass pure
  bare_lacks j = ap (λ (x : Row). is_none (found_out false (children_to_expr (children_at skip props x)) j).value) (read_empty r h)

  bare_props : bare.props ≡ S.none
  unfolding attributes_in attributes props_of
  bare_props = ap (λ (x : Row). props_of norm (attributes_at skip props x)) (read_empty r h)

  bare_found : bare.found ≡ pure S.none
  unfolding children_in children children_to_expr found_out found_pass
  bare_found = ap (λ (x : Row). found_out false (children_to_expr (children_at skip props x))) (read_empty r h)

  bare_key : bare.key ≡ S.none
  unfolding attributes_in attributes key_of
  bare_key = ap (λ (x : Row). key_of norm (attributes_at skip props x) S.none) (read_empty r h)

  module _ (p : ℕ) (o s : Bytes) (x : Walk) where
    bare_left : named_left bare p (at o s x) ≡ key_left p S.none (see null_node (at o s x))
    unfolding named_left attributes_left children_left found_left child_left props_left
    bare_left =
        let w = at o s x in
        let q = x.page in
        ap (λ (m : Mid). key_left p m (props_closed q (act bare.found (see bare.props (begun w))))) bare_key
        ∙ ap (λ (f : Pass Mid). key_left p S.none (props_closed q (act f (see bare.props (begun w))))) bare_found
        ∙ ap (λ (y : World). key_left p S.none (props_closed q y)) (act_pure S.none (see bare.props (begun w)) ∙ see_none (see bare.props (begun w)) ∙ ap (λ (m : Mid). see m (begun w)) bare_props ∙ see_none (begun w))
        ∙ ap (λ (y : Bool). key_left p S.none (pick y (see null_node w) (wrap 0x95 q (begun w)))) (eq-eqb (q + 3) (q + 3) refl)

    module _ (total : World) (g : named_left bare p (at o s x) ≡ total) where
      null_left : key_left p S.none (see null_node (at o s x)) ≡ total
      null_left = sym bare_left ∙ g

      pub bare_room : Low total.st → Low (see null_node (at [] s x)).st
      bare_room l = see_low null_node o s x (low_back (key_grows p S.none (see null_node (at o s x))) (low_is null_left l))

      pub bare_on : (s' : Bytes) (y : Walk) → at [] s' y ≡ see null_node (at [] s x) → key_left p S.none (at o s' y) ≡ total
      bare_on s' y e = ap (key_left p S.none) (lift o s s' x y null_node refl e) ∙ null_left

-- ---- a turn over attributes

sees : Action S.none ◌+++◌ see
sees = record { nil = see_none; append = see_append }

sees_low : Lows (λ (w : World). Low w.st) see
sees_low = record { back = λ b w l. low_back (see_grows b w) l }

abbrev pub props_in : (skip props : Bytes) → Bool → Bytes → Mid
props_in skip props norm s = props_of norm (attributes_at skip props (read s))

-- both outs keep their lengths
module _ (m n : Mid) (w w₀ : World) (g : see m w ≡ see n w₀) where
  pub seen_templates : length w.templates ≡ length w₀.templates
  seen_templates = sym (see_templates_length m w) ∙ ap (λ (x : World). length x.templates) g ∙ see_templates_length n w₀

  pub seen_page : length w.page ≡ length w₀.page
  seen_page = sym (see_page_length m w) ∙ ap (λ (x : World). length x.page) g ∙ see_page_length n w₀

module _ (skip props : Bytes) (norm : Bool) (s : Bytes) (n : ℕ) (e : n ≡ tag_of_front s) (w : World) {total : World} (g : see (props_in skip props norm s) w ≡ total) where
  -- a is the fields of a 50, and f the property
  module _ (h : n ≡ 0x50) {a : Bytes} (p : a ≡ body_of s) where
    abbrev attr_name : AttrName
    attr_name = attr_name_in (read a)

    abbrev property : Mid
    property = prop_of (get_attr_name attr_name norm) (value (opts skip props) (value_in (read a)))

    props_50 : {r : Bytes} → r ≡ behind_of s → props_in skip props norm s ≡ property +++ props_in skip props norm r
    unfolding props_of attributes
    props_50 q =
        ap (λ (x : P.Attributes). props_of norm (attributes (opts skip props) x)) (attributes_50 s n e h)
        ∙ ap (λ (x : Bytes). prop_of (get_attr_name (attr_name_in (read x)) norm) (value (opts skip props) (value_in (read x))) +++ props_in skip props norm (behind_of s)) (sym p)
        ∙ ap (λ (x : Bytes). property +++ props_in skip props norm x) (sym q)

    module _ {f : Option Dynamic} (k : f ≡ as_property norm attr_name (value_in (read a))) where
      made : see property w ≡ see (property_mid normalize_lit_str (opts skip props) attr_name f) w
      made = ap (λ (m : Mid). see m w) (property_is (opts skip props) attr_name norm (value_in (read a)) ∙ ap (property_mid normalize_lit_str (opts skip props) attr_name) (sym k))

      pub prop_low : Low total.st → Low (see (property_mid normalize_lit_str (opts skip props) attr_name f) w).st
      prop_low l = low_is (sym made) (room sees sees_low property (by sees (props_50 refl) g) l)

      pub prop_on : {r : Bytes} → r ≡ behind_of s → {w' : World} → w' ≡ see (property_mid normalize_lit_str (opts skip props) attr_name f) w → see (props_in skip props norm r) w' ≡ total
      prop_on q d = on sees property (by sees (props_50 q) g) (d ∙ sym made)

    -- the key, or one that is ignored
    pub prop_gone : None ≡ as_property norm attr_name (value_in (read a)) → {r : Bytes} → r ≡ behind_of s → see (props_in skip props norm r) w ≡ total
    prop_gone k q = prop_on k q (sym (see_none w))

  -- b is the expression of a spread
  module _ (h : n ≡ 0x53) {b : Bytes} (p : b ≡ body_of s) where
    abbrev spread_field : Mid
    spread_field = node 0x53 [] (expr_at skip props b) S.none

    props_53 : {r : Bytes} → r ≡ behind_of s → props_in skip props norm s ≡ spread_field +++ props_in skip props norm r
    unfolding props_of attributes ◌+++◌
    props_53 q =
        ap (λ (x : P.Attributes). props_of norm (attributes (opts skip props) x)) (attributes_53 s n e h)
        ∙ ap (λ (x : Bytes). node 0x53 [] (expr_at skip props x) (props_in skip props norm (behind_of s))) (sym p)
        ∙ ap (λ (x : Bytes). node 0x53 [] (expr_at skip props b) (props_in skip props norm x)) (sym q)

    abbrev spread_world : World
    spread_world = see spread_field w

    spread_low : Low total.st → Low spread_world.st
    spread_low l = room sees sees_low spread_field (by sees (props_53 refl) g) l

    pub spread_begin : Low total.st → w.st.page + 3 < 2 ^ 63
    spread_begin l = field_begin 0x53 (see (expr_at skip props b)) (see_grows (expr_at skip props b)) w.templates w.page w.st spread_world (see_node 0x53 (expr_at skip props b) w) (spread_low l)

    module _ {y : Walk} (e₁ : y ≡ to_page (w.st.page + 3) w.st) where
      pub spread_inner : Low total.st → Low (see (expr_at skip props b) (at w.templates w.page y)).st
      spread_inner l = field_inner 0x53 (see (expr_at skip props b)) (see_grows (expr_at skip props b)) w.templates w.page w.st spread_world (see_node 0x53 (expr_at skip props b) w) y e₁ (spread_low l)

      module _ {o₂ p₂ : Bytes} {x₂ : Walk} (e₂ : at o₂ p₂ x₂ ≡ see (expr_at skip props b) (at w.templates w.page y)) where
        pub spread_close : Low total.st → (w.st.page + 3 ≤ x₂.page) × Low x₂
        spread_close l = field_close 0x53 (see (expr_at skip props b)) (see_grows (expr_at skip props b)) w.templates w.page w.st spread_world (see_node 0x53 (expr_at skip props b) w) y e₁ o₂ p₂ x₂ e₂ (spread_low l)

        pub spread_on : {r : Bytes} → r ≡ behind_of s → {p₃ : Bytes} {x₃ : Walk} → at [] p₃ x₃ ≡ wrap 0x53 w.st.page (at [] p₂ x₂) → see (props_in skip props norm r) (at o₂ p₃ x₃) ≡ total
        spread_on q {p₃} {x₃} e₃ =
            on sees spread_field (by sees (props_53 q) g)
            (field_done 0x53 (see (expr_at skip props b)) (see_grows (expr_at skip props b)) w.templates w.page w.st spread_world (see_node 0x53 (expr_at skip props b) w) y e₁ o₂ p₂ x₂ e₂ p₃ x₃ e₃)

  pub props_end : (n ≡ 0x50 → ⊥) → (n ≡ 0x53 → ⊥) → w ≡ total
  unfolding props_of attributes
  props_end j k = finish sees (by sees (ap (λ (x : P.Attributes). props_of norm (attributes (opts skip props) x)) (attributes_other s n e j k)) g)
