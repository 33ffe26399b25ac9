-- Laws of `see`: rows in a row, a field by its head and what it holds, a leaf as code writes it, what is left; buffers keep their lengths and
-- places grow; what is written to page out alone goes over to both outs.
-- Main statements: `see_none`, `see_rest`, `see_node`, `see_leaf`, `see_string`, `left_is`, `lift`, `see_grows`, `low_back`. Assumes nothing.
use mathlib.Core.Path.{◌≡◌, refl, sym, ap, ap₂, ◌∙◌, subst}
use Prim.Native.Nat.{ℕ, ◌+◌, ◌-◌, ◌≤◌}
use native.Mathlib.Omega.{arith}
use mathlib.Core.List.{List, [], ◌++◌, append-nil}
use mathlib.Core.Bool.{Bool, true, false, ◌&&◌, ◌||◌, or_assoc, or-true, or-false, false≢true}
use lib.Dec.{eqb, ltb}
use borrow.Author.Tests.{ne_eqb}
use lib.ListN.{length, length-append}
use Rattle.field.specs.Bytes.{Bytes, pick}
use Rattle.field.specs.Number.{big_endian}
use Rattle.field.specs.Row.{Row, end, field, field_bytes, bytes, long_body}
use Rattle.field.specs.Put.{put, head}
use Rattle.field.proofs.PutLaws.{put_put, put_nil, put_back, length_put, length_field_bytes}
use Rattle.spec.specs.Pass.{Template, Done, pure, both, raise, join, no_flags, Mid, none, node, raw}
use Rattle.spec.specs.Output.{leaf, string_node, null_node}
use Rattle.spec.specs.Visit as W
use Rattle.spec.specs.Visit.{visit_exprs}
use Rattle.spec.specs.Transform.{templates_row, stands}
use Rattle.spec.specs.declared.Flags.{Flags}
use Rattle.strings.specs.declared.due.Due.TheVariants.{Left}
use Rattle.strings.specs.Due.{graver, long_due, grave}
use Rattle.strings.specs.Recorded.{recorded}
use Rattle.strings.proofs.DueLaws.{due_none, due_then, due_more, due_raised, left_grave, none_grave}
use Rattle.strings.proofs.RecordedLaws.{size_append, long_append, recorded_append, recorded_length}
use Rattle.walk.specs.declared.state.Walk.{Walk}
use Rattle.walk.specs.See.{World, at, wrote, see, to_page, along, begun, numbered, wrap, begun_if, wrap_if, left, flushed, props_closed, Low}

-- ---- Booleans

-- a head is noted behind what the field holds
or_field : (s e i : Bool) → (s || (e || (i || false))) ≡ ((s || i) || e)
or_field true e i = refl
or_field false true true = refl
or_field false true false = refl
or_field false false true = refl
or_field false false false = refl

or_front : (e i r : Bool) → (e || (i || r)) ≡ ((e || (i || false)) || r)
or_front true i r = refl
or_front false true r = refl
or_front false false r = refl

or_cross : (a b x y : Bool) → ((a || b) || (x || y)) ≡ ((a || x) || (b || y))
or_cross true b x y = refl
or_cross false true x y = sym (or-true x)
or_cross false false x y = refl

-- ---- two visits in a row

-- a row that is x and then y
pub record Split (v x y : Row) : Type 0 where
  pub split_bytes : bytes v ≡ bytes x ++ bytes y
  pub split_stands : (u : ℕ) → stands u v ≡ (stands u x || stands u y)
  pub split_long : long_body v ≡ (long_body x || long_body y)

split_field : (t : ℕ) (f : Bytes) (i r : Row) → Split (field t f i r) (field t f i end) r
unfolding bytes stands long_body
split_field t f i r =
    record {
      split_bytes = ap (λ (x : Bytes). x ++ bytes r) (sym (append-nil (field_bytes t (f ++ bytes i))));
      split_stands = λ u. or_front (eqb t u) (stands u i) (stands u r);
      split_long = or_front (ltb 65535 (length (f ++ bytes i))) (long_body i) (long_body r);
    }

module _ (c d : Done Row) (v : Row) (s : Split v c.value d.value) (w : World) where
  pub wrote_then : wrote (record { value = v; taken = c.taken + d.taken; templates = c.templates ++ d.templates; flags = join c.flags d.flags }) w ≡ wrote d (wrote c w)
  wrote_then =
      let x = length (bytes (templates_row c.templates)) in
      let y = length (bytes (templates_row d.templates)) in
      let ot : recorded (c.templates ++ d.templates) w.templates w.st.templates ≡ recorded d.templates (recorded c.templates w.templates w.st.templates) (w.st.templates + x) = recorded_append c.templates d.templates w.templates w.st.templates in
      let nt : w.st.templates + length (bytes (templates_row (c.templates ++ d.templates))) ≡ w.st.templates + x + y = omega (arith, size_append c.templates d.templates) in
      let a = bytes c.value in
      let b = bytes d.value in
      let op : put w.page w.st.page (bytes v) ≡ put (put w.page w.st.page a) (w.st.page + length a) b = ap (put w.page w.st.page) s.split_bytes ∙ sym (put_put w.page w.st.page a b) in
      let np : w.st.page + length (bytes v) ≡ w.st.page + length a + length b = omega (arith, ap length s.split_bytes, length-append a b) in
      let nl : w.st.later + (c.taken + d.taken) ≡ w.st.later + c.taken + d.taken = omega arith in
      let mark : (m : Bool) (u : ℕ) → (m || stands u v) ≡ ((m || stands u c.value) || stands u d.value) = λ m u. ap (λ (z : Bool). m || z) (s.split_stands u) ∙ sym (or_assoc m (stands u c.value) (stands u d.value)) in
      let long : (long_body (templates_row (c.templates ++ d.templates)) || long_body v) ≡ ((long_body (templates_row c.templates) || long_body c.value) || (long_body (templates_row d.templates) || long_body d.value)) =
      ap₂ (λ (p q : Bool). p || q) (long_append c.templates d.templates) s.split_long
      ∙ or_cross (long_body (templates_row c.templates)) (long_body (templates_row d.templates)) (long_body c.value) (long_body d.value) in
      let due = due_then w.st.seen.due c.flags d.flags (long_body (templates_row c.templates) || long_body c.value) (long_body (templates_row d.templates) || long_body d.value) long in
      λ i. record {
        templates = ot i;
        page = op i;
        st =
            record {
              first = w.st.first;
              later = nl i;
              templates = nt i;
              page = np i;
              seen =
                  record {
                    jsx = mark w.st.seen.jsx 0x94 i;
                    attr = mark w.st.seen.attr 0x91 i;
                    escape = mark w.st.seen.escape 0x92 i;
                    due = due i;
                  };
            };
      }

-- a visit, and one of nothing behind it
pub wrote_last : (v : Row) (k : ℕ) (ts : List Template) (f : Flags) (w : World) →
    wrote (record { value = v; taken = k + 0; templates = ts ++ []; flags = join f no_flags }) w ≡ wrote (record { value = v; taken = k; templates = ts; flags = f }) w
wrote_last v k ts f w =
    let n : k + 0 ≡ k = omega arith in
    λ i. wrote (record { value = v; taken = n i; templates = append-nil ts i; flags = record { left = or-false f.left i; long = or-false f.long i; repeated = or-false f.repeated i; mixed = or-false f.mixed i } }) w

pub see_none : (w : World) → see none w ≡ w
unfolding see visit_exprs pure recorded templates_row bytes long_body stands
see_none w =
    let n : w.st.later + 0 ≡ w.st.later = omega arith in
    let t : w.st.templates + 0 ≡ w.st.templates = omega arith in
    let p : w.st.page + 0 ≡ w.st.page = omega arith in
    let s = w.st.seen in
    λ i. record {
      templates = w.templates;
      page = put_nil w.page w.st.page i;
      st =
          record {
            first = w.st.first;
            later = n i;
            templates = t i;
            page = p i;
            seen = record { jsx = or-false s.jsx i; attr = or-false s.attr i; escape = or-false s.escape i; due = due_none s.due i };
          };
    }

-- ---- a field

-- a field's head is left open, and bytes stand behind it
abbrev pub fronted : Bytes → World → World
fronted b w = at w.templates (put w.page (w.st.page + 3) b) (to_page (w.st.page + 3 + length b) w.st)

pub fronted_none : (w : World) → fronted [] w ≡ begun w
fronted_none w =
    let n : w.st.page + 3 + 0 ≡ w.st.page + 3 = omega arith in
    λ i. at w.templates (put_nil w.page (w.st.page + 3) i) (to_page (n i) w.st)

module _ (t : ℕ) (f : Bytes) (d : Done Row) (w : World) where
  -- the field around what a visit gives
  around : Done Row
  around = record { value = field t f d.value end; taken = d.taken; templates = d.templates; flags = d.flags }

  wrote_around : wrote around w ≡ wrap t w.st.page (wrote d (fronted f w))
  unfolding around bytes field_bytes big_endian stands long_body
  wrote_around =
      let p = w.st.page in
      let s = w.st.seen in
      let b = bytes d.value in
      let h = p + 3 + length f + length b - (p + 3) in
      let n : length (f ++ b) ≡ h = omega (arith, length-append f b) in
      let o : put w.page p (field_bytes t (f ++ b) ++ []) ≡ put (put (put w.page (p + 3) f) (p + 3 + length f) b) p (head t h) =
      ap (put w.page p) (append-nil (field_bytes t (f ++ b)))
      ∙ sym (put_back w.page p (head t (length (f ++ b))) (f ++ b))
      ∙ ap (λ (x : Bytes). put x p (head t (length (f ++ b)))) (sym (put_put w.page (p + 3) f b))
      ∙ ap (λ (x : ℕ). put (put (put w.page (p + 3) f) (p + 3 + length f) b) p (head t x)) n in
      let e : p + length (field_bytes t (f ++ b) ++ []) ≡ p + 3 + length f + length b = omega (arith, ap length (append-nil (field_bytes t (f ++ b))), length_field_bytes t (f ++ b), length-append f b) in
      let mark : (m : Bool) (u : ℕ) → (m || (eqb t u || (stands u d.value || false))) ≡ ((m || stands u d.value) || eqb t u) = λ m u. or_field m (eqb t u) (stands u d.value) in
      let l = long_body (templates_row d.templates) in
      let v = long_body d.value in
      let due : graver s.due (graver (grave d.flags) (long_due (l || (ltb 65535 (length (f ++ b)) || (v || false))))) ≡ graver (graver s.due (graver (grave d.flags) (long_due (l || v)))) (long_due (ltb 65535 h)) =
      ap (λ (x : Bool). graver s.due (graver (grave d.flags) (long_due x))) (or_field l (ltb 65535 (length (f ++ b))) v)
      ∙ due_more s.due (grave d.flags) (l || v) (ltb 65535 (length (f ++ b)))
      ∙ ap (λ (x : ℕ). graver (graver s.due (graver (grave d.flags) (long_due (l || v)))) (long_due (ltb 65535 x))) n in
      λ i. record {
        templates = recorded d.templates w.templates w.st.templates;
        page = o i;
        st =
            record {
              first = w.st.first;
              later = w.st.later + d.taken;
              templates = w.st.templates + length (bytes (templates_row d.templates));
              page = e i;
              seen =
                  record {
                    jsx = mark s.jsx 0x94 i;
                    attr = mark s.attr 0x91 i;
                    escape = mark s.escape 0x92 i;
                    due = due i;
                  };
            };
      }

module _ (t : ℕ) (f : Bytes) (i : Mid) (w : World) where
  see_around : see (node t f i none) w ≡ wrote (around t f (visit_exprs i w.st.later) w) w
  unfolding see visit_exprs pure both around
  see_around = let d = visit_exprs i w.st.later in wrote_last (field t f d.value end) d.taken d.templates d.flags w

  -- one field
  pub see_front : see (node t f i none) w ≡ wrap t w.st.page (see i (fronted f w))
  unfolding see
  see_front = see_around ∙ wrote_around t f (visit_exprs i w.st.later) w

  -- what stands behind a field
  pub see_rest : (r : Mid) → see (node t f i r) w ≡ see r (see (node t f i none) w)
  unfolding see visit_exprs both around
  see_rest r =
      let d = visit_exprs i w.st.later in
      let e = visit_exprs r (w.st.later + d.taken) in
      wrote_then (around t f d w) e (field t f d.value e.value) (split_field t f d.value e.value) w ∙ ap (see r) (sym see_around)

module _ (t : ℕ) (i : Mid) (w : World) where
  pub see_node : see (node t [] i none) w ≡ wrap t w.st.page (see i (begun w))
  see_node = see_front t [] i w ∙ ap (λ (x : World). wrap t w.st.page (see i x)) (fronted_none w)

-- a leaf as code writes it: the bytes, and then the head
module _ (t : ℕ) (b : Bytes) (w : World) where
  pub see_leaf : see (leaf t b) w ≡ wrap t w.st.page (fronted b w)
  see_leaf = see_front t b none w ∙ ap (wrap t w.st.page) (see_none (fronted b w))

-- a row behind a row in which no tag stands
abbrev pub plain : Mid → Bool
plain none = true
plain (node t f i r) = plain i && plain r
plain (raw q r) = false

both_true : (a b : Bool) → (a && b) ≡ true → (a ≡ true) × (b ≡ true)
both_true true b e = (refl, e)
both_true false b e = absurd (false≢true e)

-- ---- runs

-- a run that stands behind an open head
pub see_string : (b : Bytes) (n : ℕ) (w : World) → n ≡ length b → (n ≡ 0 → ⊥) →
    flushed n (at w.templates (put w.page (w.st.page + 3) b) w.st) ≡ see (string_node b) w
see_string b n w q z =
    let x = at w.templates (put w.page (w.st.page + 3) b) w.st in
    let e : w.st.page + (3 + n) ≡ w.st.page + 3 + length b = omega (arith, q) in
    ap (λ (c : Bool). pick c x (wrap 0x70 w.st.page (along (3 + n) x))) (ne_eqb n 0 z)
    ∙ ap (λ (k : ℕ). wrap 0x70 w.st.page (at w.templates x.page (to_page k w.st))) e
    ∙ sym (see_leaf 0x70 b w)

-- ---- a tag that is left

-- a 30 is written, and what was come upon is noted
abbrev pub left_noted : World → World
left_noted w =
    at w.templates w.page
    (record {
      first = w.st.first;
      later = w.st.later;
      templates = w.st.templates;
      page = w.st.page;
      seen =
          record { jsx = w.st.seen.jsx; attr = w.st.seen.attr; escape = w.st.seen.escape; due = graver w.st.seen.due Left };
    })

pub left_is : (w : World) → left w ≡ left_noted (see (leaf 0x30 []) w)
unfolding left W.leave raise see visit_exprs pure both
left_is w =
    λ i. record {
      templates = (see (leaf 0x30 []) w).templates;
      page = (see (leaf 0x30 []) w).page;
      st =
          record {
            first = w.st.first;
            later = (see (leaf 0x30 []) w).st.later;
            templates = (see (leaf 0x30 []) w).st.templates;
            page = (see (leaf 0x30 []) w).st.page;
            seen =
                record {
                  jsx = (see (leaf 0x30 []) w).st.seen.jsx;
                  attr = (see (leaf 0x30 []) w).st.seen.attr;
                  escape = (see (leaf 0x30 []) w).st.seen.escape;
                  due = due_raised w.st.seen.due left_grave none_grave (long_due (long_body (templates_row []) || long_body (field 0x30 [] end end))) i;
                };
          };
    }

-- ---- what code shows of page out alone holds of both outs

plain_templates : (m : Mid) → plain m ≡ true → (n : ℕ) → (visit_exprs m n).templates ≡ []
unfolding visit_exprs pure both
plain_templates none h n = refl
plain_templates (node t f i r) h n =
    let k = both_true (plain i) (plain r) h in
    ap₂ (λ (x y : List Template). x ++ y) (plain_templates i k.0 n) (plain_templates r k.1 (n + (visit_exprs i n).taken))
plain_templates (raw q r) h n = absurd (false≢true h)

-- the state that is left does not go by the outs
pub see_state : (m : Mid) (t t' p p' : Bytes) (s : Walk) → (see m (at t p s)).st ≡ (see m (at t' p' s)).st
unfolding see
see_state m t t' p p' s = refl

module _ (t : Bytes) where
  pub lift_world : {w w' : World} → w ≡ w' → at t w.page w.st ≡ at t w'.page w'.st
  lift_world e = ap (λ (x : World). at t x.page x.st) e

  pub at_see : (m : Mid) → plain m ≡ true → (p : Bytes) (s : Walk) → at t (see m (at [] p s)).page (see m (at [] p s)).st ≡ see m (at t p s)
  unfolding see recorded
  at_see m h p s =
      let k : recorded (visit_exprs m s.later).templates t s.templates ≡ t = ap (λ (x : List Template). recorded x t s.templates) (plain_templates m h s.later) in
      λ i. at (sym k i) (see m (at t p s)).page (see m (at t p s)).st

  at_left : (p : Bytes) (s : Walk) → at t (left (at [] p s)).page (left (at [] p s)).st ≡ left (at t p s)
  unfolding left W.leave raise pure recorded
  at_left p s = refl

  at_pick : (b : Bool) (x y : World) → at t (pick b x y).page (pick b x y).st ≡ pick b (at t x.page x.st) (at t y.page y.st)
  at_pick true x y = refl
  at_pick false x y = refl

  module _ (p p' : Bytes) (s r : Walk) where
    pub lift : (m : Mid) → plain m ≡ true → at [] p' r ≡ see m (at [] p s) → at t p' r ≡ see m (at t p s)
    lift m h e = lift_world e ∙ at_see m h p s

    pub lift_wrap : (u q : ℕ) → at [] p' r ≡ wrap u q (at [] p s) → at t p' r ≡ wrap u q (at t p s)
    lift_wrap u q e = lift_world e

    pub lift_wrap_if : (b : Bool) (u q : ℕ) → at [] p' r ≡ wrap_if b u q (at [] p s) → at t p' r ≡ wrap_if b u q (at t p s)
    lift_wrap_if b u q e = lift_world e ∙ at_pick b (wrap u q (at [] p s)) (at [] p s)

    pub lift_numbered : at [] p' r ≡ numbered (at [] p s) → at t p' r ≡ numbered (at t p s)
    lift_numbered e = lift_world e

    pub lift_left : at [] p' r ≡ left (at [] p s) → at t p' r ≡ left (at t p s)
    lift_left e = lift_world e ∙ at_left p s

    pub lift_flushed : (n : ℕ) → at [] p' r ≡ flushed n (at [] p s) → at t p' r ≡ flushed n (at t p s)
    lift_flushed n e = lift_world e ∙ at_pick (eqb n 0) (at [] p s) (wrap 0x70 s.page (along (3 + n) (at [] p s)))

    pub lift_props_closed : (q : ℕ) → at [] p' r ≡ props_closed q (at [] p s) → at t p' r ≡ props_closed q (at t p s)
    lift_props_closed q e =
        let b = eqb s.page (q + 3) in
        lift_world e ∙ at_pick b (see null_node (at [] p (to_page q s))) (wrap 0x95 q (at [] p s))
        ∙ ap (λ (x : World). pick b x (wrap 0x95 q (at t p s))) (at_see null_node refl p (to_page q s))

  -- these leave page out as it is
  pub lift_begun : (p : Bytes) (s r : Walk) → r ≡ to_page (s.page + 3) s → at t p r ≡ begun (at t p s)
  lift_begun p s r e = ap (at t p) e

  pub lift_begun_if : (b : Bool) (p : Bytes) (s r : Walk) → at [] [] r ≡ begun_if b (at [] [] s) → at t p r ≡ begun_if b (at t p s)
  lift_begun_if true p s r e = ap (λ (x : World). at t p x.st) e
  lift_begun_if false p s r e = ap (λ (x : World). at t p x.st) e

-- ---- room

pub record Grows (w w' : World) : Type 0 where
  pub g_first : w.st.first ≤ w'.st.first
  pub g_later : w.st.later ≤ w'.st.later
  pub g_templates : w.st.templates ≤ w'.st.templates
  pub g_page : w.st.page ≤ w'.st.page

pub grows_same : (w : World) → Grows w w
grows_same w = record { g_first = omega arith; g_later = omega arith; g_templates = omega arith; g_page = omega arith }

pub grows_then : {u v w : World} → Grows u v → Grows v w → Grows u w
grows_then {u} {v} {w} a b =
    record {
      g_first = omega (arith, a.g_first, b.g_first);
      g_later = omega (arith, a.g_later, b.g_later);
      g_templates = omega (arith, a.g_templates, b.g_templates);
      g_page = omega (arith, a.g_page, b.g_page);
    }

pub see_grows : (m : Mid) (w : World) → Grows w (see m w)
unfolding see
see_grows m w = record { g_first = omega arith; g_later = omega arith; g_templates = omega arith; g_page = omega arith }

pub low_back : {w w' : World} → Grows w w' → Low w'.st → Low w.st
low_back {w} {w'} g l =
    record {
      low_first = omega (arith, g.g_first, l.low_first);
      low_later = omega (arith, g.g_later, l.low_later);
      low_templates = omega (arith, g.g_templates, l.low_templates);
      low_page = omega (arith, g.g_page, l.low_page);
    }

pub low_is : {w w' : World} → w ≡ w' → Low w'.st → Low w.st
low_is e l = subst (λ (x : World). Low x.st) (sym e) l

pub begun_grows : (w : World) → Grows w (begun w)
begun_grows w = record { g_first = omega arith; g_later = omega arith; g_templates = omega arith; g_page = omega arith }

pub wrap_grows : (t p : ℕ) (w : World) → Grows w (wrap t p w)
wrap_grows t p w = record { g_first = omega arith; g_later = omega arith; g_templates = omega arith; g_page = omega arith }

-- a field is three bytes at least
pub see_page : (t : ℕ) (f : Bytes) (i r : Mid) (w : World) → w.st.page + 3 ≤ (see (node t f i r) w).st.page
see_page t f i r w =
    let g = see_grows r (see (node t f i none) w) in
    let h = see_grows i (fronted f w) in
    omega (arith, g.g_page, h.g_page, ap (λ (x : World). x.st.page) (see_rest t f i w r), ap (λ (x : World). x.st.page) (see_front t f i w))

-- ---- both outs keep their lengths

module _ (m : Mid) (w : World) where
  pub see_templates_length : length (see m w).templates ≡ length w.templates
  unfolding see
  see_templates_length = recorded_length (visit_exprs m w.st.later).templates w.templates w.st.templates

  pub see_page_length : length (see m w).page ≡ length w.page
  unfolding see
  see_page_length = length_put _ _ _
