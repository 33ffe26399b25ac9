-- A field begins, something is done, and it is closed: the room at each step, and what stands then; with a number, only where it is asked
-- for, or with something in front. Two things one after the other. What a function writes to page out alone, in both outs. Room of a part.
-- Main statements: `front_some`, `front_none`, `field_*`, `template_*`, `field_if_*`, `fronted_*`, `started_*`, `then_low`, `then_on`, `turn_low`, `turn_on`,
-- `page_low`, `see_kept`, `kept_since`, `room_part`. Assumes nothing.
use mathlib.Core.Path.{◌≡◌, sym, ap, ◌∙◌, subst}
use Prim.Native.Nat.{ℕ, ◌+◌, ◌≤◌, ◌<◌, ◌^◌}
use native.Mathlib.Omega.{arith}
use mathlib.Core.List.{[]}
use mathlib.Core.Bool.{Bool, true, false, false≢true}
use lib.ListN.{length}
use Rattle.std.specs.Prelude.{Option, Some, None}
use Rattle.field.specs.Bytes.{Bytes}
use Rattle.field.specs.Front.{behind_of}
use Rattle.field.specs.Fields.{IsFront, IsEnd, FieldAt}
use Rattle.field.specs.declared.reader.Field.{Field}
use Rattle.spec.specs.Pass.{Pass, Mid, ◌+++◌}
use Rattle.walk.specs.declared.state.Walk.{Walk}
use Rattle.walk.specs.See.{World, at, see, act, to_page, begun, numbered, wrap, begun_if, wrap_if, Low}
use Rattle.walk.proofs.SeeLaws.{Grows, grows_then, low_back, low_is, begun_grows, see_grows, see_templates_length, see_page_length, lift, lift_wrap, lift_wrap_if, lift_numbered, lift_begun, lift_begun_if, plain}
use Rattle.walk.proofs.ActLaws.{see_append, act_templates_length, act_page_length}
use Rattle.visits.specs.Visiting.{Room}

-- ---- what stands in front

pub front_some : {s : Bytes} {r : Option Field} {f : Field} → FieldAt s r → r ≡ Some f → IsFront s f.tag f.body.now (behind_of s)
front_some {s} a e = subst (FieldAt s) e a

pub front_none : {s : Bytes} {r : Option Field} → FieldAt s r → r ≡ None → IsEnd s s
front_none {s} a e = subst (FieldAt s) e a

-- ---- what grows

abbrev pub Growing : (World → World) → Type 0
Growing F = (x : World) → Grows x (F x)

-- ---- two things, one after the other

module _ (F G : World → World) (w total : World) (is : G (F w) ≡ total) where
  pub then_low : Growing G → Low total.st → Low (F w).st
  then_low g l = low_back (g (F w)) (low_is is l)

  pub then_on : (w' : World) → w' ≡ F w → G w' ≡ total
  then_on w' e = ap G e ∙ is

-- a turn of a loop over a row: a is done, and b is left
module _ (a b : Mid) {m : Mid} (q : m ≡ a +++ b) (w : World) {total : World} (g : see m w ≡ total) where
  turn_is : see b (see a w) ≡ total
  turn_is = sym (see_append a b w) ∙ ap (λ (x : Mid). see x w) (sym q) ∙ g

  pub turn_low : Low total.st → Low (see a w).st
  turn_low = then_low (see a) (see b) w total turn_is (see_grows b)

  pub turn_on : {w' : World} → w' ≡ see a w → see b w' ≡ total
  turn_on {w'} = then_on (see a) (see b) w total turn_is w'

-- what is written to page out alone asks for no more
pub page_low : (m : Mid) (o p : Bytes) (s : Walk) → Low (see m (at o p s)).st → Low (see m (at [] p s)).st
unfolding see
page_low m o p s l = l

-- ---- a field that starts in any way: the head is left open at p, and `start` lies three bytes behind it at least

module _ (t p : ℕ) (start : World) (F : World → World) (grows : Growing F) (total : World) (is : total ≡ wrap t p (F start)) where
  started_inside : Low total.st → Low (F start).st
  started_inside l =
      let m = low_is (sym is) l in
      record { low_first = m.low_first; low_later = m.low_later; low_templates = m.low_templates; low_page = m.low_page }

  pub started_low : Low total.st → Low start.st
  started_low l = low_back (grows start) (started_inside l)

  module _ (w₁ : World) (e₁ : w₁ ≡ start) where
    pub started_inner : Low total.st → Low (F w₁).st
    started_inner l = low_is (ap F e₁) (started_inside l)

    module _ (o q : Bytes) (x : Walk) (e₂ : at o q x ≡ F w₁) where
      pub started_close : p + 3 ≤ start.st.page → Low total.st → (p + 3 ≤ x.page) × Low x
      started_close a l =
          (omega (arith, a, (grows start).g_page, ap (λ (y : World). y.st.page) (e₂ ∙ ap F e₁)), low_is e₂ (started_inner l))

      pub started_done : (q' : Bytes) (y : Walk) → at [] q' y ≡ wrap t p (at [] q x) → at o q' y ≡ total
      started_done q' y e₃ = lift_wrap o q q' x y t p e₃ ∙ ap (wrap t p) (e₂ ∙ ap F e₁) ∙ sym is

-- ---- a field: `begin`, F, `close`

module _ (t : ℕ) (F : World → World) (grows : Growing F) (o p : Bytes) (st : Walk) (total : World) (is : total ≡ wrap t st.page (F (begun (at o p st)))) where
  pub field_begin : Low total.st → st.page + 3 < 2 ^ 63
  field_begin l = let m = started_low t st.page (begun (at o p st)) F grows total is l in omega (arith, m.low_page)

  module _ (r : Walk) (e₁ : r ≡ to_page (st.page + 3) st) where
    pub field_inner : Low total.st → Low (F (at o p r)).st
    field_inner = started_inner t st.page (begun (at o p st)) F grows total is (at o p r) (lift_begun o p st r e₁)

    module _ (o' q : Bytes) (x : Walk) (e₂ : at o' q x ≡ F (at o p r)) where
      pub field_close : Low total.st → (st.page + 3 ≤ x.page) × Low x
      field_close = started_close t st.page (begun (at o p st)) F grows total is (at o p r) (lift_begun o p st r e₁) o' q x e₂ (omega arith)

      pub field_done : (q' : Bytes) (y : Walk) → at [] q' y ≡ wrap t st.page (at [] q x) → at o' q' y ≡ total
      field_done = started_done t st.page (begun (at o p st)) F grows total is (at o p r) (lift_begun o p st r e₁) o' q x e₂

-- ---- a call of a template: `begin_template`, F, `close`

module _ (t : ℕ) (F : World → World) (grows : Growing F) (o p : Bytes) (st : Walk) (total : World) (is : total ≡ wrap t st.page (F (numbered (at o p st)))) where
  pub template_begin : Low total.st → Low (numbered (at [] p st)).st
  template_begin l =
      let m = started_low t st.page (numbered (at o p st)) F grows total is l in
      record { low_first = m.low_first; low_later = m.low_later; low_templates = m.low_templates; low_page = m.low_page }

  module _ (p₁ : Bytes) (r : Walk) (e₁ : at [] p₁ r ≡ numbered (at [] p st)) where
    pub template_inner : Low total.st → Low (F (at o p₁ r)).st
    template_inner = started_inner t st.page (numbered (at o p st)) F grows total is (at o p₁ r) (lift_numbered o p p₁ st r e₁)

    module _ (o' q : Bytes) (x : Walk) (e₂ : at o' q x ≡ F (at o p₁ r)) where
      pub template_close : Low total.st → (st.page + 3 ≤ x.page) × Low x
      template_close = started_close t st.page (numbered (at o p st)) F grows total is (at o p₁ r) (lift_numbered o p p₁ st r e₁) o' q x e₂ (omega arith)

      pub template_done : (q' : Bytes) (y : Walk) → at [] q' y ≡ wrap t st.page (at [] q x) → at o' q' y ≡ total
      template_done = started_done t st.page (numbered (at o p st)) F grows total is (at o p₁ r) (lift_numbered o p p₁ st r e₁) o' q x e₂

-- ---- a field where b holds, and F alone where it does not: `begin_if`, F, `close_if`

pub begun_if_grows : (b : Bool) (w : World) → Grows w (begun_if b w)
begun_if_grows true w = begun_grows w
begun_if_grows false w = record { g_first = omega arith; g_later = omega arith; g_templates = omega arith; g_page = omega arith }

wrap_if_low : (b : Bool) (t p : ℕ) (w : World) → Low (wrap_if b t p w).st → Low w.st
wrap_if_low true t p w l = record { low_first = l.low_first; low_later = l.low_later; low_templates = l.low_templates; low_page = l.low_page }
wrap_if_low false t p w l = l

begun_if_page : (b : Bool) (w : World) → b ≡ true → w.st.page + 3 ≤ (begun_if b w).st.page
begun_if_page true w h = omega arith
begun_if_page false w h = absurd (false≢true h)

module _ (b : Bool) (t : ℕ) (F : World → World) (grows : Growing F) (o p : Bytes) (st : Walk) (total : World) (is : total ≡ wrap_if b t st.page (F (begun_if b (at o p st)))) where
  field_if_inside : Low total.st → Low (F (begun_if b (at o p st))).st
  field_if_inside l = wrap_if_low b t st.page (F (begun_if b (at o p st))) (low_is (sym is) l)

  -- where it is not asked for there are eight bytes of room, too
  pub field_if_begin : Low total.st → st.page + 3 < 2 ^ 63
  field_if_begin l =
      let m : Low st = low_back (grows_then (begun_if_grows b (at o p st)) (grows (begun_if b (at o p st)))) (field_if_inside l) in
      omega (arith, m.low_page)

  module _ (r : Walk) (e₁ : at [] [] r ≡ begun_if b (at [] [] st)) where
    pub field_if_inner : Low total.st → Low (F (at o p r)).st
    field_if_inner l = low_is (ap F (lift_begun_if o b p st r e₁)) (field_if_inside l)

    module _ (o' q : Bytes) (x : Walk) (e₂ : at o' q x ≡ F (at o p r)) where
      pub field_if_close : Low total.st → (b ≡ true → st.page + 3 ≤ x.page) × Low x
      field_if_close l = (
        λ h. omega (arith, begun_if_page b (at o p st) h, (grows (begun_if b (at o p st))).g_page, ap (λ (y : World). y.st.page) (e₂ ∙ ap F (lift_begun_if o b p st r e₁))),
        low_is e₂ (field_if_inner l),
      )

      pub field_if_done : (q' : Bytes) (y : Walk) → at [] q' y ≡ wrap_if b t st.page (at [] q x) → at o' q' y ≡ total
      field_if_done q' y e₃ = lift_wrap_if o' q q' x y b t st.page e₃ ∙ ap (wrap_if b t st.page) (e₂ ∙ ap F (lift_begun_if o b p st r e₁)) ∙ sym is

-- ---- a field with something in front: `begin`, what writes m, F, `close`. What writes m shows it of page out alone

module _ (t : ℕ) (m : Mid) (h : plain m ≡ true) (F : World → World) (grows : Growing F) (o p : Bytes) (st : Walk) (total : World) (is : total ≡ wrap t st.page (F (see m (begun (at o p st))))) where
  pub fronted_begin : Low total.st → st.page + 3 < 2 ^ 63
  fronted_begin l =
      let k = low_back (see_grows m (begun (at o p st))) (started_low t st.page (see m (begun (at o p st))) F grows total is l) in
      omega (arith, k.low_page)

  module _ (r : Walk) (e₁ : r ≡ to_page (st.page + 3) st) where
    pub fronted_leaf : Low total.st → Low (see m (at [] p r)).st
    unfolding see
    fronted_leaf l =
        let k = low_is (ap (see m) (lift_begun o p st r e₁)) (started_low t st.page (see m (begun (at o p st))) F grows total is l) in
        record { low_first = k.low_first; low_later = k.low_later; low_templates = k.low_templates; low_page = k.low_page }

    module _ (p₁ : Bytes) (r₁ : Walk) (e : at [] p₁ r₁ ≡ see m (at [] p r)) where
      fronted_is : at o p₁ r₁ ≡ see m (begun (at o p st))
      fronted_is = lift o p p₁ r r₁ m h e ∙ ap (see m) (lift_begun o p st r e₁)

      pub fronted_inner : Low total.st → Low (F (at o p₁ r₁)).st
      fronted_inner = started_inner t st.page (see m (begun (at o p st))) F grows total is (at o p₁ r₁) fronted_is

      module _ (o' q : Bytes) (x : Walk) (e₂ : at o' q x ≡ F (at o p₁ r₁)) where
        pub fronted_close : Low total.st → (st.page + 3 ≤ x.page) × Low x
        fronted_close =
            started_close t st.page (see m (begun (at o p st))) F grows total is (at o p₁ r₁) fronted_is o' q x e₂
            (omega (arith, (see_grows m (begun (at o p st))).g_page))

        pub fronted_done : (q' : Bytes) (y : Walk) → at [] q' y ≡ wrap t st.page (at [] q x) → at o' q' y ≡ total
        fronted_done = started_done t st.page (see m (begun (at o p st))) F grows total is (at o p₁ r₁) fronted_is o' q x e₂

-- ---- both outs keep their lengths

module _ (o p o' p' : Bytes) (s r : Walk) where
  pub see_kept : (m : Mid) → at o' p' r ≡ see m (at o p s) → (length o' ≡ length o) × (length p' ≡ length p)
  see_kept m e = (
    ap (λ (x : World). length x.templates) e ∙ see_templates_length m (at o p s),
    ap (λ (x : World). length x.page) e ∙ see_page_length m (at o p s),
  )

  pub act_kept : (m : Pass Mid) → at o' p' r ≡ act m (at o p s) → (length o' ≡ length o) × (length p' ≡ length p)
  act_kept m e = (
    ap (λ (x : World). length x.templates) e ∙ act_templates_length m (at o p s),
    ap (λ (x : World). length x.page) e ∙ act_page_length m (at o p s),
  )

-- between the start of a loop and any turn of it
module _ (o p o₀ p₀ : Bytes) (s s₀ : Walk) where
  pub kept_since : (m m₀ : Mid) → see m (at o p s) ≡ see m₀ (at o₀ p₀ s₀) → (length o ≡ length o₀) × (length p ≡ length p₀)
  kept_since m m₀ e = (
    sym (see_templates_length m (at o p s)) ∙ ap (λ (x : World). length x.templates) e ∙ see_templates_length m₀ (at o₀ p₀ s₀),
    sym (see_page_length m (at o p s)) ∙ ap (λ (x : World). length x.page) e ∙ see_page_length m₀ (at o₀ p₀ s₀),
  )

  pub act_kept_since : (m m₀ : Pass Mid) → act m (at o p s) ≡ act m₀ (at o₀ p₀ s₀) → (length o ≡ length o₀) × (length p ≡ length p₀)
  act_kept_since m m₀ e = (
    sym (act_templates_length m (at o p s)) ∙ ap (λ (x : World). length x.templates) e ∙ act_templates_length m₀ (at o₀ p₀ s₀),
    sym (act_page_length m (at o p s)) ∙ ap (λ (x : World). length x.page) e ∙ act_page_length m₀ (at o₀ p₀ s₀),
  )

-- ---- room of a part: scratch keeps its length, the part is no longer, and no more is written

module _ (d d' s s' : Bytes) where
  pub room_part : {w w' : World} → Room d s w → length d' ≡ length d → length s' ≤ length s → Low w'.st → Room d' s' w'
  room_part m e n l = record { desk = omega (arith, m.desk, e); short = omega (arith, m.short, n); low = l }

  pub room_back : {w w' : World} → Room d s w → length d' ≡ length d → length s' ≤ length s → Grows w' w → Room d' s' w'
  room_back m e n g = room_part m e n (low_back g m.low)

  pub room_is : {w w' : World} → Room d s w → length d' ≡ length d → length s' ≤ length s → w' ≡ w → Room d' s' w'
  room_is m e n q = room_part m e n (low_is q m.low)
