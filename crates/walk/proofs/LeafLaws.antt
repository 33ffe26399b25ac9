-- What every writer of the page walk shows: a leaf by its bytes, fields behind an open head, a field around fields, a leaf and a row behind
-- it. Main statements: `numbered_is`, `leaf_is`, `begun_is`, `node_is`, `rest_is`, `left_done`; beside each the room that it needs. Assumes
-- nothing.
use mathlib.Core.Path.{◌≡◌, refl, sym, ap, ◌∙◌, subst}
use mathlib.Core.Bool.{Bool, true, false}
use mathlib.Core.List.{[]}
use Prim.Native.Nat.{ℕ, ◌+◌, ◌≤◌, ◌<◌, ◌^◌}
use native.Mathlib.Omega.{arith}
use lib.ListN.{length}
use Rattle.field.specs.Bytes.{Bytes, pick}
use Rattle.field.specs.Number.{big_endian}
use Rattle.field.specs.Put.{Wrote}
use Rattle.spec.specs.Pass.{Mid, none, node}
use Rattle.spec.specs.Output.{leaf}
use Rattle.strings.specs.declared.due.Due.{Due}
use Rattle.strings.specs.declared.due.Due.TheVariants.{Left}
use Rattle.strings.specs.Due.{graver}
use Rattle.walk.specs.declared.state.Seen.{Seen}
use Rattle.walk.specs.declared.state.Walk.{Walk}
use Rattle.walk.specs.See.{World, at, see, to_page, begun, numbered, wrap, left, Low}
use Rattle.walk.proofs.SeeLaws.{see_leaf, see_rest, see_node, left_noted, left_is, see_grows, low_back}

-- ---- a world by another name, and a state with other flags

module _ {w w' : World} (e : w ≡ w') where
  pub low_world : Low w.st → Low w'.st
  low_world l = subst (λ (x : World). Low x.st) e l

pub low_seen : {st : Walk} {s : Seen} → Low (record { first = st.first; later = st.later; templates = st.templates; page = st.page; seen = s }) → Low st
low_seen l = record { low_first = l.low_first; low_later = l.low_later; low_templates = l.low_templates; low_page = l.low_page }

-- ---- one of two, by a test

module _ {A : Type 0} (b : Bool) (x y : A) where
  pub pick_true : b ≡ true → pick b x y ≡ x
  pick_true h = ap (λ (c : Bool). pick c x y) h

  pub pick_false : b ≡ false → pick b x y ≡ y
  pick_false h = ap (λ (c : Bool). pick c x y) h

-- ---- a call of a template

pub numbered_is : (o : Bytes) (st : Walk) {o' : Bytes} {e : ℕ} → Wrote o (st.page + 3) (big_endian 4 st.first []) o' e →
    at [] o' (record { first = st.first + 1; later = st.later; templates = st.templates; page = e; seen = st.seen }) ≡ numbered (at [] o st)
unfolding big_endian
numbered_is o st {o'} {e} w =
    let k : length (big_endian 4 st.first []) ≡ 4 = refl in
    let n : e ≡ st.page + 7 = omega (arith, w.end_is, k) in
    λ i. at [] (w.out_is i) (record { first = st.first + 1; later = st.later; templates = st.templates; page = n i; seen = st.seen })

-- ---- a leaf: its bytes are written, and then its head

module _ (o : Bytes) (st : Walk) (t : ℕ) (b : Bytes) where
  leaf_low : Low (see (leaf t b) (at [] o st)).st → Low (to_page (st.page + 3 + length b) st)
  leaf_low l = low_seen (low_world (see_leaf t b (at [] o st)) l)

  pub leaf_room : Low (see (leaf t b) (at [] o st)).st → st.page + 3 + length b < 2 ^ 63
  leaf_room l = let m = leaf_low l in omega (arith, m.low_page)

  module _ {o₁ : Bytes} {e : ℕ} (u : Wrote o (st.page + 3) b o₁ e) where
    leaf_end : to_page e st ≡ to_page (st.page + 3 + length b) st
    leaf_end = ap (λ (n : ℕ). to_page n st) u.end_is

    pub leaf_close : Low (see (leaf t b) (at [] o st)).st → (st.page + 3 ≤ e) × Low (to_page e st)
    leaf_close l = (omega (arith, u.end_is), subst Low (sym leaf_end) (leaf_low l))

    pub leaf_is : {w : World} → w ≡ wrap t st.page (at [] o₁ (to_page e st)) → w ≡ see (leaf t b) (at [] o st)
    leaf_is g = g ∙ (λ i. wrap t st.page (at [] (u.out_is i) (leaf_end i))) ∙ sym (see_leaf t b (at [] o st))

-- the same by another name
module _ (w : World) {m m' : Mid} (e : m ≡ m') where
  pub low_as : Low (see m w).st → Low (see m' w).st
  low_as l = subst (λ (x : Mid). Low (see x w).st) e l

  pub done_as : {x : World} → x ≡ see m' w → x ≡ see m w
  done_as g = g ∙ ap (λ (x : Mid). see x w) (sym e)

-- ---- what stands behind an open head

module _ (m : Mid) (o : Bytes) (st : Walk) where
  pub begun_room : Low (see m (begun (at [] o st))).st → st.page + 3 < 2 ^ 63
  begun_room l = let k = low_back (see_grows m (begun (at [] o st))) l in omega (arith, k.low_page)

  module _ {r : Walk} (q : r ≡ to_page (st.page + 3) st) where
    pub begun_low : Low (see m (begun (at [] o st))).st → Low (see m (at [] o r)).st
    begun_low l = subst (λ (x : Walk). Low (see m (at [] o x)).st) (sym q) l

    pub begun_is : {w : World} → w ≡ see m (at [] o r) → w ≡ see m (begun (at [] o st))
    begun_is g = g ∙ ap (λ (x : Walk). see m (at [] o x)) q

-- ---- a field around fields

module _ (t : ℕ) (i : Mid) (o : Bytes) (st : Walk) where
  node_low : Low (see (node t [] i none) (at [] o st)).st → Low (see i (begun (at [] o st))).st
  node_low l = low_seen (low_world (see_node t i (at [] o st)) l)

  pub node_room : Low (see (node t [] i none) (at [] o st)).st → st.page + 3 < 2 ^ 63
  node_room l = begun_room i o st (node_low l)

  module _ {r : Walk} (q : r ≡ to_page (st.page + 3) st) where
    pub node_inner : Low (see (node t [] i none) (at [] o st)).st → Low (see i (at [] o r)).st
    node_inner l = begun_low i o st q (node_low l)

    module _ {o₁ : Bytes} {r₁ : Walk} (g : at [] o₁ r₁ ≡ see i (at [] o r)) where
      node_inside : at [] o₁ r₁ ≡ see i (begun (at [] o st))
      node_inside = begun_is i o st q g

      pub node_close : Low (see (node t [] i none) (at [] o st)).st → (st.page + 3 ≤ r₁.page) × Low r₁
      node_close l =
          let n = see_grows i (begun (at [] o st)) in
          (omega (arith, n.g_page, ap (λ (x : World). x.st.page) node_inside), low_world (sym node_inside) (node_low l))

      pub node_is : {w : World} → w ≡ wrap t st.page (at [] o₁ r₁) → w ≡ see (node t [] i none) (at [] o st)
      node_is h = h ∙ ap (wrap t st.page) node_inside ∙ sym (see_node t i (at [] o st))

-- ---- a leaf, and a row behind it

module _ (t : ℕ) (b : Bytes) (m : Mid) (w : World) where
  pub front_low : Low (see (node t b none m) w).st → Low (see (leaf t b) w).st
  front_low l = low_back (see_grows m (see (leaf t b) w)) (low_world (see_rest t b none w m) l)

  module _ {w₁ : World} (g : w₁ ≡ see (leaf t b) w) where
    pub rest_low : Low (see (node t b none m) w).st → Low (see m w₁).st
    rest_low l = low_world (see_rest t b none w m ∙ ap (see m) (sym g)) l

    pub rest_is : {w₂ : World} → w₂ ≡ see m w₁ → w₂ ≡ see (node t b none m) w
    rest_is h = h ∙ ap (see m) g ∙ sym (see_rest t b none w m)

-- ---- a tag that is left

module _ (o : Bytes) (st : Walk) where
  pub left_low : Low (left (at [] o st)).st → Low (see (leaf 0x30 []) (at [] o st)).st
  left_low l = low_seen (low_world (left_is (at [] o st)) l)

  pub left_done : {o₁ : Bytes} {r : Walk} → at [] o₁ r ≡ see (leaf 0x30 []) (at [] o st) → {d : Due} → d ≡ graver r.seen.due Left →
      at [] o₁ (record {
        first = r.first;
        later = r.later;
        templates = r.templates;
        page = r.page;
        seen = record { jsx = r.seen.jsx; attr = r.seen.attr; escape = r.seen.escape; due = d };
      }) ≡ left (at [] o st)
  left_done {o₁} {r} g e =
      (λ i. at [] o₁ (record {
        first = r.first;
        later = r.later;
        templates = r.templates;
        page = r.page;
        seen = record { jsx = r.seen.jsx; attr = r.seen.attr; escape = r.seen.escape; due = e i };
      }))
      ∙ ap left_noted g ∙ sym (left_is (at [] o st))
