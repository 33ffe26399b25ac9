-- The items of a page as the walk visits them: one item, the place of the templates, and each turn over the items; the import.
-- b is the body of the item in front, r what lies behind it; total is where the loop is to end.
-- Main statements: `item_*`, `empty_*`, `items_end`; `part_room`, `place_*`; `import_written`. Assumes nothing.
use mathlib.Core.Path.{◌≡◌, refl, sym, ap, ap₂, ◌∙◌}
use mathlib.Core.Bool.{Bool, true, false, not, false≢true}
use Prim.Native.Nat.{ℕ, ◌+◌, ◌-◌, ◌≤◌, ◌<◌, ◌^◌}
use native.Mathlib.Omega.{arith}
use mathlib.Core.List.{[], ◌∷◌, ◌++◌, append-nil}
use Rattle.field.specs.Bytes.{Bytes, ascii, pick}
use Rattle.field.specs.Row.{read, Ended, field_bytes, bytes}
use Rattle.field.specs.Front.{tag_of_front, body_of, behind_of}
use Rattle.field.specs.Put.{Wrote, head}
use Rattle.field.proofs.PutLaws.{wrote_then, wrote_is, wrote_behind}
use Rattle.page.specs.Page as P
use Rattle.page.specs.Page.{Options, Page}
use Rattle.page.specs.Tree.{module_items_in}
use Rattle.spec.specs.Pass.{Mid, none, node, ◌+++◌}
use Rattle.spec.specs.Output.{leaf}
use Rattle.spec.specs.Transform.{pieces}
use Rattle.decisions.specs.At.{opts}
use Rattle.decisions.proofs.Series.{tested}
use Rattle.walk.specs.declared.state.Walk.{Walk}
use Rattle.walk.specs.See.{World, at, see, to_page, begun, wrap, Low}
use Rattle.walk.proofs.SeeLaws.{see_none, see_node, see_grows, lift}
use Rattle.visits.specs.Visiting.{pieces_at}
use Rattle.visits.proofs.FieldLaws.{turn_low, turn_on, page_low, field_begin, field_inner, field_close, field_done}
use Rattle.transform.specs.Run.{item_mid, placed_before, module_mid, page_has_statement, items_before, items_from, items_mid, Splits, import_bytes}
use Rattle.transform.proofs.ExportLaws.{items_none, items_10, items_11, items_12, items_other}

-- ---- one item: its pieces between `begin` and `close`

module _ (k p b : Bytes) (t : ℕ) (o q : Bytes) (st : Walk) where
  abbrev item_seen : World
  item_seen = see (item_mid (opts k p) t (read b)) (at o q st)

  item_is : item_seen ≡ wrap t st.page (see (pieces_at k p b) (begun (at o q st)))
  item_is = see_node t (pieces_at k p b) (at o q st)

  pub item_begin : Low item_seen.st → st.page + 3 < 2 ^ 63
  item_begin = field_begin t (see (pieces_at k p b)) (see_grows (pieces_at k p b)) o q st item_seen item_is

  module _ {x : Walk} (e₁ : x ≡ to_page (st.page + 3) st) where
    pub item_inner : Low item_seen.st → Low (see (pieces_at k p b) (at o q x)).st
    item_inner = field_inner t (see (pieces_at k p b)) (see_grows (pieces_at k p b)) o q st item_seen item_is x e₁

    module _ {o' q' : Bytes} {y : Walk} (e₂ : at o' q' y ≡ see (pieces_at k p b) (at o q x)) where
      pub item_close : Low item_seen.st → (st.page + 3 ≤ y.page) × Low y
      item_close = field_close t (see (pieces_at k p b)) (see_grows (pieces_at k p b)) o q st item_seen item_is x e₁ o' q' y e₂

      pub item_done : {q'' : Bytes} {z : Walk} → at [] q'' z ≡ wrap t st.page (at [] q' y) → at o' q'' z ≡ item_seen
      item_done {q''} {z} = field_done t (see (pieces_at k p b)) (see_grows (pieces_at k p b)) o q st item_seen item_is x e₁ o' q' y e₂ q'' z

-- ---- a turn over the items

module _ (k p : Bytes) where
  abbrev pub module_at : Bytes → Mid
  module_at s = module_mid (opts k p) false (module_items_in (read s))

  abbrev pub item_at : ℕ → Bytes → Mid
  item_at t b = item_mid (opts k p) t (read b)

  module _ (t : Bytes) (n : ℕ) (e : n ≡ tag_of_front t) where
    module_item : 0x10 ≤ n → n ≤ 0x12 → {b : Bytes} → b ≡ body_of t → {r : Bytes} → r ≡ behind_of t → module_at t ≡ item_at n b +++ module_at r
    unfolding module_mid ◌+++◌
    module_item l h v u =
        tested n 0x10 (λ z. ap (module_mid (opts k p) false) (items_10 t n e z) ∙ rw (v, u, z)) λ x.
        tested n 0x11 (λ z. ap (module_mid (opts k p) false) (items_11 t n e z) ∙ rw (v, u, z)) λ y.
        let z : n ≡ 0x12 = omega arith in ap (module_mid (opts k p) false) (items_12 t n e z) ∙ rw (v, u, z)

    module_other : (n ≡ 256 → ⊥) → (0x10 ≤ n → n ≤ 0x12 → ⊥) → {r : Bytes} → r ≡ behind_of t → module_at t ≡ leaf 0x13 [] +++ module_at r
    unfolding module_mid ◌+++◌
    module_other h a u = ap (module_mid (opts k p) false) (items_other t n e h (λ z. a (omega arith) (omega arith)) (λ z. a (omega arith) (omega arith)) (λ z. a (omega arith) (omega arith))) ∙ rw u

    module _ (o q : Bytes) (st : Walk) {total : World} (g : see (module_at t) (at o q st) ≡ total) where
      module _ (l : 0x10 ≤ n) (h : n ≤ 0x12) {b : Bytes} (v : b ≡ body_of t) where
        pub item_room : Low total.st → Low (see (item_at n b) (at o q st)).st
        item_room = turn_low (item_at n b) (module_at (behind_of t)) (module_item l h v refl) (at o q st) g

        pub item_on : {r : Bytes} → r ≡ behind_of t → {w' : World} → w' ≡ see (item_at n b) (at o q st) → see (module_at r) w' ≡ total
        item_on {r} u = turn_on (item_at n b) (module_at r) (module_item l h v u) (at o q st) g

      module _ (h : n ≡ 256 → ⊥) (a : 0x10 ≤ n → n ≤ 0x12 → ⊥) where
        pub empty_room : Low total.st → Low (see (leaf 0x13 []) (at [] q st)).st
        empty_room l = page_low (leaf 0x13 []) o q st (turn_low (leaf 0x13 []) (module_at (behind_of t)) (module_other h a refl) (at o q st) g l)

        pub empty_on : {r : Bytes} → r ≡ behind_of t → {q' : Bytes} {y : Walk} → at [] q' y ≡ see (leaf 0x13 []) (at [] q st) → see (module_at r) (at o q' y) ≡ total
        empty_on {r} u {q'} {y} d = turn_on (leaf 0x13 []) (module_at r) (module_other h a u) (at o q st) g (lift o q q' st y (leaf 0x13 []) refl d)

      pub items_end : Ended (read t) → at o q st ≡ total
      unfolding module_mid
      items_end i = sym (see_none (at o q st)) ∙ ap (λ (x : Page). see (module_mid (opts k p) false x) (at o q st)) (sym (items_none t i)) ∙ g

-- ---- all items, and the place of the templates

module _ (o : Options) where
  placed_parts : (is : Page) → page_has_statement is ≡ true → module_mid o true is ≡ module_mid o false (items_before is) +++ (leaf 0x83 [] +++ module_mid o false (items_from is))
  unfolding module_mid page_has_statement items_before items_from ◌+++◌
  placed_parts [] h = absurd (false≢true h)
  placed_parts (P.export_item ps ∷ is) h = refl
  placed_parts (P.declaration_item ps ∷ is) h = ap (node 0x11 [] (pieces o ps)) (placed_parts is h)
  placed_parts (P.statement_item ps ∷ is) h = refl
  placed_parts (P.empty_item ∷ is) h = ap (node 0x13 [] none) (placed_parts is h)

  -- whether one stands or not
  placed_by : (is : Page) (b : Bool) → page_has_statement is ≡ b →
      placed_before (not b) (module_mid o b is) ≡ module_mid o false (pick b (items_before is) []) +++ (leaf 0x83 [] +++ module_mid o false (pick b (items_from is) is))
  unfolding module_mid ◌+++◌
  placed_by is true h = placed_parts is h
  placed_by is false h = refl

module _ (k p s o q : Bytes) (st : Walk) where
  abbrev items_seen : World
  items_seen = see (items_mid (opts k p) (module_items_in (read s))) (at o q st)

  -- s is cut there into a and b
  module _ {a b : Bytes} (c : Splits s a b) where
    between : items_mid (opts k p) (module_items_in (read s)) ≡ module_at k p a +++ (leaf 0x83 [] +++ module_at k p b)
    between =
        placed_by (opts k p) (module_items_in (read s)) (page_has_statement (module_items_in (read s))) refl
        ∙ ap₂ (λ (x y : Page). module_mid (opts k p) false x +++ (leaf 0x83 [] +++ module_mid (opts k p) false y)) (sym c.before) (sym c.from)

    pub part_room : Low items_seen.st → Low (see (module_at k p a) (at o q st)).st
    part_room = turn_low (module_at k p a) (leaf 0x83 [] +++ module_at k p b) between (at o q st) refl

    module _ {o₁ q₁ : Bytes} {x : Walk} (d : at o₁ q₁ x ≡ see (module_at k p a) (at o q st)) where
      left_is : see (leaf 0x83 [] +++ module_at k p b) (at o₁ q₁ x) ≡ items_seen
      left_is = turn_on (module_at k p a) (leaf 0x83 [] +++ module_at k p b) between (at o q st) refl d

      pub place_room : Low items_seen.st → Low (see (leaf 0x83 []) (at [] q₁ x)).st
      place_room l = page_low (leaf 0x83 []) o₁ q₁ x (turn_low (leaf 0x83 []) (module_at k p b) refl (at o₁ q₁ x) left_is l)

      pub place_on : {q₂ : Bytes} {y : Walk} → at [] q₂ y ≡ see (leaf 0x83 []) (at [] q₁ x) → see (module_at k p b) (at o₁ q₂ y) ≡ items_seen
      place_on {q₂} {y} f = turn_on (leaf 0x83 []) (module_at k p b) refl (at o₁ q₁ x) left_is (lift o₁ q₁ q₂ x y (leaf 0x83 []) refl f)

-- ---- the import

-- the source, `/jsx-runtime`, the inner head, the sum, the outer head
pub import_written : {o o₁ o₂ o₃ o₄ o₅ source : Bytes} {a b c n m sum : ℕ} → Wrote o 6 source o₁ a → Wrote o₁ a (ascii "/jsx-runtime") o₂ b → Wrote o₂ 3 (head 0x81 (b - 6)) o₃ n →
    Wrote o₃ b (sum ∷ []) o₄ c → Wrote o₄ 0 (head 0x82 (c - 3)) o₅ m → Wrote o 0 (import_bytes source sum) o₅ c
unfolding import_bytes bytes
import_written {source = source} {sum = sum} v w x y z =
    let s = source ++ ascii "/jsx-runtime" in
    let f = field_bytes 0x81 s ++ (sum ∷ []) in
    let e : field_bytes 0x82 f ≡ field_bytes 0x82 (field_bytes 0x81 (s ++ []) ++ (sum ∷ [])) ++ [] = ap (λ (l : Bytes). field_bytes 0x82 (field_bytes 0x81 l ++ (sum ∷ []))) (sym (append-nil s)) ∙ sym (append-nil _) in
    wrote_is e (wrote_behind 0x82 refl (wrote_then (wrote_behind 0x81 refl (wrote_then v w) x) y) z)
