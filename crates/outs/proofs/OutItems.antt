-- What the check of a page out takes is the row of a proper page out: its import, its items, and between them the place of the templates.
-- Main statement: `page_out_sound`. Assumes nothing.
use mathlib.Core.Path.{◌≡◌, refl, sym, ap, ap₂, ◌∙◌, subst}
use mathlib.Core.Bool.{Bool, true, false, ◌&&◌, ◌||◌}
use Prim.Native.Nat.{ℕ}
use mathlib.Core.List.{List, [], ◌∷◌, ◌++◌}
use lib.Dec.{T, leb, eqb, leb→le, eqb→eq}
use borrow.Author.Tests.{eqb-true}
use Rattle.std.specs.Prelude.{Some, None}
use Rattle.field.specs.Bytes.{Bytes, AllBytes, pick}
use Rattle.field.specs.Row.{Row, end, loose, field, field_bytes, Next, nothing, no_field, next, next_of}
use Rattle.field.proofs.Reading.{FrontFits, SaneBy, all_parts}
use Rattle.page.specs.Tree.{choose}
use Rattle.page.specs.Check.{check_text}
use Rattle.refusal.specs.Refusal.{Fine, after, unless}
use Rattle.refusal.specs.declared.Refusal.TheVariants as R
use Rattle.refusal.proofs.Verdicts.{refused, after_fine, unless_fine}
use Rattle.page.proofs.Booleans.{and_both, or_either}
use Rattle.page.proofs.Tags.{ModuleItemTag, export_tag, declaration_tag, statement_tag, empty_item_tag, tag_or, module_item_tag}
use Rattle.page.proofs.Bodies.{leaf_row, node_row, text_ok, empty_is}
use Rattle.outs.specs.Held.{held}
use Rattle.outs.specs.PageOut.{statement, declaration, allowed, among_items, left, within, check_sum, check_import, check_leaf, good}
use Rattle.outs.specs.Tree.{Item, export_item, declaration_item, statement_item, empty_item, Import, PageOut, ItemOk, ItemsOk, ImportOk, ProperPageOut}
use Rattle.outs.specs.Encode.{item_row, items_row, is_statement, items_have_statement, before_statement, placed_row, import_bytes, import_row, page_out_row}
use Rattle.outs.specs.declared.Expect.TheVariants as E
use Rattle.outs.proofs.OutSound.{body, good_field, Sound, sound}

-- ---- the import

-- behind the 81 its sum
sum_sound : (f w r : Bytes) → check_text w ≡ Fine → field_bytes 0x81 w ++ r ≡ f → check_sum r ≡ Fine → (m : Import) × (import_bytes m ≡ f) × ImportOk (Some m)
unfolding check_sum ImportOk
sum_sound f w [] x p e = refused R.Misplaced e
sum_sound f w (c ∷ []) x p e =
    let k = and_both (leb 1 c) (leb c 15) (unless_fine (leb 1 c && leb c 15) R.Misplaced e) in
    (record { source = w; sum = c }, p, (text_ok w x, leb→le 1 c k.0, leb→le c 15 k.1))
sum_sound f w (c ∷ d ∷ r) x p e = refused R.Misplaced e

import_sound : (f : Bytes) → AllBytes f → check_import (next_of f) ≡ Fine → (m : Import) × (import_bytes m ≡ f) × ImportOk (Some m)
import_sound f a = on (next_of f) refl
  where
    in_field : (t : ℕ) (w r : Bytes) → field_bytes t w ++ r ≡ f → t ≡ 0x81 → check_text w ≡ Fine → check_sum r ≡ Fine → (m : Import) × (import_bytes m ≡ f) × ImportOk (Some m)
    in_field t w r p k x e = sum_sound f w r x (ap (λ (u : ℕ). field_bytes u w ++ r) (sym k) ∙ p) e

    on : (n : Next) → next_of f ≡ n → check_import n ≡ Fine → (m : Import) × (import_bytes m ≡ f) × ImportOk (Some m)
    on nothing q e = refused R.Misplaced (unfold check_import in e)
    on no_field q e = refused R.Truncated (unfold check_import in e)
    on (next t w r) q e =
        let p = after_fine (unless (eqb t 0x81) R.Misplaced) (λ _. after (check_text w) λ _. check_sum r) (unfold check_import in e) in
        let b = after_fine (check_text w) (λ _. check_sum r) p.1 in
        in_field t w r (all_parts f t w r q a).written (eqb→eq t 0x81 (unless_fine (eqb t 0x81) R.Misplaced p.0)) b.0 b.1

-- ---- items

module _ (width : ℕ) where
  -- the item of a field
  record ItemAt (t : ℕ) (f : Bytes) (i : Row) : Type 0 where
    item : Item
    row_is : (r : Row) → item_row item width r ≡ field t f i r
    proper : ItemOk item width
    states : is_statement item ≡ statement t

  item_sound : (t : ℕ) (f : Bytes) (i : Row) → ModuleItemTag t → FrontFits (held width t) f i → Sound width i → body width t f i ≡ Fine → ItemAt t f i
  unfolding held choose after within check_leaf item_row ItemOk is_statement
  item_sound t f i export_tag h s e = let n = s.pieces_are e in record { item = export_item n.0; row_is = λ r. ap (λ (x : Row). field 0x10 [] x r) n.1 ∙ node_row 0x10 f i r h; proper = n.2; states = refl }
  item_sound t f i declaration_tag h s e = let n = s.pieces_are e in record { item = declaration_item n.0; row_is = λ r. ap (λ (x : Row). field 0x11 [] x r) n.1 ∙ node_row 0x11 f i r h; proper = n.2; states = refl }
  item_sound t f i statement_tag h s e = let n = s.pieces_are e in record { item = statement_item n.0; row_is = λ r. ap (λ (x : Row). field 0x12 [] x r) n.1 ∙ node_row 0x12 f i r h; proper = n.2; states = refl }
  item_sound t f i empty_item_tag h s e = record { item = empty_item; row_is = λ r. ap (λ (x : Bytes). field 0x13 x end r) (empty_is f e) ∙ leaf_row 0x13 f i r h; proper = tt; states = refl }

  -- an 83 holds nothing
  place_sound : (f : Bytes) (i r : Row) → FrontFits (held width 0x83) f i → body width 0x83 f i ≡ Fine → field 0x83 [] end r ≡ field 0x83 f i r
  unfolding held choose check_leaf
  place_sound f i r h e = ap (λ (x : Bytes). field 0x83 x end r) (empty_is f e) ∙ leaf_row 0x83 f i r h

  -- between the items, where a statement must follow; the place before all items is not among these
  between_row : Bool → List Item → Row
  between_row false is = items_row is width
  between_row true is = before_statement is width

  abbrev Stated : Bool → List Item → Type 0
  Stated false is = Unit {0}
  Stated true is = items_have_statement is ≡ true

  between_placed : (b : Bool) (is : List Item) → Stated b is → placed_row b is width ≡ between_row b is
  unfolding placed_row between_row
  between_placed false is h = refl
  between_placed true is h = rw h

  record Items (x : Row) : Type 0 where
    rest_are : good width E.Rest x ≡ Fine → (is : List Item) × (items_row is width ≡ x) × ItemsOk is width
    no_statement_are : good width E.NoStatement x ≡ Fine → (is : List Item) × (items_row is width ≡ x) × ItemsOk is width × (items_have_statement is ≡ false)
    statement_is : good width E.Statement x ≡ Fine → (is : List Item) × (before_statement is width ≡ field 0x83 [] end x) × ItemsOk is width × (items_have_statement is ≡ true)
    declarations_are : good width E.Declarations x ≡ Fine → (b : Bool) × (is : List Item) × (between_row b is ≡ x) × ItemsOk is width × Stated b is
    placed_are : good width E.Placed x ≡ Fine → (is : List Item) × (placed_row true is width ≡ field 0x83 [] end x) × ItemsOk is width

  -- one more item in front
  items_more : (t : ℕ) (f : Bytes) (i r : Row) (n : ItemAt t f i) (is : List Item) → items_row is width ≡ r → items_row (n.item ∷ is) width ≡ field t f i r
  unfolding items_row
  items_more t f i r n is p = n.row_is (items_row is width) ∙ ap (λ (x : Row). field t f i x) p

  module _ (t : ℕ) (f : Bytes) (i r : Row) (fits : FrontFits (held width t) f i) (inner : Sound width i) (rest : Items r) where
    rest_at : good width E.Rest (field t f i r) ≡ Fine → (is : List Item) × (items_row is width ≡ field t f i r) × ItemsOk is width
    unfolding ItemsOk
    rest_at e =
        let p = good_field width E.Rest t f i r e in
        let n = item_sound t f i (module_item_tag t p.0) fits inner p.1 in
        let m = rest.rest_are p.2 in
        (n.item ∷ m.0, items_more t f i r n m.0 m.1, (n.proper, m.2))

    -- a declaration, and a statement
    no_statement : T (declaration t) → T (leb 0x10 t && leb t 0x13) × (statement t ≡ false)
    no_statement h =
        tag_or (λ (u : ℕ). T (leb 0x10 u && leb u 0x13) × (statement u ≡ false)) t 0x11 (tt, refl) λ a.
        tag_or (λ (u : ℕ). T (leb 0x10 u && leb u 0x13) × (statement u ≡ false)) t 0x13 (tt, refl) λ b. absurd (rw (a, b) at h)

    a_statement : T (statement t) → T (leb 0x10 t && leb t 0x13) × (statement t ≡ true)
    a_statement h =
        tag_or (λ (u : ℕ). T (leb 0x10 u && leb u 0x13) × (statement u ≡ true)) t 0x10 (tt, refl) λ a.
        tag_or (λ (u : ℕ). T (leb 0x10 u && leb u 0x13) × (statement u ≡ true)) t 0x12 (tt, refl) λ b. absurd (rw (a, b) at h)

    no_statement_at : good width E.NoStatement (field t f i r) ≡ Fine → (is : List Item) × (items_row is width ≡ field t f i r) × ItemsOk is width × (items_have_statement is ≡ false)
    unfolding ItemsOk items_have_statement
    no_statement_at e =
        let p = good_field width E.NoStatement t f i r e in
        let q = no_statement p.0 in
        let n = item_sound t f i (module_item_tag t q.0) fits inner p.1 in
        let m = rest.no_statement_are p.2 in
        (n.item ∷ m.0, items_more t f i r n m.0 m.1, (n.proper, m.2), ap₂ (λ (x y : Bool). x || y) (n.states ∙ q.1) m.3)

    -- the place stands before a statement in front
    place_first : (n : ItemAt t f i) → is_statement n.item ≡ true → (is : List Item) → items_row is width ≡ r → before_statement (n.item ∷ is) width ≡ field 0x83 [] end (field t f i r)
    unfolding before_statement
    place_first n s is p = rw s (ap (λ (x : Row). field 0x83 [] end x) (n.row_is (items_row is width) ∙ ap (λ (x : Row). field t f i x) p))

    place_later : (n : ItemAt t f i) → is_statement n.item ≡ false → (is : List Item) → before_statement is width ≡ r → before_statement (n.item ∷ is) width ≡ field t f i r
    unfolding before_statement
    place_later n s is p = rw s (n.row_is (before_statement is width) ∙ ap (λ (x : Row). field t f i x) p)

    statement_at : good width E.Statement (field t f i r) ≡ Fine → (is : List Item) × (before_statement is width ≡ field 0x83 [] end (field t f i r)) × ItemsOk is width × (items_have_statement is ≡ true)
    unfolding ItemsOk items_have_statement
    statement_at e =
        let p = good_field width E.Statement t f i r e in
        let q = a_statement p.0 in
        let n = item_sound t f i (module_item_tag t q.0) fits inner p.1 in
        let m = rest.rest_are p.2 in
        let s : is_statement n.item ≡ true = n.states ∙ q.1 in
        (n.item ∷ m.0, place_first n s m.0 m.1, (n.proper, m.2), ap (λ (x : Bool). x || items_have_statement m.0) s)

    -- before the place, or without one: behind a statement anything, else the same again
    among_declarations : T (leb 0x10 t && leb t 0x13) → body width t f i ≡ Fine → good width (among_items E.Declarations t) r ≡ Fine → (b : Bool) × (is : List Item) × (between_row b is ≡ field t f i r) × ItemsOk is width × Stated b is
    unfolding ItemsOk items_have_statement between_row
    among_declarations h e g = on (statement t) n.states g
      where
        n : ItemAt t f i
        n = item_sound t f i (module_item_tag t h) fits inner e

        more : is_statement n.item ≡ false → (b : Bool) (is : List Item) → between_row b is ≡ r → ItemsOk is width → Stated b is → (b : Bool) × (is : List Item) × (between_row b is ≡ field t f i r) × ItemsOk is width × Stated b is
        more s false is p k z = (false, n.item ∷ is, unfold between_row in items_more t f i r n is (unfold between_row in p), unfold ItemsOk in (n.proper, k), tt)
        more s true is p k z = (true, n.item ∷ is, unfold between_row in place_later n s is (unfold between_row in p), unfold ItemsOk in (n.proper, k), unfold items_have_statement in ap₂ (λ (x y : Bool). x || y) s z)

        on : (c : Bool) → is_statement n.item ≡ c → good width (pick c E.Rest E.Declarations) r ≡ Fine → (b : Bool) × (is : List Item) × (between_row b is ≡ field t f i r) × ItemsOk is width × Stated b is
        on true s g = let m = rest.rest_are g in (false, n.item ∷ m.0, unfold between_row in items_more t f i r n m.0 m.1, unfold ItemsOk in (n.proper, m.2), tt)
        on false s g = let m = rest.declarations_are g in more s m.0 m.1 m.2 m.3 m.4

    placed_first : (n : ItemAt t f i) → is_statement n.item ≡ true → (is : List Item) → items_row is width ≡ r → placed_row true (n.item ∷ is) width ≡ field 0x83 [] end (field t f i r)
    unfolding placed_row items_have_statement
    placed_first n s is p =
        let k : (is_statement n.item || items_have_statement is) ≡ true = ap (λ (x : Bool). x || items_have_statement is) s in
        rw k (place_first n s is p)

    placed_before_all : (n : ItemAt t f i) → is_statement n.item ≡ false → (is : List Item) → items_row is width ≡ r → items_have_statement is ≡ false → placed_row true (n.item ∷ is) width ≡ field 0x83 [] end (field t f i r)
    unfolding placed_row items_have_statement
    placed_before_all n s is p q =
        let k : (is_statement n.item || items_have_statement is) ≡ false = ap₂ (λ (x y : Bool). x || y) s q in
        rw k (ap (λ (x : Row). field 0x83 [] end x) (items_more t f i r n is p))

    proper_more : (n : ItemAt t f i) (is : List Item) → ItemsOk is width → ItemsOk (n.item ∷ is) width
    unfolding ItemsOk
    proper_more n is h = (n.proper, h)

    placed_at : good width E.Placed (field t f i r) ≡ Fine → (is : List Item) × (placed_row true is width ≡ field 0x83 [] end (field t f i r)) × ItemsOk is width
    placed_at e = on (statement t) n.states p.2
      where
        p : T (allowed E.Placed t) × (body width t f i ≡ Fine) × (good width (left E.Placed t) r ≡ Fine)
        p = good_field width E.Placed t f i r e

        n : ItemAt t f i
        n = item_sound t f i (module_item_tag t p.0) fits inner p.1

        on : (c : Bool) → is_statement n.item ≡ c → good width (pick c E.Rest E.NoStatement) r ≡ Fine → (is : List Item) × (placed_row true is width ≡ field 0x83 [] end (field t f i r)) × ItemsOk is width
        on true s g = let m = rest.rest_are g in (n.item ∷ m.0, placed_first n s m.0 m.1, proper_more n m.0 m.2)
        on false s g = let m = rest.no_statement_are g in (n.item ∷ m.0, placed_before_all n s m.0 m.1 m.3, proper_more n m.0 m.2)

    -- an 83, or an item
    place_or : {C : Type 0} → T (eqb t 0x83 || (leb 0x10 t && leb t 0x13)) → (t ≡ 0x83 → C) → (eqb t 0x83 ≡ false → T (leb 0x10 t && leb t 0x13) → C) → C
    place_or {C} h x y = on (eqb t 0x83) refl h
      where
        on : (b : Bool) → eqb t 0x83 ≡ b → T (b || (leb 0x10 t && leb t 0x13)) → C
        on true e k = x (eqb-true t 0x83 e)
        on false e k = y e k

    place_at : t ≡ 0x83 → body width t f i ≡ Fine → field 0x83 [] end r ≡ field t f i r
    place_at k e = subst (λ (u : ℕ). FrontFits (held width u) f i → body width u f i ≡ Fine → field 0x83 [] end r ≡ field u f i r) (sym k) (place_sound f i r) fits e

    declarations_at : good width E.Declarations (field t f i r) ≡ Fine → (b : Bool) × (is : List Item) × (between_row b is ≡ field t f i r) × ItemsOk is width × Stated b is
    unfolding between_row
    declarations_at e =
        let p = good_field width E.Declarations t f i r e in
        place_or p.0
        (λ k.
        let q : good width E.Statement r ≡ Fine = subst (λ (u : ℕ). good width (left E.Declarations u) r ≡ Fine) k p.2 in
        let m = rest.statement_is q in
        (true, m.0, m.1 ∙ place_at k p.1, m.2, m.3))
        (λ k h. among_declarations h p.1 (rw k at p.2))

    -- behind the import
    items_at : good width E.Items (field t f i r) ≡ Fine → (b : Bool) × (is : List Item) × (placed_row b is width ≡ field t f i r) × ItemsOk is width
    items_at e =
        let p = good_field width E.Items t f i r e in
        place_or p.0
        (λ k.
        let q : good width E.Placed r ≡ Fine = subst (λ (u : ℕ). good width (left E.Items u) r ≡ Fine) k p.2 in
        let m = rest.placed_are q in
        (true, m.0, m.1 ∙ place_at k p.1, m.2))
        (λ k h. let m = among_declarations h p.1 (rw k at p.2) in (m.0, m.1, between_placed m.0 m.1 m.4 ∙ m.2, m.3))

  items : (x : Row) → SaneBy (held width) x → Items x
  unfolding good items_row ItemsOk items_have_statement between_row placed_row
  items end s =
      record {
        rest_are = λ e. ([], refl, tt);
        no_statement_are = λ e. ([], refl, tt, refl);
        statement_is = λ e. refused R.Misplaced e;
        declarations_are = λ e. (false, [], refl, tt, tt);
        placed_are = λ e. ([], refl, tt);
      }
  items (loose b) s =
      record {
        rest_are = λ e. refused R.Truncated e;
        no_statement_are = λ e. refused R.Truncated e;
        statement_is = λ e. refused R.Truncated e;
        declarations_are = λ e. refused R.Truncated e;
        placed_are = λ e. refused R.Truncated e;
      }
  items (field t f i r) s =
      let inner = sound width i s.2 in
      let rest = items r s.3 in
      record {
        rest_are = rest_at t f i r s.0 inner rest;
        no_statement_are = no_statement_at t f i r s.0 inner rest;
        statement_is = statement_at t f i r s.0 inner rest;
        declarations_are = declarations_at t f i r s.0 inner rest;
        placed_are = placed_at t f i r s.0 inner rest;
      }

  -- ---- the page out

  items_sound : (x : Row) → SaneBy (held width) x → good width E.Items x ≡ Fine → (b : Bool) × (is : List Item) × (placed_row b is width ≡ x) × ItemsOk is width
  items_sound end s e = unfold placed_row items_row ItemsOk in (false, [], refl, tt)
  items_sound (loose b) s e = refused R.Truncated (unfold good in e)
  items_sound (field t f i r) s e = items_at t f i r s.0 (sound width i s.2) (items r s.3) e

  -- what is no import stands as behind one
  pub no_import : (t : ℕ) (f : Bytes) (i r : Row) → eqb t 0x82 ≡ false → good width E.Whole (field t f i r) ≡ good width E.Items (field t f i r)
  unfolding good
  no_import t f i r k = rw k

  import_at : (f : Bytes) (i r : Row) → FrontFits (held width 0x82) f i → AllBytes f → body width 0x82 f i ≡ Fine → (m : Import) × (import_row (Some m) r ≡ field 0x82 f i r) × ImportOk (Some m)
  unfolding held choose check_leaf import_row
  import_at f i r h a e =
      let m = import_sound f a e in
      (m.0, ap (λ (x : Bytes). field 0x82 x end r) m.1 ∙ leaf_row 0x82 f i r h, m.2)

  abbrev OutOf : Row → Type 0
  OutOf x = (p : PageOut) × (page_out_row width p ≡ x) × ProperPageOut width p

  empty_out : OutOf end
  unfolding page_out_row ProperPageOut import_row placed_row items_row ImportOk ItemsOk
  empty_out = (record { helpers = None; places_templates = false; items = [] }, refl, (tt, tt))

  with_import : (m : Import) (b : Bool) (is : List Item) (x r : Row) → ImportOk (Some m) → ItemsOk is width → placed_row b is width ≡ r → import_row (Some m) r ≡ x → OutOf x
  unfolding page_out_row ProperPageOut
  with_import m b is x r h k p q = (record { helpers = Some m; places_templates = b; items = is }, ap (import_row (Some m)) p ∙ q, (h, k))

  without_import : (b : Bool) (is : List Item) (x : Row) → ItemsOk is width → placed_row b is width ≡ x → OutOf x
  unfolding page_out_row ProperPageOut import_row ImportOk
  without_import b is x k p = (record { helpers = None; places_templates = b; items = is }, p, (tt, k))

  pub page_out_sound : (x : Row) → SaneBy (held width) x → good width E.Whole x ≡ Fine → (p : PageOut) × (page_out_row width p ≡ x) × ProperPageOut width p
  page_out_sound end s e = empty_out
  page_out_sound (loose b) s e = refused R.Truncated (unfold good in e)
  page_out_sound (field t f i r) s e = on (eqb t 0x82) refl
    where
      on : (b : Bool) → eqb t 0x82 ≡ b → OutOf (field t f i r)
      on true k =
          let z : t ≡ 0x82 = eqb-true t 0x82 k in
          let p = good_field width E.Whole t f i r e in
          let q : good width E.Items r ≡ Fine = subst (λ (u : ℕ). good width (left E.Whole u) r ≡ Fine) z p.2 in
          let m = items_sound r s.3 q in
          let n = import_at f i r (subst (λ (u : ℕ). FrontFits (held width u) f i) z s.0) s.1 (subst (λ (u : ℕ). body width u f i ≡ Fine) z p.1) in
          with_import n.0 m.0 m.1 (field t f i r) r n.2 m.3 m.2 (n.1 ∙ ap (λ (u : ℕ). field u f i r) (sym z))
      on false k = let m = items_sound (field t f i r) s (sym (no_import t f i r k) ∙ e) in without_import m.0 m.1 (field t f i r) m.3 m.2
