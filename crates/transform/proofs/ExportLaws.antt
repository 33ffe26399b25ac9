-- What the code of the export learns at each return and at each turn of a loop: scratch, the options, and the items of a page.
-- Main statements: `cleared`, `listed_*`, `source_*`, `sums_*`, `items_*`, `html_none`, `html_front`, `piece_none`, `piece_front`. Assumes nothing.
use mathlib.Core.Path.{◌≡◌, refl, sym, ap, ◌∙◌}
use mathlib.Core.Bool.{Bool, true, false, ◌||◌, ◌&&◌, not}
use Prim.Native.Nat.{ℕ, ◌≤◌}
use native.Mathlib.Omega.{arith}
use mathlib.Core.List.{[], ◌∷◌}
use lib.Dec.{eqb, leb}
use borrow.Author.Tests.{leb-true, eq-eqb, ne_eqb}
use denote.Enum.Bare.{sameb}
use Rattle.field.specs.Bytes.{Bytes, ascii, pick}
use Rattle.field.specs.Row.{Row, end, loose, field, read, Ended, fields_after, inside}
use Rattle.field.specs.Front.{tag_of_front, body_of, behind_of}
use Rattle.field.specs.Fields.{IsFront}
use Rattle.field.specs.declared.reader.Field.{Field}
use Rattle.field.proofs.RowLaws.{read_nil}
use Rattle.field.proofs.FrontLaws.{read_nest, leaf_at, nest_at}
use Rattle.page.specs.Page as P
use Rattle.page.specs.Tree.{choose, texts_in, element_in, attributes_in, children_in, pieces_in, module_item_by, module_items_in, listed_in, source_in, works_sums}
use Rattle.refusal.specs.declared.Refusal.{Refusal}
use Rattle.refusal.specs.declared.Refusal.TheVariants as R
use Rattle.refusal.specs.contracts.Refusal.{the_type}
use Rattle.spec.specs.Transform as T
use Rattle.spec.specs.Answer.{refused, zeros, scratch_left}
use Rattle.decisions.specs.At.{opts, element_name, behind_name, element_at, serializable}
use Rattle.decisions.proofs.Series.{ended, any_field, pieces_none, pieces_30, pieces_31, pieces_20, pieces_other, fragment_is, tested}
use Rattle.decisions.proofs.Laws.{element_serializable}
use Rattle.transform.specs.Run.{has_html, piece_html, tag_html}

-- ---- what is left of scratch

-- by whether it is 1
pub cleared : (b : Bytes) (r : Refusal) (x : Bool) → x ≡ not (sameb the_type r R.ScratchTooSmall) → pick x (zeros b) b ≡ scratch_left (refused r) b
unfolding scratch_left
cleared b R.ScratchTooSmall x h = rw h
cleared b r x h = rw h

-- ---- options

module _ (s : Bytes) where
  -- the names of an empty list
  pub listed_none : (u : ℕ) → Ended (read s) → texts_in 0x20 (read []) ≡ listed_in u (read s)
  unfolding texts_in listed_in
  listed_none u i = ap (texts_in 0x20) read_nil ∙ sym (ended (λ (r : Row). listed_in u r ≡ []) refl (λ b. refl) (read s) i)

  pub source_none : Ended (read s) → ascii "react" ≡ source_in (read s)
  unfolding source_in
  source_none i = sym (ended (λ (r : Row). source_in r ≡ ascii "react") refl (λ b. refl) (read s) i)

  pub sums_none : Ended (read s) → false ≡ works_sums (read s)
  unfolding works_sums
  sums_none i = sym (ended (λ (r : Row). works_sums r ≡ false) refl (λ b. refl) (read s) i)

module _ (s : Bytes) (t : ℕ) (e : t ≡ tag_of_front s) where
  pub listed_here : (u : ℕ) → (t ≡ 256 → ⊥) → t ≡ u → inside u ≡ fields_after 0 → {b : Bytes} → b ≡ body_of s → texts_in 0x20 (read b) ≡ listed_in u (read s)
  unfolding listed_in choose
  listed_here u h k q {b} v =
      ap (λ (x : Bytes). texts_in 0x20 (read x)) v
      ∙ sym (ap (listed_in u) (read_nest s t e h (ap inside k ∙ q)) ∙ rw (eq-eqb t u k))

  pub listed_past : (u : ℕ) → (t ≡ 256 → ⊥) → (t ≡ u → ⊥) → {r : Bytes} → r ≡ behind_of s → listed_in u (read r) ≡ listed_in u (read s)
  unfolding listed_in choose
  listed_past u h n {r} v =
      ap (λ (x : Bytes). listed_in u (read x)) v
      ∙ sym (any_field (λ (x : Row). listed_in u x ≡ listed_in u (read (behind_of s))) s t e h λ f i. rw (ne_eqb t u n))

  pub source_here : t ≡ 0x04 → {b : Bytes} → b ≡ body_of s → b ≡ source_in (read s)
  unfolding source_in choose inside
  source_here k v = v ∙ sym (ap source_in (leaf_at s t e 0x04 k tt refl))

  pub source_past : (t ≡ 256 → ⊥) → (t ≡ 0x04 → ⊥) → {r : Bytes} → r ≡ behind_of s → source_in (read r) ≡ source_in (read s)
  unfolding source_in choose
  source_past h n {r} v =
      ap (λ (x : Bytes). source_in (read x)) v
      ∙ sym (any_field (λ (x : Row). source_in x ≡ source_in (read (behind_of s))) s t e h λ f i. rw (ne_eqb t 0x04 n))

  pub sums_here : t ≡ 0x05 → true ≡ works_sums (read s)
  unfolding works_sums inside
  sums_here k = sym (ap works_sums (leaf_at s t e 0x05 k tt refl))

  pub sums_past : (t ≡ 256 → ⊥) → (t ≡ 0x05 → ⊥) → {r : Bytes} → r ≡ behind_of s → works_sums (read r) ≡ works_sums (read s)
  unfolding works_sums
  sums_past h n {r} v =
      ap (λ (x : Bytes). works_sums (read x)) v
      ∙ sym (any_field (λ (x : Row). works_sums x ≡ works_sums (read (behind_of s))) s t e h λ f i. rw (ne_eqb t 0x05 n))

-- ---- items of a page, by the tag in front

pub items_none : (s : Bytes) → Ended (read s) → module_items_in (read s) ≡ []
unfolding module_items_in
items_none s i = ended (λ (r : Row). module_items_in r ≡ []) refl (λ b. refl) (read s) i

module _ (s : Bytes) (t : ℕ) (e : t ≡ tag_of_front s) where
  pub items_10 : t ≡ 0x10 → module_items_in (read s) ≡ P.export_item (pieces_in (read (body_of s))) ∷ module_items_in (read (behind_of s))
  unfolding module_items_in module_item_by choose inside
  items_10 k = ap module_items_in (nest_at s t e 0x10 k tt refl)

  pub items_11 : t ≡ 0x11 → module_items_in (read s) ≡ P.declaration_item (pieces_in (read (body_of s))) ∷ module_items_in (read (behind_of s))
  unfolding module_items_in module_item_by choose inside
  items_11 k = ap module_items_in (nest_at s t e 0x11 k tt refl)

  pub items_12 : t ≡ 0x12 → module_items_in (read s) ≡ P.statement_item (pieces_in (read (body_of s))) ∷ module_items_in (read (behind_of s))
  unfolding module_items_in module_item_by choose inside
  items_12 k = ap module_items_in (nest_at s t e 0x12 k tt refl)

  -- a 13, and all that is no item
  pub items_other : (t ≡ 256 → ⊥) → (t ≡ 0x10 → ⊥) → (t ≡ 0x11 → ⊥) → (t ≡ 0x12 → ⊥) → module_items_in (read s) ≡ P.empty_item ∷ module_items_in (read (behind_of s))
  unfolding module_items_in module_item_by choose
  items_other h a b c =
      any_field (λ (r : Row). module_items_in r ≡ P.empty_item ∷ module_items_in (read (behind_of s))) s t e h λ f i.
      rw (ne_eqb t 0x10 a, ne_eqb t 0x11 b, ne_eqb t 0x12 c)

-- ---- whether an element that becomes a template stands among the pieces, and among those of the items

no_pieces : (t : ℕ) → (t ≡ 0x10 → ⊥) → (t ≡ 0x11 → ⊥) → (t ≡ 0x12 → ⊥) → (leb 0x10 t && leb t 0x12) ≡ false
no_pieces t a b c = on (leb 0x10 t) (leb t 0x12) refl refl
  where
    on : (x y : Bool) → leb 0x10 t ≡ x → leb t 0x12 ≡ y → (x && y) ≡ false
    on false y p q = refl
    on true false p q = refl
    on true true p q =
        let l : 0x10 ≤ t = leb-true 0x10 t p in
        let h : t ≤ 0x12 = leb-true t 0x12 q in
        absurd (tested t 0x10 a λ d. tested t 0x11 b λ e. c (omega (arith, l, h, d, e)))

module _ (k : Bytes) where
  element_html : (r : Row) → tag_html (opts k []) (element_in r) ≡ (T.element_of (opts k []) (element_name r) (T.attributes (opts k []) (attributes_in (behind_name r))) (T.children (opts k []) (children_in (behind_name r)))).serializable
  unfolding tag_html element_in element_name behind_name attributes_in children_in
  element_html end = refl
  element_html (loose b) = refl
  element_html (field t f i r) = refl

  tag_html_at : (b : Bytes) → tag_html (opts k []) (element_in (read b)) ≡ serializable k b
  unfolding element_at
  tag_html_at b = element_html (read b) ∙ element_serializable k [] b

  pub piece_none : (s : Bytes) → Ended (read s) → false ≡ piece_html (opts k []) (pieces_in (read s))
  unfolding piece_html
  piece_none s i = sym (ap (piece_html (opts k [])) (pieces_none (read s) i))

  pub html_none : (s : Bytes) → Ended (read s) → false ≡ has_html (opts k []) (module_items_in (read s))
  unfolding has_html
  html_none s i = sym (ap (has_html (opts k [])) (items_none s i))

  piece_past : (s : Bytes) (t : ℕ) → t ≡ tag_of_front s → (t ≡ 256 → ⊥) → (t ≡ 0x30 → ⊥) → piece_html (opts k []) (pieces_in (read s)) ≡ piece_html (opts k []) (pieces_in (read (behind_of s)))
  unfolding piece_html tag_html
  piece_past s t e h n =
      tested t 0x20 (λ z. ap (piece_html (opts k [])) (pieces_20 s t e z)) λ a.
      tested t 0x31
      (λ z. ap (piece_html (opts k [])) (pieces_31 s t e z) ∙ ap (λ (x : P.Tag). tag_html (opts k []) x || piece_html (opts k []) (pieces_in (read (behind_of s)))) (fragment_is (read (body_of s))))
      λ c. ap (piece_html (opts k [])) (pieces_other s t e h a n c)

  pub piece_front : (s : Bytes) (f : Field) (r : Bytes) → IsFront s f.tag f.body.now r →
      piece_html (opts k []) (pieces_in (read s)) ≡ ((eqb f.tag 0x30 && serializable k f.body.now) || piece_html (opts k []) (pieces_in (read r)))
  unfolding piece_html
  piece_front s f r i =
      tested f.tag 0x30
      (λ z.
      ap (piece_html (opts k [])) (pieces_30 s f.tag i.tag_is z)
      ∙ ap (λ (x : Bool). x || piece_html (opts k []) (pieces_in (read (behind_of s)))) (tag_html_at (body_of s))
      ∙ rw (sym i.body_is, sym i.behind_is, eq-eqb f.tag 0x30 z))
      λ z. piece_past s f.tag i.tag_is (λ y. omega (arith, i.tag_below, y)) z ∙ rw (sym i.behind_is, ne_eqb f.tag 0x30 z)

  pub html_front : (s : Bytes) (f : Field) (r : Bytes) → IsFront s f.tag f.body.now r →
      has_html (opts k []) (module_items_in (read s)) ≡ (((leb 0x10 f.tag && leb f.tag 0x12) && piece_html (opts k []) (pieces_in (read f.body.now))) || has_html (opts k []) (module_items_in (read r)))
  unfolding has_html
  html_front s f r i =
      tested f.tag 0x10 (λ z. ap (has_html (opts k [])) (items_10 s f.tag i.tag_is z) ∙ rw (sym i.body_is, sym i.behind_is, z)) λ a.
      tested f.tag 0x11 (λ z. ap (has_html (opts k [])) (items_11 s f.tag i.tag_is z) ∙ rw (sym i.body_is, sym i.behind_is, z)) λ b.
      tested f.tag 0x12 (λ z. ap (has_html (opts k [])) (items_12 s f.tag i.tag_is z) ∙ rw (sym i.body_is, sym i.behind_is, z)) λ c.
      ap (has_html (opts k [])) (items_other s f.tag i.tag_is (λ y. omega (arith, i.tag_below, y)) a b c) ∙ rw (sym i.behind_is, no_pieces f.tag a b c)
