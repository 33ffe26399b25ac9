-- Every proper page out is taken, and is read back from its row as it was written.
-- Main statements: `page_out_whole`, `page_out_back`. Assumes nothing.
use mathlib.Core.Path.{◌≡◌, refl, sym, ap, ap₂, ◌∙◌}
use mathlib.Core.Bool.{Bool, true, false, ◌&&◌, ◌||◌}
use Prim.Native.Nat.{ℕ, ◌≤◌}
use native.Mathlib.Omega.{arith}
use mathlib.Core.List.{List, [], ◌∷◌}
use lib.Dec.{T, leb, eqb, le→leb}
use lib.ListN.{length, length-append}
use Rattle.std.specs.Prelude.{Option, Some, None}
use Rattle.field.specs.Bytes.{Bytes, pick}
use Rattle.field.specs.Number.{big_endian}
use Rattle.field.specs.Row.{Row, end, loose, field, field_bytes, bytes, Next, nothing, no_field, next, next_of}
use Rattle.field.proofs.Reading.{next_written}
use Rattle.page.specs.Tree.{choose}
use Rattle.page.specs.Check.{check_empty}
use Rattle.refusal.specs.Refusal.{Fine, after}
use Rattle.refusal.specs.declared.Refusal.TheVariants as R
use Rattle.refusal.proofs.Verdicts.{fine_after, fine_unless}
use Rattle.page.proofs.Booleans.{both_and}
use Rattle.page.proofs.TightRows.{short_parts}
use Rattle.page.proofs.Bodies.{fine_text}
use Rattle.outs.specs.PageOut.{allowed, left, within, check_sum, check_import, check_leaf, good}
use Rattle.outs.specs.Tree.{Pieces, Item, export_item, declaration_item, statement_item, empty_item, Import, PageOut, PiecesOk, ItemOk, ItemsOk, ImportOk, ProperPageOut}
use Rattle.outs.specs.Encode.{Sayable, pieces_row, item_row, items_row, is_statement, items_have_statement, before_statement, placed_row, import_bytes, import_row, page_out_row}
use Rattle.outs.specs.declared.Expect.{Expect}
use Rattle.outs.specs.declared.Expect.TheVariants as E
use Rattle.outs.proofs.OutSound.{body}
use Rattle.outs.proofs.OutItems.{no_import}
use Rattle.outs.proofs.OutReading.{pieces_in}
use Rattle.outs.proofs.OutComplete.{field_good, pieces_whole}

-- ---- the tree of a row, whatever its fields

unfoldable item_by : ℕ → Row → Item
item_by t i =
    choose (eqb t 0x10) (λ _. export_item (pieces_in i)) λ _.
    choose (eqb t 0x11) (λ _. declaration_item (pieces_in i)) λ _.
    choose (eqb t 0x12) (λ _. statement_item (pieces_in i)) λ _. empty_item

-- the imports and the places are passed over
unfoldable items_in : Row → List Item
items_in end = []
items_in (loose b) = []
items_in (field t f i r) = choose (leb 0x10 t && leb t 0x13) (λ _. item_by t i ∷ items_in r) λ _. items_in r

unfoldable places_in : Row → Bool
places_in end = false
places_in (loose b) = false
places_in (field t f i r) = eqb t 0x83 || places_in r

unfoldable sum_of_bytes : Bytes → ℕ
sum_of_bytes [] = 0
sum_of_bytes (c ∷ r) = c

unfoldable import_by : Next → Import
import_by nothing = record { source = []; sum = 0 }
import_by no_field = record { source = []; sum = 0 }
import_by (next t w r) = record { source = w; sum = sum_of_bytes r }

unfoldable import_in : Row → Option Import
import_in end = None
import_in (loose b) = None
import_in (field t f i r) = choose (eqb t 0x82) (λ _. Some (import_by (next_of f))) λ _. None

pub page_out_in : Row → PageOut
page_out_in x = record { helpers = import_in x; places_templates = places_in x; items = items_in x }

-- ---- the import

module _ (m : Import) (l : length (import_bytes m) ≤ 65535) where
  source_short : length m.source ≤ 65535
  unfolding field_bytes big_endian
  source_short = omega (arith, l, length-append (field_bytes 0x81 m.source) (m.sum ∷ []))

  import_next : next_of (import_bytes m) ≡ next 0x81 m.source (m.sum ∷ [])
  import_next = next_written 0x81 m.source (m.sum ∷ []) source_short

  import_fine : ImportOk (Some m) → check_import (next_of (import_bytes m)) ≡ Fine
  unfolding ImportOk check_import check_sum
  import_fine h =
      ap check_import import_next
      ∙ fine_after _ _ refl (fine_after _ _ (fine_text m.source h.0) (fine_unless (leb 1 m.sum && leb m.sum 15) R.Misplaced (both_and (leb 1 m.sum) (leb m.sum 15) (le→leb 1 m.sum h.1) (le→leb m.sum 15 h.2))))

  import_back : (r : Row) → import_in (import_row (Some m) r) ≡ Some m
  unfolding import_row import_in choose import_by sum_of_bytes
  import_back r = ap (λ (n : Next). Some (import_by n)) import_next

-- ---- items

module _ (width : ℕ) where
  -- an item where its tag may stand
  export_good : (c : Expect) (ps : Pieces) (r : Row) → T (allowed c 0x10) → PiecesOk ps width → good width (left c 0x10) r ≡ Fine → good width c (field 0x10 [] (pieces_row ps width) r) ≡ Fine
  export_good c ps r a h e = field_good width c 0x10 [] (pieces_row ps width) r a (unfold choose after within in (pieces_whole width ps h).0) e

  declaration_good : (c : Expect) (ps : Pieces) (r : Row) → T (allowed c 0x11) → PiecesOk ps width → good width (left c 0x11) r ≡ Fine → good width c (field 0x11 [] (pieces_row ps width) r) ≡ Fine
  declaration_good c ps r a h e = field_good width c 0x11 [] (pieces_row ps width) r a (unfold choose after within in (pieces_whole width ps h).0) e

  statement_good : (c : Expect) (ps : Pieces) (r : Row) → T (allowed c 0x12) → PiecesOk ps width → good width (left c 0x12) r ≡ Fine → good width c (field 0x12 [] (pieces_row ps width) r) ≡ Fine
  statement_good c ps r a h e = field_good width c 0x12 [] (pieces_row ps width) r a (unfold choose after within in (pieces_whole width ps h).0) e

  -- a field without a body
  empty_good : (c : Expect) (t : ℕ) (r : Row) → body width t [] end ≡ Fine → T (allowed c t) → good width (left c t) r ≡ Fine → good width c (field t [] end r) ≡ Fine
  empty_good c t r b a e = field_good width c t [] end r a b e

  empty_item_fine : body width 0x13 [] end ≡ Fine
  unfolding choose check_leaf check_empty
  empty_item_fine = refl

  place_fine : body width 0x83 [] end ≡ Fine
  unfolding choose check_leaf check_empty
  place_fine = refl

  rest_whole : (is : List Item) → ItemsOk is width → good width E.Rest (items_row is width) ≡ Fine
  unfolding items_row item_row ItemsOk ItemOk
  rest_whole [] h = unfold good in refl
  rest_whole (export_item ps ∷ is) h = export_good E.Rest ps (items_row is width) tt h.0 (rest_whole is h.1)
  rest_whole (declaration_item ps ∷ is) h = declaration_good E.Rest ps (items_row is width) tt h.0 (rest_whole is h.1)
  rest_whole (statement_item ps ∷ is) h = statement_good E.Rest ps (items_row is width) tt h.0 (rest_whole is h.1)
  rest_whole (empty_item ∷ is) h = empty_good E.Rest 0x13 (items_row is width) empty_item_fine tt (rest_whole is h.1)

  no_truth : {C : Type 0} → true ≡ false → C
  no_truth e = absurd (let z : ◌≡◌ {A = ℕ} 0 1 = cc in omega arith)

  no_statement_whole : (is : List Item) → ItemsOk is width → items_have_statement is ≡ false → good width E.NoStatement (items_row is width) ≡ Fine
  unfolding items_row item_row ItemsOk ItemOk items_have_statement is_statement
  no_statement_whole [] h s = unfold good in refl
  no_statement_whole (export_item ps ∷ is) h s = no_truth s
  no_statement_whole (declaration_item ps ∷ is) h s = declaration_good E.NoStatement ps (items_row is width) tt h.0 (no_statement_whole is h.1 s)
  no_statement_whole (statement_item ps ∷ is) h s = no_truth s
  no_statement_whole (empty_item ∷ is) h s = empty_good E.NoStatement 0x13 (items_row is width) empty_item_fine tt (no_statement_whole is h.1 s)

  declarations_whole : (is : List Item) → ItemsOk is width → good width E.Declarations (items_row is width) ≡ Fine
  unfolding items_row item_row ItemsOk ItemOk
  declarations_whole [] h = unfold good in refl
  declarations_whole (export_item ps ∷ is) h = export_good E.Declarations ps (items_row is width) tt h.0 (rest_whole is h.1)
  declarations_whole (declaration_item ps ∷ is) h = declaration_good E.Declarations ps (items_row is width) tt h.0 (declarations_whole is h.1)
  declarations_whole (statement_item ps ∷ is) h = statement_good E.Declarations ps (items_row is width) tt h.0 (rest_whole is h.1)
  declarations_whole (empty_item ∷ is) h = empty_good E.Declarations 0x13 (items_row is width) empty_item_fine tt (declarations_whole is h.1)

  before_whole : (is : List Item) → ItemsOk is width → items_have_statement is ≡ true → good width E.Declarations (before_statement is width) ≡ Fine
  unfolding before_statement item_row ItemsOk ItemOk items_have_statement is_statement
  before_whole [] h s = no_truth (sym s)
  before_whole (export_item ps ∷ is) h s = empty_good E.Declarations 0x83 (field 0x10 [] (pieces_row ps width) (items_row is width)) place_fine tt (export_good E.Statement ps (items_row is width) tt h.0 (rest_whole is h.1))
  before_whole (declaration_item ps ∷ is) h s = declaration_good E.Declarations ps (before_statement is width) tt h.0 (before_whole is h.1 s)
  before_whole (statement_item ps ∷ is) h s = empty_good E.Declarations 0x83 (field 0x12 [] (pieces_row ps width) (items_row is width)) place_fine tt (statement_good E.Statement ps (items_row is width) tt h.0 (rest_whole is h.1))
  before_whole (empty_item ∷ is) h s = empty_good E.Declarations 0x13 (before_statement is width) empty_item_fine tt (before_whole is h.1 s)

  -- behind the import: without a place
  unplaced_whole : (is : List Item) → ItemsOk is width → good width E.Items (items_row is width) ≡ Fine
  unfolding items_row item_row ItemsOk ItemOk
  unplaced_whole [] h = unfold good in refl
  unplaced_whole (export_item ps ∷ is) h = export_good E.Items ps (items_row is width) tt h.0 (rest_whole is h.1)
  unplaced_whole (declaration_item ps ∷ is) h = declaration_good E.Items ps (items_row is width) tt h.0 (declarations_whole is h.1)
  unplaced_whole (statement_item ps ∷ is) h = statement_good E.Items ps (items_row is width) tt h.0 (rest_whole is h.1)
  unplaced_whole (empty_item ∷ is) h = empty_good E.Items 0x13 (items_row is width) empty_item_fine tt (declarations_whole is h.1)

  -- before the first statement
  stated_whole : (is : List Item) → ItemsOk is width → items_have_statement is ≡ true → good width E.Items (before_statement is width) ≡ Fine
  unfolding before_statement item_row ItemsOk ItemOk items_have_statement is_statement
  stated_whole [] h s = no_truth (sym s)
  stated_whole (export_item ps ∷ is) h s = empty_good E.Items 0x83 (field 0x10 [] (pieces_row ps width) (items_row is width)) place_fine tt (export_good E.Placed ps (items_row is width) tt h.0 (rest_whole is h.1))
  stated_whole (declaration_item ps ∷ is) h s = declaration_good E.Items ps (before_statement is width) tt h.0 (before_whole is h.1 s)
  stated_whole (statement_item ps ∷ is) h s = empty_good E.Items 0x83 (field 0x12 [] (pieces_row ps width) (items_row is width)) place_fine tt (statement_good E.Placed ps (items_row is width) tt h.0 (rest_whole is h.1))
  stated_whole (empty_item ∷ is) h s = empty_good E.Items 0x13 (before_statement is width) empty_item_fine tt (before_whole is h.1 s)

  -- before all items, none of which is a statement
  unstated_whole : (is : List Item) → ItemsOk is width → items_have_statement is ≡ false → good width E.Placed (items_row is width) ≡ Fine
  unfolding items_row item_row ItemsOk ItemOk items_have_statement is_statement
  unstated_whole [] h s = unfold good in refl
  unstated_whole (export_item ps ∷ is) h s = no_truth s
  unstated_whole (declaration_item ps ∷ is) h s = declaration_good E.Placed ps (items_row is width) tt h.0 (no_statement_whole is h.1 s)
  unstated_whole (statement_item ps ∷ is) h s = no_truth s
  unstated_whole (empty_item ∷ is) h s = empty_good E.Placed 0x13 (items_row is width) empty_item_fine tt (no_statement_whole is h.1 s)

  placed_whole : (b : Bool) (is : List Item) → ItemsOk is width → good width E.Items (placed_row b is width) ≡ Fine
  placed_whole false is h = unfold placed_row in unplaced_whole is h
  placed_whole true is h = unfold placed_row in on (items_have_statement is) refl
    where
      on : (c : Bool) → items_have_statement is ≡ c → good width E.Items (pick c (before_statement is width) (field 0x83 [] end (items_row is width))) ≡ Fine
      on true s = stated_whole is h s
      on false s = empty_good E.Items 0x83 (items_row is width) place_fine tt (unstated_whole is h s)

  -- ---- no import in front

  abbrev NoImport : Row → Type 0
  NoImport end = Unit {0}
  NoImport (loose b) = ⊥
  NoImport (field t f i r) = eqb t 0x82 ≡ false

  items_no_import : (is : List Item) → NoImport (items_row is width)
  unfolding items_row item_row
  items_no_import [] = tt
  items_no_import (export_item ps ∷ is) = refl
  items_no_import (declaration_item ps ∷ is) = refl
  items_no_import (statement_item ps ∷ is) = refl
  items_no_import (empty_item ∷ is) = refl

  before_no_import : (is : List Item) → NoImport (before_statement is width)
  unfolding before_statement item_row is_statement
  before_no_import [] = tt
  before_no_import (export_item ps ∷ is) = refl
  before_no_import (declaration_item ps ∷ is) = refl
  before_no_import (statement_item ps ∷ is) = refl
  before_no_import (empty_item ∷ is) = refl

  placed_no_import : (b : Bool) (is : List Item) → NoImport (placed_row b is width)
  placed_no_import false is = unfold placed_row in items_no_import is
  placed_no_import true is = unfold placed_row in on (items_have_statement is)
    where
      on : (c : Bool) → NoImport (pick c (before_statement is width) (field 0x83 [] end (items_row is width)))
      on true = before_no_import is
      on false = refl

  from_items : (x : Row) → NoImport x → good width E.Items x ≡ Fine → good width E.Whole x ≡ Fine
  from_items end n e = unfold good in refl
  from_items (loose b) n e = absurd n
  from_items (field t f i r) n e = no_import width t f i r n ∙ e

  none_in : (x : Row) → NoImport x → import_in x ≡ None
  unfolding import_in
  none_in end n = refl
  none_in (loose b) n = absurd n
  none_in (field t f i r) n = rw n (unfold choose in refl)

  -- ---- read back

  items_back : (is : List Item) → ItemsOk is width → items_in (items_row is width) ≡ is
  unfolding items_row item_row ItemsOk ItemOk items_in item_by choose
  items_back [] h = refl
  items_back (export_item ps ∷ is) h = ap₂ (λ (x : Pieces) (y : List Item). export_item x ∷ y) (pieces_whole width ps h.0).1 (items_back is h.1)
  items_back (declaration_item ps ∷ is) h = ap₂ (λ (x : Pieces) (y : List Item). declaration_item x ∷ y) (pieces_whole width ps h.0).1 (items_back is h.1)
  items_back (statement_item ps ∷ is) h = ap₂ (λ (x : Pieces) (y : List Item). statement_item x ∷ y) (pieces_whole width ps h.0).1 (items_back is h.1)
  items_back (empty_item ∷ is) h = ap (λ (y : List Item). empty_item ∷ y) (items_back is h.1)

  before_back : (is : List Item) → ItemsOk is width → items_in (before_statement is width) ≡ is
  unfolding before_statement is_statement item_row ItemsOk ItemOk items_in item_by choose
  before_back [] h = refl
  before_back (export_item ps ∷ is) h = ap₂ (λ (x : Pieces) (y : List Item). export_item x ∷ y) (pieces_whole width ps h.0).1 (items_back is h.1)
  before_back (declaration_item ps ∷ is) h = ap₂ (λ (x : Pieces) (y : List Item). declaration_item x ∷ y) (pieces_whole width ps h.0).1 (before_back is h.1)
  before_back (statement_item ps ∷ is) h = ap₂ (λ (x : Pieces) (y : List Item). statement_item x ∷ y) (pieces_whole width ps h.0).1 (items_back is h.1)
  before_back (empty_item ∷ is) h = ap (λ (y : List Item). empty_item ∷ y) (before_back is h.1)

  no_place : (is : List Item) → places_in (items_row is width) ≡ false
  unfolding items_row item_row places_in
  no_place [] = refl
  no_place (export_item ps ∷ is) = no_place is
  no_place (declaration_item ps ∷ is) = no_place is
  no_place (statement_item ps ∷ is) = no_place is
  no_place (empty_item ∷ is) = no_place is

  a_place : (is : List Item) → items_have_statement is ≡ true → places_in (before_statement is width) ≡ true
  unfolding before_statement item_row items_have_statement is_statement places_in
  a_place [] s = no_truth (sym s)
  a_place (export_item ps ∷ is) s = refl
  a_place (declaration_item ps ∷ is) s = a_place is s
  a_place (statement_item ps ∷ is) s = refl
  a_place (empty_item ∷ is) s = a_place is s

  placed_back : (b : Bool) (is : List Item) → ItemsOk is width → (items_in (placed_row b is width) ≡ is) × (places_in (placed_row b is width) ≡ b)
  placed_back false is h = unfold placed_row in (items_back is h, no_place is)
  placed_back true is h = unfold placed_row in on (items_have_statement is) refl
    where
      before_all : (items_in (field 0x83 [] end (items_row is width)) ≡ is) × (places_in (field 0x83 [] end (items_row is width)) ≡ true)
      before_all = unfold items_in choose places_in in (items_back is h, refl)

      on : (c : Bool) → items_have_statement is ≡ c → (items_in (pick c (before_statement is width) (field 0x83 [] end (items_row is width))) ≡ is) × (places_in (pick c (before_statement is width) (field 0x83 [] end (items_row is width))) ≡ true)
      on true s = (before_back is h, a_place is s)
      on false s = before_all

  -- ---- the page out

  -- the import's body by the lengths that can be said
  import_short : (m : Import) (r : Row) → Sayable (import_row (Some m) r) → length (import_bytes m) ≤ 65535
  unfolding import_row
  import_short m r l = omega (arith, (short_parts 0x82 (import_bytes m) end r l).0, length-append (import_bytes m) (bytes end))

  import_good : (m : Import) (r : Row) → length (import_bytes m) ≤ 65535 → ImportOk (Some m) → good width E.Items r ≡ Fine → good width E.Whole (import_row (Some m) r) ≡ Fine
  unfolding import_row
  import_good m r l h e = field_good width E.Whole 0x82 (import_bytes m) end r tt (unfold choose check_leaf in import_fine m l h) e

  past_import : (m : Import) (r : Row) → (items_in (import_row (Some m) r) ≡ items_in r) × (places_in (import_row (Some m) r) ≡ places_in r)
  unfolding import_row items_in choose places_in
  past_import m r = (refl, refl)

  out_whole : (m : Option Import) (b : Bool) (is : List Item) → ImportOk m → ItemsOk is width → Sayable (import_row m (placed_row b is width)) → good width E.Whole (import_row m (placed_row b is width)) ≡ Fine
  out_whole None b is h k l = unfold import_row in from_items (placed_row b is width) (placed_no_import b is) (placed_whole b is k)
  out_whole (Some m) b is h k l = import_good m (placed_row b is width) (import_short m (placed_row b is width) l) h (placed_whole b is k)

  pub page_out_whole : (p : PageOut) → ProperPageOut width p → Sayable (page_out_row width p) → good width E.Whole (page_out_row width p) ≡ Fine
  unfolding page_out_row ProperPageOut
  page_out_whole p h l = out_whole p.helpers p.places_templates p.items h.0 h.1 l

  out_back : (m : Option Import) (b : Bool) (is : List Item) → ItemsOk is width → Sayable (import_row m (placed_row b is width)) →
      (import_in (import_row m (placed_row b is width)) ≡ m) × (places_in (import_row m (placed_row b is width)) ≡ b) × (items_in (import_row m (placed_row b is width)) ≡ is)
  out_back None b is k l = let q = placed_back b is k in unfold import_row in (none_in (placed_row b is width) (placed_no_import b is), q.1, q.0)
  out_back (Some m) b is k l =
      let x : Row = placed_row b is width in
      let q = placed_back b is k in
      (import_back m (import_short m x l) x, (past_import m x).1 ∙ q.1, (past_import m x).0 ∙ q.0)

  pub page_out_back : (p : PageOut) → ProperPageOut width p → Sayable (page_out_row width p) → page_out_in (page_out_row width p) ≡ p
  unfolding page_out_in page_out_row ProperPageOut
  page_out_back p h l =
      let q = out_back p.helpers p.places_templates p.items h.1 l in
      let made = λ (m : Option Import) (b : Bool) (is : List Item). let o : PageOut = record { helpers = m; places_templates = b; items = is } in o in
      ap₂ (λ (m : Option Import) (b : Bool). made m b (items_in (import_row p.helpers (placed_row p.places_templates p.items width)))) q.0 q.1 ∙ ap (made p.helpers p.places_templates) q.2
