-- The import and the place of the templates, put into page out: neither is a call nor a tag, and the sum counts what stands.
-- Main statements: `page_called`, `page_stands`, `page_imported`, `page_shaped`, `templates_shaped`. Assumes nothing.
use Prim.Native.Nat.{ℕ, ◌+◌}
use mathlib.Core.Path.{◌≡◌, refl, sym, ap, ap₂, ◌∙◌}
use mathlib.Core.Bool.{Bool, true, false, ◌&&◌, ◌||◌, not}
use mathlib.Core.List.{List, [], ◌∷◌, ◌++◌}
use native.Mathlib.Omega.{arith}
use lib.Dec.{T, eqb, eqb→eq}
use Rattle.field.specs.Bytes.{Bytes, ascii, pick}
use Rattle.field.specs.Row.{Row, end, loose, field, inside, long_body, next_of}
use Rattle.field.proofs.RowLaws.{FrontFits, Shaped}
use Rattle.page.specs.Page.{Options, Page, export_item, declaration_item, statement_item, empty_item}
use Rattle.spec.specs.Pass.{Template, Done, pure, both}
use Rattle.spec.specs.Output.{template_row, layout_84}
use Rattle.spec.specs.Words.{places}
use Rattle.spec.specs.Visit.{visit_exprs}
use Rattle.spec.specs.Transform.{bit, stands, is_statement, has_statement, before_statement, with_templates, helper_sum, with_import, page_out_row, templates_row, transform, module_items}
use Rattle.spec.specs.Demand.{kinds_in, Helper, jsx, jsx_template, jsx_attr, jsx_escape, helper_tag, counts, sum_in, imported_in}
use Rattle.spec.proofs.Ledger.{Test, called_row}
use Rattle.spec.proofs.Records.{kinds_few, rest_short, record_shaped}

-- ---- an 83 put in somewhere: one walk for whatever relates a row with the row that has it

module _ (R : Row → Row → Type 0) (same : (r : Row) → R r r) (past : (r : Row) → R r (field 0x83 [] end r)) (behind : (t : ℕ) (f : Bytes) (i r s : Row) → R r s → R (field t f i r) (field t f i s)) where
  before_related : (r : Row) → R r (before_statement r)
  unfolding before_statement
  before_related end = same end
  before_related (loose b) = same (loose b)
  before_related (field t f i r) = on (is_statement t) (before_related r)
    where
      on : (b : Bool) → R r (before_statement r) → R (field t f i r) (pick b (field 0x83 [] end (field t f i r)) (field t f i (before_statement r)))
      on true h = past (field t f i r)
      on false h = behind t f i r (before_statement r) h

  pub templates_related : (ts : List Template) (r : Row) → R r (with_templates ts r)
  unfolding with_templates
  templates_related [] r = same r
  templates_related (t ∷ ts) r = on (has_statement r)
    where
      on : (b : Bool) → R r (pick b (before_statement r) (field 0x83 [] end r))
      on true = before_related r
      on false = past r

-- and an 82 in front
abbrev pub import_row : Bytes → ℕ → Row → Row
import_row source sum r = field 0x82 [] (field 0x81 source end (loose (sum ∷ []))) r

pub import_related : (P : Row → Type 0) (source : Bytes) (sum : ℕ) (r : Row) → P r → P (import_row (source ++ ascii "/jsx-runtime") sum r) → P (with_import source sum r)
unfolding with_import
import_related P source sum r h k = on (eqb sum 0)
  where
    on : (b : Bool) → P (pick b r (import_row (source ++ ascii "/jsx-runtime") sum r))
    on true = h
    on false = k

-- ---- no call in either

pub page_called : (p : Test) (o : Options) (d : Done Row) → called_row p (page_out_row o d) ≡ called_row p d.value
unfolding page_out_row
page_called p o d =
    let e = templates_related (λ r s. called_row p s ≡ called_row p r) (λ r. refl) (past p) (behind p) d.templates d.value in
    import_related (λ r. called_row p r ≡ called_row p d.value) o.import_source (helper_sum d.value) (with_templates d.templates d.value) e
    (import p (o.import_source ++ ascii "/jsx-runtime") (helper_sum d.value) (with_templates d.templates d.value) ∙ e)
  where
    past : (p : Test) (r : Row) → called_row p (field 0x83 [] end r) ≡ called_row p r
    past p r = unfold called_row in omega arith

    import : (p : Test) (source : Bytes) (sum : ℕ) (r : Row) → called_row p (import_row source sum r) ≡ called_row p r
    import p source sum r = unfold called_row in omega arith

    behind : (p : Test) (t : ℕ) (f : Bytes) (i r s : Row) → called_row p s ≡ called_row p r → called_row p (field t f i s) ≡ called_row p (field t f i r)
    behind p t f i r s e = unfold called_row in ap (λ (x : ℕ). bit (eqb t 0x90 && p f (kinds_in i)) 1 + (called_row p i + x)) e

-- ---- no other tag in either

pub page_stands : (u : ℕ) → eqb 0x81 u ≡ false → eqb 0x82 u ≡ false → eqb 0x83 u ≡ false → (o : Options) (d : Done Row) → stands u (page_out_row o d) ≡ stands u d.value
unfolding page_out_row
page_stands u h81 h82 h83 o d =
    let e = templates_related (λ r s. stands u s ≡ stands u r) (λ r. refl) (past u h83) (behind u) d.templates d.value in
    import_related (λ r. stands u r ≡ stands u d.value) o.import_source (helper_sum d.value) (with_templates d.templates d.value) e
    (import u h81 h82 (o.import_source ++ ascii "/jsx-runtime") (helper_sum d.value) (with_templates d.templates d.value) ∙ e)
  where
    past : (u : ℕ) → eqb 0x83 u ≡ false → (r : Row) → stands u (field 0x83 [] end r) ≡ stands u r
    past u h r = unfold stands in ap (λ (b : Bool). b || (false || stands u r)) h

    import : (u : ℕ) → eqb 0x81 u ≡ false → eqb 0x82 u ≡ false → (source : Bytes) (sum : ℕ) (r : Row) → stands u (import_row source sum r) ≡ stands u r
    import u h k source sum r = unfold stands in ap₂ (λ (a b : Bool). a || ((b || (false || false)) || stands u r)) k h

    behind : (u t : ℕ) (f : Bytes) (i r s : Row) → stands u s ≡ stands u r → stands u (field t f i s) ≡ stands u (field t f i r)
    behind u t f i r s e = unfold stands in ap (λ (b : Bool). eqb t u || (stands u i || b)) e

-- ---- the sum counts what stands

-- each power once
decode : (a b c d : Bool) →
    let n = bit a 1 + bit b 2 + bit c 4 + bit d 8 in
    (counts jsx n ≡ a) × (counts jsx_template n ≡ b) × (counts jsx_attr n ≡ c) × (counts jsx_escape n ≡ d)
unfolding counts
decode true true true true = (refl, refl, refl, refl)
decode true true true false = (refl, refl, refl, refl)
decode true true false true = (refl, refl, refl, refl)
decode true true false false = (refl, refl, refl, refl)
decode true false true true = (refl, refl, refl, refl)
decode true false true false = (refl, refl, refl, refl)
decode true false false true = (refl, refl, refl, refl)
decode true false false false = (refl, refl, refl, refl)
decode false true true true = (refl, refl, refl, refl)
decode false true true false = (refl, refl, refl, refl)
decode false true false true = (refl, refl, refl, refl)
decode false true false false = (refl, refl, refl, refl)
decode false false true true = (refl, refl, refl, refl)
decode false false true false = (refl, refl, refl, refl)
decode false false false true = (refl, refl, refl, refl)
decode false false false false = (refl, refl, refl, refl)

sum_counts : (h : Helper) (r : Row) → counts h (helper_sum r) ≡ stands (helper_tag h) r
unfolding helper_sum
sum_counts jsx r = (decode (stands 0x94 r) (stands 0x90 r) (stands 0x91 r) (stands 0x92 r)).0
sum_counts jsx_template r = (decode (stands 0x94 r) (stands 0x90 r) (stands 0x91 r) (stands 0x92 r)).1
sum_counts jsx_attr r = (decode (stands 0x94 r) (stands 0x90 r) (stands 0x91 r) (stands 0x92 r)).2
sum_counts jsx_escape r = (decode (stands 0x94 r) (stands 0x90 r) (stands 0x91 r) (stands 0x92 r)).3

none_counted : (h : Helper) → counts h 0 ≡ false
unfolding counts
none_counted jsx = refl
none_counted jsx_template = refl
none_counted jsx_attr = refl
none_counted jsx_escape = refl

-- no item is an 82
no_import : (h : Helper) (o : Options) (p : Page) (n : ℕ) → imported_in h (visit_exprs (module_items o p) n).value ≡ false
unfolding imported_in visit_exprs module_items pure both
no_import h o [] n = refl
no_import h o (export_item ps ∷ is) n = no_import h o is _
no_import h o (declaration_item ps ∷ is) n = no_import h o is _
no_import h o (statement_item ps ∷ is) n = no_import h o is _
no_import h o (empty_item ∷ is) n = no_import h o is _

-- where the sum is 0 none stands, and no 82 is written
import_sum : (h : Helper) (source : Bytes) (v w : Row) → imported_in h w ≡ false → imported_in h (with_import source (helper_sum v) w) ≡ stands (helper_tag h) v
unfolding with_import
import_sum h source v w e = on (eqb (helper_sum v) 0) (eqb→eq (helper_sum v) 0)
  where
    on : (b : Bool) → (T b → helper_sum v ≡ 0) → imported_in h (pick b w (import_row (source ++ ascii "/jsx-runtime") (helper_sum v) w)) ≡ stands (helper_tag h) v
    on true z = e ∙ sym (none_counted h) ∙ ap (counts h) (sym (z tt)) ∙ sum_counts h v
    on false z = unfold imported_in sum_in in ap₂ (λ (a b : Bool). a || b) (sum_counts h v) e ∙ or_end (stands (helper_tag h) v)
      where
        or_end : (b : Bool) → (b || false) ≡ b
        or_end true = refl
        or_end false = refl

helper_stands : (h : Helper) (o : Options) (d : Done Row) → stands (helper_tag h) (page_out_row o d) ≡ stands (helper_tag h) d.value
helper_stands jsx o d = page_stands 0x94 refl refl refl o d
helper_stands jsx_template o d = page_stands 0x90 refl refl refl o d
helper_stands jsx_attr o d = page_stands 0x91 refl refl refl o d
helper_stands jsx_escape o d = page_stands 0x92 refl refl refl o d

pub page_imported : (h : Helper) (o : Options) (p : Page) → imported_in h (page_out_row o (transform o p)) ≡ stands (helper_tag h) (page_out_row o (transform o p))
unfolding page_out_row transform
page_imported h o p =
    let d : Done Row = visit_exprs (module_items o p) 1 in
    let e : imported_in h (with_templates d.templates d.value) ≡ imported_in h d.value = templates_related (λ r s. imported_in h s ≡ imported_in h r) (λ r. refl) (past h) (behind h) d.templates d.value in
    import_sum h o.import_source d.value (with_templates d.templates d.value) (e ∙ no_import h o p 1) ∙ sym (helper_stands h o d)
  where
    past : (h : Helper) (r : Row) → imported_in h (field 0x83 [] end r) ≡ imported_in h r
    past h r = unfold imported_in in refl

    behind : (h : Helper) (t : ℕ) (f : Bytes) (i r s : Row) → imported_in h s ≡ imported_in h r → imported_in h (field t f i s) ≡ imported_in h (field t f i r)
    behind h t f i r s e = unfold imported_in in ap (λ (b : Bool). (eqb t 0x82 && counts h (sum_in i)) || b) e

-- ---- both outputs are rows that bytes read as

pub page_shaped : (o : Options) (d : Done Row) → Shaped d.value → Shaped (page_out_row o d)
unfolding page_out_row
page_shaped o d s =
    let w : Row = with_templates d.templates d.value in
    let h : Shaped w = templates_related (λ r s. Shaped r → Shaped s) (λ r h. h) past behind d.templates d.value s in
    import_related Shaped o.import_source (helper_sum d.value) w h (import (o.import_source ++ ascii "/jsx-runtime") (helper_sum d.value) w h)
  where
    past : (r : Row) → Shaped r → Shaped (field 0x83 [] end r)
    past r h = unfold Shaped FrontFits inside in (tt, tt, h)

    behind : (t : ℕ) (f : Bytes) (i r s : Row) → (Shaped r → Shaped s) → Shaped (field t f i r) → Shaped (field t f i s)
    behind t f i r s k h = unfold Shaped in (h.0, h.1, k h.2)

    import : (source : Bytes) (sum : ℕ) (r : Row) → Shaped r → Shaped (import_row source sum r)
    import source sum r h = unfold Shaped FrontFits inside next_of in (tt, (tt, tt, refl), h)

-- where the count of each template's gaps fits its two bytes, as in any body that is not long
pub templates_shaped : (ts : List Template) → T (not (long_body (templates_row ts))) → Shaped (templates_row ts)
unfolding Shaped inside templates_row template_row
templates_shaped [] h = tt
templates_shaped (t ∷ ts) h =
    let ks = places t.strings in
    let r = templates_row ts in
    record_shaped inside refl layout_84 refl t.number ks t.strings r (kinds_few layout_84 t.number ks t.strings r h) (templates_shaped ts (rest_short layout_84 t.number ks t.strings r h))
