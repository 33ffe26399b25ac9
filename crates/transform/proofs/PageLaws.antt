-- A page's items from the page's bytes: room for the walk over them, whatever they are, and for what is put in; and both outputs, written.
-- Main statements: `page_body`, `source_short`, `items_room`, `all_low`, `before_room`,
-- `from_room`, `heads_room`, `page_shown`, `page_moved`. Assumes nothing.
use mathlib.Core.Path.{◌≡◌, refl, sym, ap, ap₂, ◌∙◌, subst}
use mathlib.Core.Bool.{Bool, true, false}
use Prim.Native.Nat.{ℕ, ◌+◌, ◌*◌, ◌≤◌, ◌<◌, ◌^◌}
use native.Mathlib.Omega.{arith}
use mathlib.Core.List.{List, [], ◌∷◌, ◌++◌}
use lib.Dec.{eqb}
use lib.ListN.{length}
use borrow.Author.Tests.{ne_eqb}
use Rattle.field.specs.Bytes.{Bytes, pick, among}
use Rattle.field.specs.Row.{Row, end, loose, field, read, bytes, inside}
use Rattle.field.specs.Front.{tag_of_front, body_of}
use Rattle.field.specs.Put.{put, Wrote}
use Rattle.field.proofs.RowLaws.{length_bytes}
use Rattle.field.proofs.FrontLaws.{body_less, nest_at}
use Rattle.page.specs.Page.{Page, ModuleItem}
use Rattle.page.specs.Encode.{pieces_row, module_items_row, page_row, encode}
use Rattle.page.specs.Tree.{choose, pieces_in, module_item_by, module_items_in, page_in, listed_in, source_in, options_in}
use Rattle.spec.specs.Pass.{Done, Template}
use Rattle.spec.specs.Transform.{with_templates, transform}
use Rattle.spec.proofs.PageOut.{templates_related}
use Rattle.spec.proofs.Growth.{size, growth, taken_growth}
use Rattle.spec.proofs.Lenient.{fits, length_read}
use Rattle.spec.proofs.Called.{counted, called}
use Rattle.decisions.specs.At.{opts}
use Rattle.decisions.specs.Index.{names_of}
use Rattle.decisions.proofs.Series.{tested, any_front}
use Rattle.walk.specs.declared.state.Walk.{Walk}
use Rattle.walk.specs.See.{World, at, see, Low}
use Rattle.walk.proofs.SeeLaws.{see_grows, low_is}
use Rattle.spec.specs.Pass.{◌+++◌}
use Rattle.visits.proofs.FieldLaws.{turn_low, turn_on}
use Rattle.transform.specs.Run.{module_mid, page_has_statement, Splits, items_mid, has_html, started, sum_of, import_bytes, Headed, written_page, fronted}
use Rattle.transform.proofs.RunLaws.{has_html_takes, walked, world, items_walked, module_walked}
use Rattle.transform.proofs.CutLaws.{front_parts, first_part, front_page}
use Rattle.transform.proofs.WrittenLaws.{written_import, written_moved}
use Rattle.transform.proofs.ItemLaws.{module_at}

-- whichever is taken
chosen : {A : Type 0} (P : A → Type 0) (b : Bool) (f g : Unit {0} → A) → P (f tt) → P (g tt) → P (choose b f g)
unfolding choose
chosen P true f g x y = x
chosen P false f g x y = y

-- ---- the body of a page that has a 01 in front

pub record PageBody (s b : Bytes) : Type 0 where
  pub body_short : length b < length s
  pub body_items : module_items_in (read b) ≡ page_in (read s)

pub page_body : (s : Bytes) → fronted (read s) ≡ true → {b : Bytes} → b ≡ body_of s → PageBody s b
unfolding page_in choose inside
page_body s fine {b} q =
    let t = tag_of_front s in
    tested t 0x01
    (λ k. record {
      body_short = body_less s t refl (λ z. omega arith) q;
      body_items = ap (λ (x : Bytes). module_items_in (read x)) q ∙ sym (ap page_in (nest_at s t refl 0x01 k tt refl));
    })
    λ n.
    absurd (any_front (λ (r : Row). fronted r ≡ true → ⊥) s t refl no_tag (λ x h. no_tag h) (λ f i h. no_tag (sym (ne_eqb t 0x01 n) ∙ h)) fine)
  where
    no_tag : false ≡ true → ⊥
    no_tag h = let z : ◌≡◌ {A = ℕ} 0 1 = cc in omega arith

-- ---- the source is no longer than the options, or the default

row_source : (r : Row) → length (source_in r) ≤ size r + 5
unfolding source_in bytes
row_source end = omega arith
row_source (loose b) = omega arith
row_source (field t f i r) =
    chosen (λ (x : Bytes). length x ≤ size (field t f i r) + 5) (eqb t 0x04) _ _ (omega (arith, length_bytes t f i r)) (omega (arith, length_bytes t f i r, row_source r))

pub source_short : (s : Bytes) → length s ≤ 4096 → length (source_in (read s)) ≤ 4101
source_short s h = omega (arith, row_source (read s), length_read s)

-- ---- growth, of items read from any bytes

items_fit : (x : Row) → size (module_items_row (module_items_in x)) ≤ 4 * size x
unfolding module_items_in module_item_by module_items_row bytes
items_fit end = omega arith
items_fit (loose b) = omega arith
items_fit (field t f i r) =
    let fit : ModuleItem → Type 0 = λ m. size (module_items_row (m ∷ module_items_in r)) ≤ 4 * size (field t f i r) in
    let rest = module_items_row (module_items_in r) in
    let ps = pieces_row (pieces_in i) in
    let all = length_bytes t f i r in
    chosen fit (eqb t 0x10) _ _ (omega (arith, all, length_bytes 0x10 [] ps rest, (fits i).pieces_fit, items_fit r))
    (chosen fit (eqb t 0x11) _ _ (omega (arith, all, length_bytes 0x11 [] ps rest, (fits i).pieces_fit, items_fit r))
    (chosen fit (eqb t 0x12) _ _ (omega (arith, all, length_bytes 0x12 [] ps rest, (fits i).pieces_fit, items_fit r)) (omega (arith, all, length_bytes 0x13 [] end rest, items_fit r))))

encoded : (s : Bytes) → length (encode (module_items_in (read s))) ≤ 3 + 4 * length s
unfolding encode page_row bytes
encoded s = omega (arith, length_bytes 0x01 [] (module_items_row (module_items_in (read s))) end, items_fit (read s), length_read s)

placed_size : (ts : List Template) (r : Row) → size (with_templates ts r) ≤ size r + 3
unfolding bytes
placed_size ts r =
    templates_related (λ (r s : Row). size s ≤ size r + 3) (λ r. omega arith) (λ r. omega (arith, length_bytes 0x83 [] end r)) (λ t f i r s h. omega (arith, length_bytes t f i r, length_bytes t f i s)) ts r

-- ---- room for the walk: the items stand in fewer than 2^32 bytes

module _ (k p s : Bytes) (short : length s < 2 ^ 32) where
  abbrev items_of : Page
  items_of = module_items_in (read s)

  abbrev result : Done Row
  result = transform (opts k p) items_of

  walked_low : (r : Row) (q : ℕ) → size r ≤ size result.value + 3 → q ≤ 8192 → Low (walked result r q)
  walked_low r q h l =
      let g = growth (opts k p) items_of in
      let t = taken_growth (opts k p) items_of in
      let e = encoded s in
      record { low_first = omega arith; low_later = omega (arith, t, e); low_templates = omega (arith, g, e); low_page = omega (arith, g, e) }

  -- all items at once, behind room for the import
  pub items_room : (t g : Bytes) → 1 ≤ result.taken → {x : Walk} {q : ℕ} → x ≡ started q → q ≤ 8192 → Low (see (items_mid (opts k p) items_of) (at t g x)).st
  items_room t g h {x} {q} e l =
      low_is (ap (λ (x : Walk). see (items_mid (opts k p) items_of) (at t g x)) e ∙ items_walked (opts k p) items_of q t g (omega (arith, h, counted (opts k p) items_of)))
      (walked_low (with_templates result.templates result.value) q (placed_size result.templates result.value) l)

  -- or without the heads: at once
  module _ (t g : Bytes) {x : Walk} (e : x ≡ started 0) where
    all_walked : see (module_at k p s) (at t g x) ≡ world result result.value 0 t g
    all_walked = ap (λ (x : Walk). see (module_at k p s) (at t g x)) e ∙ module_walked (opts k p) items_of 0 t g

    pub all_low : Low (see (module_at k p s) (at t g x)).st
    all_low = low_is all_walked (walked_low result.value 0 (omega arith) (omega arith))

    -- room for what is due
    pub moved_low : {t₂ g₂ : Bytes} {z : Walk} → at t₂ g₂ z ≡ see (module_at k p s) (at t g x) → z.page < 2 ^ 62
    moved_low f = omega (arith, ap (λ (w : World). w.st.page) (f ∙ all_walked), growth (opts k p) items_of, encoded s)

    -- or in two parts
    module _ {a b : Bytes} (c : Splits s a b) where
      cut_is : module_at k p s ≡ module_at k p a +++ module_at k p b
      cut_is = front_parts (opts k p) items_of (page_has_statement items_of) ∙ ap₂ (λ (x y : Page). module_mid (opts k p) false x +++ module_mid (opts k p) false y) (sym c.before) (sym c.from)

      pub before_room : Low (see (module_at k p a) (at t g x)).st
      before_room = turn_low (module_at k p a) (module_at k p b) cut_is (at t g x) refl all_low

      module _ {t₁ g₁ : Bytes} {y : Walk} (d : at t₁ g₁ y ≡ see (module_at k p a) (at t g x)) where
        pub from_is : see (module_at k p b) (at t₁ g₁ y) ≡ see (module_at k p s) (at t g x)
        from_is = turn_on (module_at k p a) (module_at k p b) cut_is (at t g x) refl d

        pub from_room : Low (see (module_at k p b) (at t₁ g₁ y)).st
        from_room = low_is from_is all_low

        pub heads_room : {t₂ g₂ : Bytes} {z : Walk} → at t₂ g₂ z ≡ see (module_at k p b) (at t₁ g₁ y) → (y.page ≤ z.page) × (z.page < 2 ^ 62)
        heads_room f = (omega (arith, (see_grows (module_at k p b) (at t₁ g₁ y)).g_page, ap (λ (w : World). w.st.page) f), moved_low (f ∙ from_is))

pub import_short : (n : ℕ) {q : ℕ} → q ≡ 19 + n → n ≤ 4101 → q ≤ 8192
import_short n e l = omega arith

pub html_takes : (k p : Bytes) (is : Page) {v : Bool} → v ≡ has_html (opts k []) is → v ≡ true → 1 ≤ (transform (opts k p) is).taken
html_takes k p is e h = has_html_takes k p is (sym e ∙ h)

-- ---- both outputs, written: b is the page's body

module _ (k p : Bytes) (r : Row) (e : (n : Bytes) → among n (names_of k) ≡ among n (listed_in 2 r)) (f : (n : Bytes) → among n (names_of p) ≡ among n (listed_in 3 r)) (b : Bytes) {is : Page}
    (j : module_items_in (read b) ≡ is) {source : Bytes} (i : source ≡ source_in r) (t g : Bytes) where
  abbrev items_read : Page
  items_read = module_items_in (read b)

  same_page : written_page (options_in r) (transform (options_in r) items_read) t g ≡ written_page (options_in r) (transform (options_in r) is) t g
  same_page = ap (λ (i : Page). written_page (options_in r) (transform (options_in r) i) t g) j

  -- behind room for the import, which is put in front
  pub page_shown : 1 ≤ (transform (opts k p) items_read).taken → {q : ℕ} → q ≡ 19 + length source → {x : Walk} → x ≡ started q →
      {t' g' : Bytes} {y : Walk} → at t' g' y ≡ see (items_mid (opts k p) items_read) (at t g x) → {n : ℕ} → n ≡ sum_of y → {g'' : Bytes} {z : ℕ} → Wrote g' 0 (import_bytes source n) g'' z →
      at t' g'' y ≡ written_page (options_in r) (transform (options_in r) is) t g
  page_shown h {q} l s {t'} {g'} {y} v u w =
      ap (λ (o : Bytes). at t' o y) (w.out_is ∙ ap₂ (λ (x : Bytes) (n : ℕ). put g' 0 (import_bytes x n)) i u)
      ∙ written_import k p r items_read e f (counted (opts k p) items_read) (called (opts k p) items_read) q t g (at t' g' y) h (l ∙ ap (λ (x : Bytes). 19 + length x) i) (v ∙ ap (λ (x : Walk). see (items_mid (opts k p) items_read) (at t g x)) s)
      ∙ same_page

  -- without them, and what is due put in, where the items are cut into b₀ and b₁
  pub page_moved : length b < 2 ^ 32 → {b₀ b₁ : Bytes} (c : Splits b b₀ b₁) {x : Walk} → x ≡ started 0 → {t₁ g₁ : Bytes} {y : Walk} → at t₁ g₁ y ≡ see (module_at k p b₀) (at t g x) →
      {t₂ g₂ : Bytes} {z : Walk} → at t₂ g₂ z ≡ see (module_at k p b₁) (at t₁ g₁ y) →
      {g₃ : Bytes} {w : Walk} → ((o a c : Bytes) → g₂ ≡ put o 0 (a ++ c) → y.page ≡ length a → z.page ≡ length a + length c → Headed source z o a c g₃ w) →
      at t₂ g₃ w ≡ written_page (options_in r) (transform (options_in r) is) t g
  page_moved short c s {y = y} d {z = z} v {g₃} {w} put_in =
      let all = v ∙ from_is k p b short t g s c d ∙ ap (λ (x : Walk). see (module_at k p b) (at t g x)) s in
      let first : y.page ≡ pick (page_has_statement items_read) (length (bytes (first_part (opts k p) items_read 1).value)) 0 =
      ap (λ (w : World). w.st.page) (d ∙ ap₂ (λ (x : Walk) (i : Page). see (module_mid (opts k p) false i) (at t g x)) s c.before) ∙ front_page (opts k p) items_read (page_has_statement items_read) t g in
      written_moved k p r items_read e f (counted (opts k p) items_read) (called (opts k p) items_read) t g all
      (λ o a l x u v. subst (λ (q : Bytes). Headed q z o a l g₃ w) i (put_in o a l x u v)) (page_has_statement items_read) refl first
      ∙ same_page
