-- What the code learns of module items, a whole page and options, as `CheckLaws` has it of their parts. Assumes nothing.
use mathlib.Core.Path.{◌≡◌, refl, sym, ap, ◌∙◌}
use mathlib.Core.Bool.{Bool, true, false, ◌&&◌}
use Prim.Native.Nat.{ℕ, ◌+◌, ◌≤◌}
use native.Mathlib.Omega.{arith}
use native.Mathlib.Numerals.{add-one}
use lib.Dec.{leb, eqb}
use borrow.Author.Tests.{leb-true, ne_eqb}
use Rattle.field.specs.Bytes.{Bytes}
use Rattle.field.specs.Row.{Row, read, inside}
use Rattle.field.specs.Fields.{IsFront, IsEnd}
use Rattle.refusal.specs.Refusal.{Verdict, Fine, Refused, after, unless}
use Rattle.page.specs.Tree.{choose}
use Rattle.page.specs.Check.{check_header, check_text, check_empty, check_pieces, check_module_items, check_nothing_after, check_page, check_texts, check_option_by, check_options_from}
use Rattle.page.specs.CheckField.{check_module_item, check_option}
use Rattle.refusal.specs.declared.Refusal.TheVariants as R
use Rattle.page.proofs.Steps.{Then, front, inner, row_at, one_field, ended, tested, at, between}

-- ---- a page

abbrev module_row : ℕ → Bytes → Row → Verdict
module_row t f i = choose (eqb t 0x13) (λ _. check_empty f) λ _. check_pieces 3 i

module_body : (t : ℕ) (w : Bytes) → (leb 0x10 t && leb t 0x13) ≡ true → module_row t (front (inside t) w) (inner (inside t) w) ≡ module_row t w (read w)
unfolding inside choose
module_body t w h =
    let P : ℕ → Type 0 = λ (t : ℕ). module_row t (front (inside t) w) (inner (inside t) w) ≡ module_row t w (read w) in
    between P t 0x10 0x13 h λ l u. tested t 0x10 (at P t 0x10 refl) λ n. tested t 0x11 (at P t 0x11 refl) λ m. tested t 0x12 (at P t 0x12 refl) λ o. at P t 0x13 refl (omega arith)

module _ {s : Bytes} {t : ℕ} {b r : Bytes} (f : IsFront s t b r) where
  pub module_step : Then (check_module_items (read s)) (check_module_item t b) (check_module_items (read r))
  unfolding check_module_items check_module_item
  module_step = record { then_is = ap check_module_items (row_at f) ∙ one_field (leb 0x10 t && leb t 0x13) 2 _ _ _ (module_body t b) }

  pub page_01 : t ≡ 0x01 → Then (check_page (read s)) (check_module_items (read b)) (check_nothing_after (read r))
  unfolding check_page check_header after inside
  page_01 k = record { then_is = ap check_page (row_at f) ∙ rw k }

  pub page_other : (t ≡ 0x01 → ⊥) → Refused R.Misplaced ≡ check_page (read s)
  unfolding check_page check_header after
  page_other n = sym (ap check_page (row_at f) ∙ rw (ne_eqb t 0x01 n))

  -- the header of a 20, and then its text
  pub texts_step : Then (check_texts (read s)) (unless (eqb t 0x20) R.Misplaced) (after (check_text b) λ _. check_texts (read r))
  unfolding check_texts check_header after inside
  texts_step = tested t 0x20 (λ k. record { then_is = ap check_texts (row_at f) ∙ rw k refl }) (λ n. record { then_is = ap check_texts (row_at f) ∙ rw (ne_eqb t 0x20 n) refl })

module _ {s r : Bytes} (e : IsEnd s r) where
  pub module_end : check_nothing_after (read r) ≡ check_module_items (read s)
  unfolding check_nothing_after check_module_items
  module_end = ended check_nothing_after check_module_items refl (λ b. refl) e

  pub page_none : Refused R.Truncated ≡ check_page (read s)
  unfolding check_page
  page_none = ended (λ _. Refused R.Truncated) check_page refl (λ b. refl) e

  pub texts_end : check_nothing_after (read r) ≡ check_texts (read s)
  unfolding check_nothing_after check_texts
  texts_end = ended check_nothing_after check_texts refl (λ b. refl) e

  pub options_end : (k : ℕ) → check_nothing_after (read r) ≡ check_options_from k (read s)
  unfolding check_nothing_after check_options_from
  options_end k = ended check_nothing_after (check_options_from k) refl (λ b. refl) e

-- ---- options

module _ (least t : ℕ) where
  option_body : 2 ≤ least → (w : Bytes) → (leb least t && leb t 0x05) ≡ true → check_option_by t (front (inside t) w) (inner (inside t) w) ≡ check_option_by t w (read w)
  unfolding inside choose
  option_body g w h =
      let P : ℕ → Type 0 = λ (t : ℕ). check_option_by t (front (inside t) w) (inner (inside t) w) ≡ check_option_by t w (read w) in
      between P t least 0x05 h λ l u. tested t 0x02 (at P t 0x02 refl) λ n. tested t 0x03 (at P t 0x03 refl) λ m. tested t 0x04 (at P t 0x04 refl) λ o. at P t 0x05 refl (omega arith)

  pub options_step : 2 ≤ least → {s b r : Bytes} → IsFront s t b r → Then (check_options_from least (read s)) (check_option least t b) (check_options_from (t + 1) (read r))
  unfolding check_options_from check_option
  options_step g f =
      record { then_is = ap (check_options_from least) (row_at f) ∙ one_field (leb least t && leb t 0x05) 1 _ _ _ (option_body g _) ∙ rw (add-one t) }

  module _ (w : Bytes) where
    -- a tag that was fine is one of those that may come
    pub option_in : {v : Verdict} → v ≡ check_option least t w → v ≡ Fine → (least ≤ t) × (t ≤ 0x05)
    unfolding check_option check_header after
    option_in {v} e f = on (leb least t) refl (leb t 0x05) refl (sym e ∙ f)
      where
        on : (a : Bool) → leb least t ≡ a → (b : Bool) → leb t 0x05 ≡ b → after (check_header (a && b) 1) (λ _. check_option_by t w (read w)) ≡ Fine → (least ≤ t) × (t ≤ 0x05)
        on true p true q z = (leb-true least t p, leb-true t 0x05 q)
        on true p false q z = absurd (let k : ◌≡◌ {A = ℕ} 0 1 = cc in omega arith)
        on false p b q z = absurd (let k : ◌≡◌ {A = ℕ} 0 1 = cc in omega arith)
