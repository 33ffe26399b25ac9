-- The worked bytes of a row, field by field. Main statements: `worked_front`, `worked_none`, `worked_leaf`, `worked_nest`, `worked_plus`,
-- `worked_minus`. Assumes nothing.
use Prim.Native.Nat.{ℕ, ◌≤◌}
use mathlib.Core.Path.{◌≡◌, refl, sym, ◌∙◌, ap, ap₂}
use mathlib.Core.Bool.{Bool, true, false, ◌&&◌}
use mathlib.Core.List.{[], ◌++◌, append-nil}
use native.Mathlib.Omega.{arith}
use lib.Dec.{leb, eqb}
use lib.ListN.{take, drop, take-append-drop}
use borrow.Author.Tests.{eqb-true, leb-true, eqb-false}
use Rattle.field.specs.Bytes.{Bytes, AllBytes, pick}
use Rattle.field.specs.Row.{Row, end, field, field_bytes, bytes, Inside, only_bytes, fields_after, counted, counted_front, inside, next, next_of, opened, built, read, Ended}
use Rattle.field.proofs.NumberLaws.{all_drop}
use Rattle.field.proofs.RowLaws.{read_step, read_nil, read_ind, next_nothing, bytes_read}
use Rattle.page.specs.Number.{whole, number_bytes}
use Rattle.sums.specs.Value.{Worked}
use Rattle.sums.specs.declared.value.Sum.TheVariants.{Plus, Minus}
use Rattle.std.specs.Prelude.{Some, None}
use Rattle.std.proofs.lemmas.Bool.{and_parts}
use Rattle.worked.specs.Row.{holds, field_sum, number_or, worked_row, worked_bytes, worked_field}
use Rattle.worked.proofs.Tests.{or_true}
use Rattle.worked.proofs.Pieces.{no_79}

-- ---- one field and those behind it

number_or_front : (x : Worked) (t : ℕ) (f : Bytes) (i r : Row) → bytes (number_or x t f i r) ≡ bytes (number_or x t f i end) ++ bytes r
unfolding number_or bytes
number_or_front None t f i r = ap (λ (x : Bytes). x ++ bytes r) (sym (append-nil (field_bytes t (f ++ bytes i))))
number_or_front (Some (Plus n)) t f i r = ap (λ (x : Bytes). x ++ bytes r) (sym (append-nil (field_bytes 0x71 (number_bytes (whole n) ++ []))))
number_or_front (Some (Minus n)) t f i r = ap (λ (x : Bytes). x ++ bytes r) (sym (append-nil (field_bytes 0x75 (number_bytes (whole n) ++ []))))

row_front : (t : ℕ) (f : Bytes) (i r : Row) → bytes (worked_row (field t f i r)) ≡ bytes (worked_row (field t f i end)) ++ bytes (worked_row r)
unfolding worked_row
row_front t f i r = number_or_front (field_sum t i) t f (pick (holds t) (worked_row i) i) (worked_row r)

opened_front : (c : Inside) (t : ℕ) (w r : Bytes) → bytes (worked_row (opened c read t w r)) ≡ bytes (worked_row (opened c read t w [])) ++ bytes (worked_row (read r))
unfolding opened
opened_front only_bytes t w r =
    row_front t w end (read r) ∙ ap (λ (x : Row). bytes (worked_row (field t w end x)) ++ bytes (worked_row (read r))) (sym read_nil)
opened_front (fields_after n) t w r =
    row_front t (take n w) (read (drop n w)) (read r)
    ∙ ap (λ (x : Row). bytes (worked_row (field t (take n w) (read (drop n w)) x)) ++ bytes (worked_row (read r))) (sym read_nil)
opened_front (counted n) t w r =
    row_front t (take (counted_front n w) w) (read (drop (counted_front n w) w)) (read r)
    ∙ ap (λ (x : Row). bytes (worked_row (field t (take (counted_front n w) w) (read (drop (counted_front n w) w)) x)) ++ bytes (worked_row (read r))) (sym read_nil)

pub worked_front : (s : Bytes) (t : ℕ) (w r : Bytes) → next_of s ≡ next t w r → worked_bytes s ≡ worked_field t w ++ worked_bytes r
unfolding worked_bytes worked_field built
worked_front s t w r e = ap (λ (x : Row). bytes (worked_row x)) (read_step s ∙ ap (built read s) e) ∙ opened_front (inside t) t w r

-- where no field stands, what stands there
pub worked_none : (s : Bytes) → Ended (read s) → s ≡ worked_bytes s
unfolding worked_bytes worked_row bytes
worked_none =
    read_ind (λ s x. Ended x → s ≡ bytes (worked_row x)) (λ s e h. next_nothing s e) (λ s e h. refl) (λ s t w r e q hr h. absurd h)
    (λ s t w r n e q hi hr h. absurd h)

-- ---- a tag below which an expression may stand holds fields alone

held_by : (t k : ℕ) → t ≡ k → inside k ≡ fields_after 0 → inside t ≡ fields_after 0
held_by t k e q = ap inside e ∙ q

pub holds_fields : (t : ℕ) → holds t ≡ true → inside t ≡ fields_after 0
unfolding holds inside
holds_fields t e =
    or_true (eqb t 0x01) _ e (λ a. held_by t 0x01 (eqb-true t 0x01 a) refl) λ _ e₁.
    or_true (leb 0x10 t && leb t 0x12) _ e₁ (λ a. range (and_parts (leb 0x10 t) (leb t 0x12) a)) λ _ e₂.
    or_true (eqb t 0x30) _ e₂ (λ a. held_by t 0x30 (eqb-true t 0x30 a) refl) λ _ e₃.
    or_true (eqb t 0x31) _ e₃ (λ a. held_by t 0x31 (eqb-true t 0x31 a) refl) λ _ e₄.
    or_true (eqb t 0x50) _ e₄ (λ a. held_by t 0x50 (eqb-true t 0x50 a) refl) λ _ e₅.
    or_true (eqb t 0x52) _ e₅ (λ a. held_by t 0x52 (eqb-true t 0x52 a) refl) λ _ e₆.
    or_true (eqb t 0x53) _ e₆ (λ a. held_by t 0x53 (eqb-true t 0x53 a) refl) λ _ e₇.
    or_true (eqb t 0x61) _ e₇ (λ a. held_by t 0x61 (eqb-true t 0x61 a) refl) λ _ e₈.
    or_true (eqb t 0x76) _ e₈ (λ a. held_by t 0x76 (eqb-true t 0x76 a) refl) λ _ e₉.
    or_true (eqb t 0x77) _ e₉ (λ a. held_by t 0x77 (eqb-true t 0x77 a) refl) λ _ a. held_by t 0x79 (eqb-true t 0x79 a) refl
  where
    last : 0x10 ≤ t → t ≤ 0x12 → (b c : Bool) → eqb t 0x10 ≡ b → eqb t 0x11 ≡ c → inside t ≡ fields_after 0
    last l h true c p q = held_by t 0x10 (eqb-true t 0x10 p) refl
    last l h false true p q = held_by t 0x11 (eqb-true t 0x11 q) refl
    last l h false false p q = held_by t 0x12 (let x = eqb-false t 0x10 p in let y = eqb-false t 0x11 q in omega arith) refl

    range : (leb 0x10 t ≡ true) × (leb t 0x12 ≡ true) → inside t ≡ fields_after 0
    range a = last (leb-true 0x10 t a.0) (leb-true t 0x12 a.1) (eqb t 0x10) (eqb t 0x11) refl refl

-- ---- the three ways a field goes

-- a tag below which none may stand: copied
leaf_body : (c : Inside) (t : ℕ) (w : Bytes) → AllBytes w → bytes (opened c read t w []) ≡ field_bytes t w ++ bytes (read [])
unfolding opened bytes
leaf_body only_bytes t w a = ap (λ (x : Bytes). field_bytes t x ++ bytes (read [])) (append-nil w)
leaf_body (fields_after n) t w a =
    ap (λ (x : Bytes). field_bytes t x ++ bytes (read [])) (ap (λ (x : Bytes). take n w ++ x) (bytes_read (drop n w) (all_drop n w a)) ∙ take-append-drop n w)
leaf_body (counted n) t w a =
    ap (λ (x : Bytes). field_bytes t x ++ bytes (read [])) (ap (λ (x : Bytes). take (counted_front n w) w ++ x) (bytes_read (drop (counted_front n w) w) (all_drop (counted_front n w) w a)) ∙ take-append-drop (counted_front n w) w)

not_held : (t : ℕ) (f : Bytes) (i : Row) → holds t ≡ false → worked_row (field t f i (read [])) ≡ field t f i (read [])
unfolding worked_row number_or holds
not_held t f i h =
    let n : t ≡ 0x79 → ⊥ = λ z. (let k : true ≡ false = sym (ap holds z ∙ refl) ∙ h in let y : ◌≡◌ {A = ℕ} 0 1 = cc in omega arith) in
    ap (λ (x : Worked). number_or x t f (pick (holds t) (worked_row i) i) (worked_row (read []))) (sym (no_79 t i n))
    ∙ ap (λ (b : Bool). field t f (pick b (worked_row i) i) (worked_row (read []))) h ∙ ap (field t f i) (ap worked_row read_nil ∙ sym read_nil)

opened_not_held : (c : Inside) (t : ℕ) (w : Bytes) → holds t ≡ false → worked_row (opened c read t w []) ≡ opened c read t w []
unfolding opened
opened_not_held only_bytes t w h = not_held t w end h
opened_not_held (fields_after n) t w h = not_held t (take n w) (read (drop n w)) h
opened_not_held (counted n) t w h = not_held t (take (counted_front n w) w) (read (drop (counted_front n w) w)) h

pub worked_leaf : (t : ℕ) (w : Bytes) → holds t ≡ false → AllBytes w → field_bytes t w ≡ worked_field t w
unfolding worked_field bytes
worked_leaf t w h a =
    sym (ap bytes (opened_not_held (inside t) t w h) ∙ leaf_body (inside t) t w a ∙ ap (λ (x : Row). field_bytes t w ++ bytes x) read_nil ∙ append-nil (field_bytes t w))

module _ (t : ℕ) (w : Bytes) (h : holds t ≡ true) where
  held : worked_field t w ≡ bytes (number_or (field_sum t (read w)) t [] (worked_row (read w)) end)
  unfolding worked_field opened worked_row
  held =
      ap (λ (c : Inside). bytes (worked_row (opened c read t w []))) (holds_fields t h)
      ∙ ap₂ (λ (b : Bool) (x : Row). bytes (number_or (field_sum t (read w)) t [] (pick b (worked_row (read w)) (read w)) (worked_row x))) h read_nil

  pub worked_nest : {x : Worked} → x ≡ field_sum t (read w) → x ≡ None → field_bytes t (worked_bytes w) ≡ worked_field t w
  unfolding number_or bytes worked_bytes
  worked_nest {x} p e = sym (held ∙ ap (λ (z : Worked). bytes (number_or z t [] (worked_row (read w)) end)) (sym p ∙ e) ∙ append-nil (field_bytes t (bytes (worked_row (read w)))))

  pub worked_plus : {x : Worked} (n : ℕ) → x ≡ field_sum t (read w) → x ≡ Some (Plus n) → field_bytes 0x71 (number_bytes (whole n)) ≡ worked_field t w
  unfolding number_or bytes
  worked_plus {x} n p e =
      sym (held ∙ ap (λ (z : Worked). bytes (number_or z t [] (worked_row (read w)) end)) (sym p ∙ e) ∙ append-nil (field_bytes 0x71 (number_bytes (whole n) ++ []))
      ∙ ap (field_bytes 0x71) (append-nil (number_bytes (whole n))))

  pub worked_minus : {x : Worked} (n : ℕ) → x ≡ field_sum t (read w) → x ≡ Some (Minus n) → field_bytes 0x75 (number_bytes (whole n)) ≡ worked_field t w
  unfolding number_or bytes
  worked_minus {x} n p e =
      sym (held ∙ ap (λ (z : Worked). bytes (number_or z t [] (worked_row (read w)) end)) (sym p ∙ e) ∙ append-nil (field_bytes 0x75 (number_bytes (whole n) ++ []))
      ∙ ap (field_bytes 0x75) (append-nil (number_bytes (whole n))))
