-- How long a page out is with the numbers of its calls in another width. Main statement: `page_room`. Assumes nothing.
use mathlib.Core.Path.{◌≡◌, refl, sym, ap, ◌∙◌, subst}
use mathlib.Core.Bool.{Bool, true, false}
use Prim.Native.Nat.{ℕ, ◌+◌, ◌*◌, ◌≤◌, ◌<◌, ◌^◌}
use native.Mathlib.Omega.{arith}
use mathlib.Core.List.{[]}
use lib.Dec.{eqb}
use lib.ListN.{length}
use borrow.Author.Tests.{eqb-true}
use Rattle.field.specs.Bytes.{Bytes, AllBytes, pick}
use Rattle.field.specs.Number.{big_endian, number_of}
use Rattle.field.specs.Row.{Row, end, loose, field, bytes, Inside, only_bytes, fields_after}
use Rattle.field.proofs.NumberLaws.{length_big_endian}
use Rattle.field.proofs.Reading.{FrontFits, ShapedBy, shaped, written, length_bytes}
use Rattle.refusal.specs.Refusal.{Verdict, Fine, after, unless}
use Rattle.page.specs.Tree.{choose}
use Rattle.refusal.specs.declared.Refusal.TheVariants as R
use Rattle.refusal.proofs.Verdicts.{after_fine, unless_true}
use Rattle.outs.specs.Held.{nests, held, read_out}
use Rattle.outs.specs.PageOut.{allowed, left, within, front_right, check_leaf, good, check_page_out}
use Rattle.outs.specs.Renumber.{renumbered_front, renumbered}
use Rattle.outs.specs.declared.Expect.{Expect}
use Rattle.outs.specs.declared.Expect.TheVariants as E
use Rattle.convert.proofs.RecordLaws.{text_by}

-- a leaf holds no field
pub leaf_held : (from t : ℕ) → nests t ≡ false → held from t ≡ only_bytes
unfolding held
leaf_held from t h = on (eqb t 0x90) refl
  where
    on : (b : Bool) → eqb t 0x90 ≡ b → pick (eqb t 0x90) (fields_after from) (pick (nests t) (fields_after 0) only_bytes) ≡ only_bytes
    on true q = absurd (let z : nests t ≡ true = ap nests (eqb-true t 0x90 q) in let k : ◌≡◌ {A = Bool} true false = sym z ∙ h in let j : ◌≡◌ {A = ℕ} 0 1 = cc in omega arith)
    on false q = rw (q, h)

pub leaf_alone : (from t : ℕ) (f : Bytes) (i : Row) → nests t ≡ false → FrontFits (held from t) f i → i ≡ end
leaf_alone from t f i h s = text_by f i (subst (λ (c : Inside). FrontFits c f i) (leaf_held from t h) s)

-- what is fine of a field
module _ (from : ℕ) (c : Expect) (t : ℕ) (f : Bytes) (i r : Row) (h : good from c (field t f i r) ≡ Fine) where
  inside_fine : choose (nests t) (λ _. after (unless (front_right from t f) R.Misplaced) λ _. good from (within t) i) (λ _. check_leaf t f) ≡ Fine
  unfolding good
  inside_fine =
      let body : Verdict = choose (nests t) (λ _. after (unless (front_right from t f) R.Misplaced) λ _. good from (within t) i) (λ _. check_leaf t f) in
      let a = after_fine (unless (allowed c t) R.Misplaced) (λ _. after body λ _. good from (left c t) r) h in
      (after_fine body (λ _. good from (left c t) r) a.1).0

  pub rest_fine : good from (left c t) r ≡ Fine
  unfolding good
  rest_fine =
      let body : Verdict = choose (nests t) (λ _. after (unless (front_right from t f) R.Misplaced) λ _. good from (within t) i) (λ _. check_leaf t f) in
      let a = after_fine (unless (allowed c t) R.Misplaced) (λ _. after body λ _. good from (left c t) r) h in
      (after_fine body (λ _. good from (left c t) r) a.1).1

  pub nest_fine : nests t ≡ true → (front_right from t f ≡ true) × (good from (within t) i ≡ Fine)
  unfolding choose
  nest_fine q =
      let a : after (unless (front_right from t f) R.Misplaced) (λ _. good from (within t) i) ≡ Fine = subst (λ (b : Bool). choose b (λ _. after (unless (front_right from t f) R.Misplaced) λ _. good from (within t) i) (λ _. check_leaf t f) ≡ Fine) q inside_fine in
      let b = after_fine (unless (front_right from t f) R.Misplaced) (λ _. good from (within t) i) a in
      (unless_true (front_right from t f) R.Misplaced b.0, b.1)

-- the number of a call has its width; every other front stays
front_grows : (from to t : ℕ) (f : Bytes) → to ≤ 4 → 2 ≤ from → (b : Bool) → eqb t 0x90 ≡ b → front_right from t f ≡ true → 3 + length (renumbered_front to t f) ≤ 2 * (3 + length f)
front_grows from to t f h l true q g =
    let e : length f ≡ from = eqb-true (length f) from (subst (λ (b : Bool). pick b (eqb (length f) from) true ≡ true) q g) in
    let k : length (renumbered_front to t f) ≡ to + 0 = ap (λ (b : Bool). length (pick b (big_endian to (number_of f) []) f)) q ∙ length_big_endian to (number_of f) [] in
    omega arith
front_grows from to t f h l false q g =
    let k : length (renumbered_front to t f) ≡ length f = ap (λ (b : Bool). length (pick b (big_endian to (number_of f) []) f)) q in
    omega arith

pub leaf_grows : (to t : ℕ) (f : Bytes) → nests t ≡ false → renumbered_front to t f ≡ f
leaf_grows to t f h = on (eqb t 0x90) refl
  where
    on : (b : Bool) → eqb t 0x90 ≡ b → pick (eqb t 0x90) (big_endian to (number_of f) []) f ≡ f
    on true q = absurd (let z : nests t ≡ true = ap nests (eqb-true t 0x90 q) in let k : ◌≡◌ {A = Bool} true false = sym z ∙ h in let j : ◌≡◌ {A = ℕ} 0 1 = cc in omega arith)
    on false q = rw q

field_grows : (from to t : ℕ) (f : Bytes) (i r : Row) (c : Expect) → to ≤ 4 → 2 ≤ from → FrontFits (held from t) f i → good from c (field t f i r) ≡ Fine → (good from (within t) i ≡ Fine → length (bytes (renumbered to i)) ≤ 2 * length (bytes i)) → (b : Bool) → nests t ≡ b →
    3 + length (renumbered_front to t f) + length (bytes (renumbered to i)) ≤ 2 * (3 + length f + length (bytes i))
field_grows from to t f i r c h l s g ih true q =
    let p = nest_fine from c t f i r g q in
    omega (arith, front_grows from to t f h l (eqb t 0x90) refl p.0, ih p.1)
field_grows from to t f i r c h l s g ih false q =
    let e : i ≡ end = leaf_alone from t f i q s in
    let k : length (renumbered_front to t f) ≡ length f = ap length (leaf_grows to t f q) in
    let m : length (bytes (renumbered to i)) ≡ 0 = ap (λ (x : Row). length (bytes (renumbered to x))) e ∙ nothing_left in
    omega arith
  where
    nothing_left : length (bytes (renumbered to end)) ≡ 0
    nothing_left = unfold renumbered bytes in refl

grows : (from to : ℕ) → to ≤ 4 → 2 ≤ from → (c : Expect) (x : Row) → ShapedBy (held from) x → good from c x ≡ Fine → length (bytes (renumbered to x)) ≤ 2 * length (bytes x)
unfolding renumbered
grows from to h l c end s g = omega arith
grows from to h l c (loose b) s g = omega arith
grows from to h l c (field t f i r) s g =
    let a = field_grows from to t f i r c h l s.0 g (λ z. grows from to h l (within t) i s.1 z) (nests t) refl in
    let b = grows from to h l (left c t) r s.2 (rest_fine from c t f i r g) in
    omega (arith, length_bytes t f i r, length_bytes t (renumbered_front to t f) (renumbered to i) (renumbered to r))

pub page_room : (from to : ℕ) → to ≤ 4 → 2 ≤ from → (p : Bytes) → AllBytes p → check_page_out from p ≡ Fine → length p < 2 ^ 63 → length (bytes (renumbered to (read_out from p))) < 2 ^ 64
unfolding check_page_out read_out
page_room from to h l p a g low = omega (arith, grows from to h l E.Whole (read_out from p) (shaped (held from) p) g, ap length (written (held from) p a))
