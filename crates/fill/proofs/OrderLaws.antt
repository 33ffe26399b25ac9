-- What the code that checks an order learns at a field in front, and where none stands. Main statements: `row_is`, `fillings_step`,
-- `fillings_end`, `order_step`, `order_end`, `body_short`, `body_then`, `filling_body`, `filling_text`. Assumes nothing.
use mathlib.Core.Path.{◌≡◌, refl, sym, ap, ◌∙◌, subst}
use mathlib.Core.Bool.{Bool}
use Prim.Native.Nat.{ℕ, suc, ◌+◌, ◌-◌, ◌≤◌, ◌<◌}
use native.Mathlib.Omega.{arith}
use native.Mathlib.Numerals.{add-one}
use mathlib.Core.List.{[], ◌∷◌}
use lib.Dec.{eqb, leb}
use lib.ListN.{length, take, drop, length-drop}
use lib.Seq.{take_all}
use borrow.Author.Tests.{ne_eqb, le-leb, lt-leb}
use Rattle.field.specs.Bytes.{Bytes}
use Rattle.field.specs.Row.{Row, end, loose, field, Inside, only_bytes, fields_after, counted, read, read_by, inside, Ended, Next, nothing, no_field, next, next_of, opened, built_by}
use Rattle.field.specs.Fields.{IsFront, IsEnd}
use Rattle.field.proofs.Reading.{step}
use Rattle.field.proofs.FrontLaws.{next_at}
use Rattle.loops.proofs.Headers.{front_of, inner_of}
use Rattle.refusal.specs.Refusal.{Verdict, Fine, Refused, after, unless}
use Rattle.page.specs.Tree.{choose}
use Rattle.page.specs.Check.{check_header, check_text, check_nothing_after}
use Rattle.refusal.specs.declared.Refusal.TheVariants as R
use Rattle.page.proofs.Steps.{Then, one_field, tested}
use Rattle.fill.specs.Order.{held_in_order, read_order, is_filling, check_fillings, check_order}
use Rattle.fill.specs.CheckFilling.{check_body, check_filling}

-- ---- a field in front, by its tag and its body

module _ {s : Bytes} {t : ℕ} {w r : Bytes} (f : IsFront s t w r) where
  next_is : next_of s ≡ next t w r
  next_is = next_at s t f.tag_is (λ z. omega (arith, f.tag_below)) ∙ rw (f.body_is, f.behind_is) refl

  pub row_is : read_order s ≡ field t (front_of (held_in_order t) w) (inner_of held_in_order (held_in_order t) w) (read_order r)
  unfolding read_order opened
  row_is = step held_in_order s ∙ ap (built_by held_in_order (read_by held_in_order) s) next_is ∙ on (held_in_order t)
    where
      on : (k : Inside) → opened k (read_by held_in_order) t w r ≡ field t (front_of k w) (inner_of held_in_order k w) (read_order r)
      on only_bytes = refl
      on (fields_after n) = refl
      on (counted n) = refl

-- of a body of four bytes or more its number has four
number_whole : (w : Bytes) → leb 4 (length (take 4 w)) ≡ leb 4 (length w)
number_whole [] = refl
number_whole (a ∷ []) = refl
number_whole (a ∷ b ∷ []) = refl
number_whole (a ∷ b ∷ c ∷ []) = refl
number_whole (a ∷ b ∷ c ∷ d ∷ w) = sym (le-leb 4 (length (a ∷ b ∷ c ∷ d ∷ w)) (omega arith))

in_row : (a b c : Verdict) → after a (λ _. after b λ _. c) ≡ after (after a λ _. b) λ _. c
unfolding after
in_row Fine b c = refl
in_row (Refused n) b c = refl

-- what a field holds, in the row and by its bytes
row_check : ℕ → ℕ → Bytes → Row → Verdict
row_check d t f i = choose (eqb t 0x85) (λ _. after (unless (leb 4 (length f)) R.Misplaced) λ _. check_fillings d i) λ _. check_text f

module _ (d t : ℕ) (w : Bytes) where
  same_check : row_check d t (front_of (held_in_order t) w) (inner_of held_in_order (held_in_order t) w) ≡ choose (eqb t 0x85) (λ _. check_body d w) λ _. check_text w
  unfolding row_check held_in_order choose check_body read_order
  same_check = tested t 0x85 (λ k. rw k (rw (number_whole w) refl)) (λ n. rw (ne_eqb t 0x85 n) refl)

module _ (d : ℕ) {s : Bytes} {t : ℕ} {w r : Bytes} (f : IsFront s t w r) where
  pub fillings_step : Then (check_fillings d (read_order s)) (check_filling d t w) (check_fillings d (read_order r))
  unfolding check_fillings check_filling row_check
  fillings_step = record { then_is = ap (check_fillings d) (row_is f) ∙ one_field (is_filling t) d _ _ _ (λ z. same_check (suc d) t w) }

-- ---- the end of a row is one, however a tag's body is read

module _ {A : Type 0} (v u : Row → A) (e : v end ≡ u end) (l : (b : Bytes) → v (loose b) ≡ u (loose b)) where
  pub row_end : {s r : Bytes} → IsEnd s r → v (read r) ≡ u (read_order s)
  unfolding read read_order opened
  row_end {s} {r} g = ap (λ (x : Bytes). v (read x)) g.stays ∙ ap v (step inside s) ∙ on (next_of s) (subst Ended (step inside s) g.ended) ∙ sym (ap u (step held_in_order s))
    where
      never : (k : Inside) (t : ℕ) (w r : Bytes) → Ended (opened k (read_by inside) t w r) → ⊥
      never only_bytes t w r i = i
      never (fields_after n) t w r i = i
      never (counted n) t w r i = i

      on : (n : Next) → Ended (built_by inside (read_by inside) s n) → v (built_by inside (read_by inside) s n) ≡ u (built_by held_in_order (read_by held_in_order) s n)
      on nothing i = e
      on no_field i = l s
      on (next t w r) i = absurd (never (inside t) t w r i)

pub nothing_after : (s : Bytes) → check_nothing_after (read s) ≡ check_nothing_after (read_order s)
unfolding read read_order opened check_nothing_after
nothing_after s = ap check_nothing_after (step inside s) ∙ on (next_of s) ∙ sym (ap check_nothing_after (step held_in_order s))
  where
    torn : (held : ℕ → Inside) (k : Inside) (t : ℕ) (w r : Bytes) → check_nothing_after (opened k (read_by held) t w r) ≡ Refused R.Truncated
    torn held only_bytes t w r = refl
    torn held (fields_after n) t w r = refl
    torn held (counted n) t w r = refl

    on : (n : Next) → check_nothing_after (built_by inside (read_by inside) s n) ≡ check_nothing_after (built_by held_in_order (read_by held_in_order) s n)
    on nothing = refl
    on no_field = refl
    on (next t w r) = torn inside (inside t) t w r ∙ sym (torn held_in_order (held_in_order t) t w r)

module _ (d : ℕ) {s r : Bytes} (g : IsEnd s r) where
  pub fillings_end : check_nothing_after (read r) ≡ check_fillings d (read_order s)
  unfolding check_nothing_after check_fillings
  fillings_end = row_end check_nothing_after (check_fillings d) refl (λ b. refl) g

-- ---- one body

module _ (d : ℕ) (w : Bytes) where
  pub body_short : length w < 4 → Refused R.Misplaced ≡ check_body d w
  unfolding check_body after
  body_short l = rw (lt-leb 4 (length w) l) refl

  -- as the code cuts it
  pub body_then : 4 ≤ length w → {x : Verdict} → x ≡ check_fillings d (read_order (take (length w - 4) (drop 4 w))) → x ≡ check_body d w
  unfolding check_body after
  body_then l e = e ∙ ap (λ (b : Bytes). check_fillings d (read_order b)) (take_all (length w - 4) (drop 4 w) (omega (arith, length-drop 4 w))) ∙ rw (le-leb 4 (length w) l) refl

  module _ (t : ℕ) {ok : Bool} (o : ok ≡ is_filling t) where
    pub filling_body : t ≡ 0x85 → Then (check_filling d t w) (check_header ok d) (check_body (d + 1) w)
    unfolding check_filling choose
    filling_body k = record { then_is = rw (o, k, add-one d) refl }

    pub filling_text : (t ≡ 0x85 → ⊥) → Then (check_filling d t w) (check_header ok d) (check_text w)
    unfolding check_filling choose
    filling_text n = record { then_is = rw (o, ne_eqb t 0x85 n) refl }

    -- the header alone
    pub filling_header : Then (check_filling d t w) (check_header ok d) (choose (eqb t 0x85) (λ _. check_body (suc d) w) λ _. check_text w)
    unfolding check_filling
    filling_header = record { then_is = rw o refl }

-- ---- the whole order

module _ {s : Bytes} {t : ℕ} {w r : Bytes} (f : IsFront s t w r) where
  pub order_step : Then (check_order (read_order s)) (unless (eqb t 0x85) R.Misplaced) (after (check_body 2 w) λ _. check_nothing_after (read r))
  unfolding check_order check_header held_in_order check_body read_order after
  order_step =
      record {
        then_is = ap check_order (row_is f) ∙ tested t 0x85 (λ k. rw (k, number_whole w) (in_row (unless (leb 4 (length w)) R.Misplaced) (check_fillings 2 (read_order (drop 4 w))) (check_nothing_after (read_order r)) ∙ ap (λ (x : Verdict). after (check_body 2 w) λ _. x) (sym (nothing_after r)))) (λ n. rw (ne_eqb t 0x85 n) refl);
      }

module _ {s r : Bytes} (g : IsEnd s r) where
  pub order_end : Refused R.Truncated ≡ check_order (read_order s)
  unfolding check_order
  order_end = row_end (λ x. Refused R.Truncated) check_order refl (λ b. refl) g
