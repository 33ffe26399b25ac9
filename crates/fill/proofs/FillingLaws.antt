-- The filling at the front of an order's bytes: how the row reads there, and what the check and the index say of it. Main statements: `order_front`,
-- `text_front`, `this_fits`, `rest_fits`, `row_end`. Assumes nothing.
use mathlib.Core.Path.{◌≡◌, refl, sym, ap, ◌∙◌, subst}
use Prim.Native.Nat.{ℕ, suc}
use mathlib.Core.List.{List, [], ◌∷◌, ◌++◌}
use lib.Dec.{T, eqb}
use lib.ListN.{take, drop}
use borrow.Author.Tests.{ne_eqb}
use Rattle.std.specs.List.{All}
use Rattle.std.proofs.lemmas.List.Elements.{All-head, All-tail, All-nil, All-cons}
use Rattle.field.specs.Bytes.{Bytes}
use Rattle.field.specs.Number.{number_of}
use Rattle.field.specs.Row.{end, field, Inside, only_bytes, read}
use Rattle.field.specs.Fields.{IsFront, IsEnd}
use Rattle.loops.proofs.Headers.{front_of, inner_of}
use Rattle.page.specs.Check.{check_header, check_text, check_nothing_after}
use Rattle.page.specs.Tree.{choose}
use Rattle.page.proofs.Steps.{tested}
use Rattle.refusal.proofs.Verdicts.{after_fine}
use Rattle.page.proofs.Headers.{header_fine}
use Rattle.fill.specs.Order.{held_in_order, read_order, is_filling, check_fillings, asked}
use Rattle.fill.specs.CheckFilling.{check_body, check_filling}
use Rattle.fill.specs.Writing.{FillingsFit, OrderFits, FillingFits}
use Rattle.fill.proofs.OrderLaws.{row_is, fillings_step, nothing_after, fillings_end}
use Rattle.fill.proofs.AskedLaws.{nothing_left}
use Rattle.fill.proofs.Asked.{form_at, asked_order, asked_text, checked_behind, has_number, checked_within}

-- of the numbers of two rows
all_front : (P : ℕ → Type 0) (xs ys : List ℕ) → All P (xs ++ ys) → All P xs
all_front P [] ys a = All-nil P
all_front P (x ∷ xs) ys a = All-cons P x xs (All-head P x (xs ++ ys) a) (all_front P xs ys (All-tail P x (xs ++ ys) a))

all_back : (P : ℕ → Type 0) (xs ys : List ℕ) → All P (xs ++ ys) → All P ys
all_back P [] ys a = a
all_back P (x ∷ xs) ys a = all_back P xs ys (All-tail P x (xs ++ ys) a)

held_text : (t : ℕ) → (t ≡ 0x85 → ⊥) → held_in_order t ≡ only_bytes
unfolding held_in_order
held_text t n = rw (ne_eqb t 0x85 n)

module _ {s : Bytes} {t : ℕ} {w r : Bytes} (f : IsFront s t w r) where
  pub order_front : t ≡ 0x85 → read_order s ≡ field 0x85 (take 4 w) (read_order (drop 4 w)) (read_order r)
  order_front e = form_at f e

  pub text_front : (t ≡ 0x85 → ⊥) → read_order s ≡ field t w end (read_order r)
  text_front n = row_is f ∙ ap (λ (h : Inside). field t (front_of h w) (inner_of held_in_order h w) (read_order r)) (held_text t n)

  module _ {found : ℕ → Type 0} (g : FillingsFit found s) where
    header : T (is_filling t)
    unfolding check_filling
    header =
        let d : ℕ = g.checked.depth in
        let a = after_fine (check_filling d t w) (λ _. check_fillings d (read_order r)) (sym (fillings_step d f).then_is ∙ g.checked.fine) in
        (header_fine (is_filling t) d (after_fine (check_header (is_filling t) d) (λ _. choose (eqb t 0x85) (λ _. check_body (suc d) w) λ _. check_text w) a.0).0).0

    module _ (e : t ≡ 0x85) where
      abbrev within : List ℕ
      within = asked (read_order (drop 4 w))

      abbrev behind : List ℕ
      behind = asked (read_order r)

      numbers : All found (number_of (take 4 w) ∷ (within ++ behind))
      numbers = subst (All found) (asked_order f e) g.all_found

      both : All found (within ++ behind)
      both = All-tail found (number_of (take 4 w)) (within ++ behind) numbers

      order_fits : OrderFits found w
      order_fits =
          record {
            long_enough = has_number f g.checked e;
            number_found = All-head found (number_of (take 4 w)) (within ++ behind) numbers;
            within = record { checked = checked_within f g.checked e refl; all_found = all_front found within behind both };
          }

      order_rest : All found behind
      order_rest = all_back found within behind both

    pub this_fits : FillingFits found t w
    this_fits = record { tag_is = header; if_order = order_fits }

    pub rest_fits : FillingsFit found r
    rest_fits = record { checked = checked_behind f g.checked; all_found = tested t 0x85 order_rest (λ n. subst (All found) (asked_text f n) g.all_found) }

-- behind the last nothing is loose
pub row_end : {found : ℕ → Type 0} {s r : Bytes} → FillingsFit found s → IsEnd s r → read_order s ≡ end
row_end {found} {s} {r} g e =
    nothing_left (read_order s)
    (sym (nothing_after s) ∙ ap (λ (x : Bytes). check_nothing_after (read x)) (sym e.stays) ∙ fillings_end g.checked.depth e ∙ g.checked.fine)
