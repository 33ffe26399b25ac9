-- What is due, put in afterwards: what `put_heads` leaves at each return, and that it is the transform's row of page out.
-- Main statements: `heads_both`, `heads_import`, `heads_none`, `headed_row`. Assumes nothing.
use Prim.Native.Nat.{ℕ, ◌+◌, ◌-◌, ◌≤◌, ◌<◌}
use native.Mathlib.Omega.{arith}
use mathlib.Core.Path.{◌≡◌, refl, sym, ap, ap₂, ◌∙◌}
use mathlib.Core.Bool.{Bool}
use mathlib.Core.List.{List, [], ◌∷◌, ◌++◌}
use lib.Dec.{eqb}
use lib.ListN.{length, take, drop, length-append}
use borrow.Author.Tests.{lt-ltb, le-ltb, eq-eqb, ne_eqb}
use Rattle.field.specs.Bytes.{Bytes, ascii, pick}
use Rattle.field.specs.Row.{Row, bytes}
use Rattle.field.specs.Put.{put, head, Wrote}
use Rattle.field.proofs.PutLaws.{length_head}
use Rattle.spec.specs.Pass.{Template}
use Rattle.spec.specs.Transform.{helper_sum, with_import, with_templates}
use Rattle.spec.proofs.PageOut.{import_row}
use Rattle.decisions.proofs.Series.{tested}
use Rattle.walk.specs.declared.state.Walk.{Walk}
use Rattle.walk.specs.See.{to_page}
use Rattle.transform.specs.Run.{sum_of, import_bytes, headed, Headed}
use Rattle.transform.proofs.RunLaws.{import_length, import_first}
use Rattle.transform.proofs.CutLaws.{Cut}
use Rattle.transform.proofs.MoveLaws.{both_in, import_in}

module _ (source : Bytes) (w : Walk) where
  abbrev import : Bytes
  import = import_bytes source (sum_of w)

  -- ---- what is due

  module _ (a b : Bytes) where
    both_due : 1 < w.later → headed source w a b ≡ import ++ (a ++ (head 0x83 0 ++ b))
    unfolding headed
    both_due h = ap (λ (c : Bool). pick c (import ++ (a ++ (head 0x83 0 ++ b))) (pick (eqb (sum_of w) 0) (a ++ b) (import ++ (a ++ b)))) (lt-ltb 1 w.later h)

    no_place : w.later ≤ 1 → headed source w a b ≡ pick (eqb (sum_of w) 0) (a ++ b) (import ++ (a ++ b))
    unfolding headed
    no_place h = ap (λ (c : Bool). pick c (import ++ (a ++ (head 0x83 0 ++ b))) (pick (eqb (sum_of w) 0) (a ++ b) (import ++ (a ++ b)))) (le-ltb 1 w.later h)

    import_due : w.later ≤ 1 → (sum_of w ≡ 0 → ⊥) → headed source w a b ≡ import ++ (a ++ b)
    import_due h n = no_place h ∙ ap (λ (c : Bool). pick c (a ++ b) (import ++ (a ++ b))) (ne_eqb (sum_of w) 0 n)

    none_due : w.later ≤ 1 → sum_of w ≡ 0 → headed source w a b ≡ a ++ b
    none_due h e = no_place h ∙ ap (λ (c : Bool). pick c (a ++ b) (import ++ (a ++ b))) (eq-eqb (sum_of w) 0 e)

  -- ---- the returns: a up to p and then b stand in x, n is the import's length and s the sum

  module _ {x : Bytes} {p : ℕ} (o a b : Bytes) (g : x ≡ put o 0 (a ++ b)) (k : p ≡ length a) (l : w.page ≡ length a + length b) where
    module _ {n s : ℕ} (c : n ≡ 19 + length source) (e : s ≡ sum_of w) where
      import_size : n ≡ length import
      import_size = c ∙ sym (import_length source (sum_of w))

      import_put : {y z : Bytes} {j : ℕ} → Wrote y 0 (import_bytes source s) z j → z ≡ put y 0 import
      import_put {y} v = v.out_is ∙ ap (λ (m : ℕ). put y 0 (import_bytes source m)) e

      pub heads_both : 1 < w.later → {x₁ x₂ x₃ x₄ : Bytes} {i j : ℕ} → x₁ ≡ put x (p + (n + 3)) (take (w.page - p) (drop p x)) → Wrote x₁ (p + n) (head 0x83 0) x₂ i →
          x₃ ≡ put x₂ (0 + n) (take (p - 0) (drop 0 x₂)) → Wrote x₃ 0 (import_bytes source s) x₄ j → {r : Walk} → r ≡ to_page (w.page + n + 3) w → Headed source w o a b x₄ r
      heads_both h e₁ e₂ e₃ e₄ d =
          let m : n + 3 ≡ n + length (head 0x83 0) = omega (arith, length_head 0x83 0) in
          let z = both_due a b h in
          let size : w.page + n + 3 ≡ length (headed source w a b) =
          omega (arith, ap length z, length-append import (a ++ (head 0x83 0 ++ b)), length-append a (head 0x83 0 ++ b), length-append (head 0x83 0) b, length_head 0x83 0, import_size) in
          record {
            page_is = both_in o a b import import_size g (head 0x83 0) k l m e₁ e₂.out_is e₃ (import_put e₄) ∙ ap (put o 0) (sym z);
            state_is = d ∙ ap (λ (q : ℕ). to_page q w) size;
          }

      pub heads_import : w.later ≤ 1 → (s ≡ 0 → ⊥) → {x₁ x₂ : Bytes} {j : ℕ} → x₁ ≡ put x (0 + n) (take (w.page - 0) (drop 0 x)) → Wrote x₁ 0 (import_bytes source s) x₂ j → {r : Walk} → r ≡ to_page (w.page + n) w → Headed source w o a b x₂ r
      heads_import h v e₁ e₂ d =
          let z = import_due a b h (λ q. v (e ∙ q)) in
          let size : w.page + n ≡ length (headed source w a b) = omega (arith, ap length z, length-append import (a ++ b), length-append a b, import_size) in
          record { page_is = import_in o a b import import_size g l e₁ (import_put e₂) ∙ ap (put o 0) (sym z); state_is = d ∙ ap (λ (q : ℕ). to_page q w) size }

    pub heads_none : w.later ≤ 1 → {s : ℕ} → s ≡ sum_of w → s ≡ 0 → Headed source w o a b x w
    heads_none h e v =
        let z = none_due a b h (sym e ∙ v) in
        let size : w.page ≡ length (headed source w a b) = omega (arith, ap length z, length-append a b) in
        record { page_is = g ∙ ap (put o 0) (sym z); state_is = ap (λ (q : ℕ). to_page q w) size }

-- ---- the row of page out

no_import : (source : Bytes) (sum : ℕ) (r : Row) → sum ≡ 0 → with_import source sum r ≡ r
unfolding with_import
no_import source sum r e = ap (λ (c : Bool). pick c r (import_row (source ++ ascii "/jsx-runtime") sum r)) (eq-eqb sum 0 e)

-- the state says what is due
pub headed_row : (source : Bytes) (w : Walk) (ts : List Template) (v : Row) (a b : Bytes) → w.later ≡ 1 + length ts → sum_of w ≡ helper_sum v → (1 ≤ length ts → 1 ≤ helper_sum v) → Cut ts v a b →
    headed source w a b ≡ bytes (with_import source (helper_sum v) (with_templates ts v))
headed_row source w (t ∷ ts) v a b l e called c =
    let some : 1 ≤ helper_sum v = called (omega arith) in
    both_due source w a b (omega arith)
    ∙ ap₂ (λ (n : ℕ) (x : Bytes). import_bytes source n ++ x) e (sym (c.placed (omega arith)))
    ∙ sym (import_first source (helper_sum v) (with_templates (t ∷ ts) v) (ne_eqb (helper_sum v) 0 λ z. omega (arith, z, some)))
headed_row source w [] v a b l e called c =
    let none : with_templates [] v ≡ v = unfold with_templates in refl in
    let low : w.later ≤ 1 = omega arith in
    tested (helper_sum v) 0
    (λ z. none_due source w a b low (e ∙ z) ∙ sym c.whole ∙ ap bytes (sym (no_import source (helper_sum v) (with_templates [] v) z ∙ none)))
    λ n.
    import_due source w a b low (λ q. n (sym e ∙ q))
    ∙ ap₂ (λ (m : ℕ) (x : Bytes). import_bytes source m ++ x) e (sym (ap bytes none ∙ c.whole))
    ∙ sym (import_first source (helper_sum v) (with_templates [] v) (ne_eqb (helper_sum v) 0 n))
