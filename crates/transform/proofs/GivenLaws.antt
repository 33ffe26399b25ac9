-- The page that is given to the walks: as it came, or with its sums worked out. Both have a 01 in front, and the worked one is what the
-- buffer holds. Main statements: `ready_page`; of the buffer `ready_worked`, `written_worked`; `written_plain`, `written_given`. Assumes
-- nothing.
use Prim.Native.Nat.{ℕ, ◌≤◌}
use mathlib.Core.Path.{◌≡◌, refl, sym, ap, ◌∙◌, subst}
use mathlib.Core.Bool.{Bool, true, false}
use native.Mathlib.Omega.{arith}
use lib.Dec.{T, eqb}
use lib.ListN.{length, take}
use borrow.Author.Tests.{eqb-true}
use Rattle.field.specs.Bytes.{Bytes}
use Rattle.field.specs.Row.{Row, end, loose, field, read}
use Rattle.field.specs.Put.{Wrote}
use Rattle.page.specs.Page.{Page}
use Rattle.page.specs.Tree.{choose, page_in, works_sums}
use Rattle.page.specs.Check.{check_page}
use Rattle.refusal.specs.declared.Refusal.TheVariants as R
use Rattle.refusal.specs.Refusal.{Fine}
use Rattle.refusal.proofs.Verdicts.{refused, after_fine}
use Rattle.page.proofs.Headers.{header_fine}
use Rattle.worked.specs.Row.{field_sum, number_or, worked_row, worked_bytes}
use Rattle.worked.proofs.Exact.{worked_bound, read_worked, buffer_fits, buffer_part, buffer_bytes, buffer_worked}
use Rattle.spec.specs.Answer.{check_inputs, worked_if, page_given}
use Rattle.spec.proofs.Answers.{inputs_fine}
use Rattle.walk.specs.declared.state.Walk.{Walk}
use Rattle.walk.specs.See.{at}
use Rattle.transform.specs.Run.{transformed_page, fronted, Ready}

-- ---- a 01 in front

held : (b : Bool) → T b → b ≡ true
held true h = refl
held false h = absurd h

fine_fronted : (r : Row) → check_page r ≡ Fine → fronted r ≡ true
unfolding check_page
fine_fronted end e = refused R.Truncated e
fine_fronted (loose b) e = refused R.Truncated e
fine_fronted (field t f i r) e = held (eqb t 0x01) (header_fine (eqb t 0x01) 1 (after_fine _ _ e).0).0

-- it holds no sum
worked_fronted : (r : Row) → fronted r ≡ true → fronted (worked_row r) ≡ true
unfolding worked_row number_or field_sum choose
worked_fronted end e = e
worked_fronted (loose b) e = e
worked_fronted (field t f i r) e = ap (λ (u : ℕ). fronted (worked_row (field u f i r))) (eqb-true t 0x01 e)

-- ---- the page as it came

pub ready_page : (page options : Bytes) (n : ℕ) → check_inputs page options n ≡ Fine → Ready page options n × (length page ≤ 32768)
ready_page page options n fine =
    let i = inputs_fine page options n fine in (
      record {
        scratch_enough = i.scratch_enough;
        page_short = omega (arith, i.page_short);
        page_fronted = fine_fronted (read page) i.page_fine;
        options_short = i.options_short;
      },
      i.page_short,
    )

-- ---- the buffer: o before, o' and k after

module _ (page options : Bytes) (n : ℕ) (ready : Ready page options n) (short : length page ≤ 32768) {o o' : Bytes} {k : ℕ} (l : length o ≡ 51493) (u : Wrote o 0 (worked_bytes page) o' k) where
  room : 51492 ≤ length o
  room = omega (arith, l)

  pub held_fits : k ≤ length o'
  held_fits = buffer_fits page short room u

  pub held_part : k ≡ length (take k o')
  held_part = buffer_part page short room u

  held_bytes : take k o' ≡ worked_bytes page
  held_bytes = buffer_bytes page short room u

  pub ready_worked : Ready (take k o') options n
  ready_worked =
      let h : length (worked_bytes page) ≤ 65536 = omega (arith, worked_bound page short) in
      let f : read (take k o') ≡ worked_row (read page) = ap read held_bytes ∙ read_worked page short in
      record {
        scratch_enough = ready.scratch_enough;
        page_short = subst (λ (x : Bytes). length x ≤ 65536) (sym held_bytes) h;
        page_fronted = ap (λ (r : Row). fronted r) f ∙ worked_fronted (read page) ready.page_fronted;
        options_short = ready.options_short;
      }

  -- what is written of it is written of the worked page
  pub written_worked : (t g : Bytes) {t' g' : Bytes} {w : Walk} → at t' g' w ≡ transformed_page options (page_in (read (take k o'))) t g →
      at t' g' w ≡ transformed_page options (worked_if true (page_in (read page))) t g
  unfolding worked_if
  written_worked t g h = h ∙ ap (λ (x : Page). transformed_page options x t g) (buffer_worked page short room u)

-- ---- one or the other

pub written_plain : (page options : Bytes) {b : Bool} → b ≡ false → (t g : Bytes) {t' g' : Bytes} {w : Walk} → at t' g' w ≡ transformed_page options (page_in (read page)) t g →
    at t' g' w ≡ transformed_page options (worked_if b (page_in (read page))) t g
unfolding worked_if
written_plain page options e t g h = h ∙ ap (λ (c : Bool). transformed_page options (worked_if c (page_in (read page))) t g) (sym e)

-- by what the options were asked
pub written_given : (page options : Bytes) {b : Bool} → b ≡ works_sums (read options) → (c : Bool) → b ≡ c → (t g : Bytes) {t' g' : Bytes} {w : Walk} →
    at t' g' w ≡ transformed_page options (worked_if c (page_in (read page))) t g →
    at t' g' w ≡ transformed_page options (page_given page options) t g
unfolding page_given
written_given page options e c f t g h =
    h ∙ ap (λ (x : Bool). transformed_page options (worked_if x (page_in (read page))) t g) (sym f ∙ e)
