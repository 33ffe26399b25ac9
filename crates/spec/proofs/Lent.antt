-- Demand 3, of the bytes of both outputs up to their written ends, of every accepted page and options. Main statements: `demand3`,
-- `templates_few`. Assumes nothing.
use Prim.Native.Nat.{ℕ, ◌*◌, ◌≤◌}
use mathlib.Core.Path.{◌≡◌, refl, sym, ap, ◌∙◌, subst}
use mathlib.Core.Bool.{not}
use native.Mathlib.Omega.{arith}
use lib.Dec.{T}
use lib.ListN.{length}
use Rattle.field.specs.Bytes.{Bytes, AllBytes}
use Rattle.field.specs.Row.{Row, read, long_body}
use Rattle.field.proofs.RowLaws.{read_back}
use Rattle.page.specs.Tree.{page_in, works_sums, options_in}
use Rattle.page.specs.Encode.{encode}
use Rattle.page.specs.Limits.{ModuleItemsOk}
use Rattle.page.proofs.Exact.{read_exactly}
use Rattle.spec.specs.Pass.{Done}
use Rattle.spec.specs.Transform.{transform, templates_row, page_out_row}
use Rattle.spec.specs.Answer.{Written, accepted, page_given, outcome}
use Rattle.spec.specs.Demand.{Demand3, Demand3Bytes}
use Rattle.spec.proofs.Weight.{page_weight}
use Rattle.spec.proofs.PageGood.{page_good}
use Rattle.spec.proofs.Closure.{Visited}
use Rattle.spec.proofs.Called.{counted}
use Rattle.spec.proofs.PageOut.{templates_shaped, page_shaped}
use Rattle.spec.proofs.Within.{weight_within}
use Rattle.spec.proofs.RowDemand.{row_demand3}
use Rattle.spec.proofs.Answers.{short_outputs, Accepted, accepted_says}
use Rattle.spec.proofs.Given.{given_ok, given_weight}

-- what becomes of a page and its options
abbrev pub made : (page options : Bytes) → Done Row
made page options = transform (options_in (read options)) (page_given page options)

abbrev pub made_page : (page options : Bytes) → Row
made_page page options = page_out_row (options_in (read options)) (made page options)

module _ (page options : Bytes) (scratch tr pr : ℕ) (w : Written) (all : AllBytes page) (e : outcome page options scratch tr pr ≡ accepted w) where
  pub says : Accepted page options scratch tr pr w
  says = accepted_says page options scratch tr pr w e

  pub exact : (page ≡ encode (page_in (read page))) × ModuleItemsOk (page_in (read page))
  exact = let q = (read_exactly page (page_in (read page)) all).0 (says.inputs.page_fine, refl) in (q.0, q.1)

  pub good : Visited (Unit {0}) (page_weight (page_given page options)) (made page options)
  unfolding page_given
  good = page_good (Unit {0}) (options_in (read options)) (page_given page options) (given_ok (works_sums (read options)) (page_in (read page)) exact.1) (λ t. tt)

  -- as many numbers as tags at most, and three bytes for each tag; working out sums gives and takes none
  pub taken_few : (made page options).taken * 3 ≤ length page
  unfolding page_given
  taken_few =
      let h : page_weight (page_in (read page)) * 3 ≤ length page = subst (λ (b : Bytes). page_weight (page_in (read page)) * 3 ≤ length b) (sym exact.0) (weight_within (page_in (read page))) in
      omega (arith, good.bound, given_weight (works_sums (read options)) (page_in (read page)))

  count_is : length (made page options).templates ≡ w.templates
  count_is = ap (λ (v : Written). v.templates) says.written_is

  pub short : T (not (long_body (templates_row (made page options).templates))) × T (not (long_body (made_page page options)))
  short = short_outputs (made page options).flags (templates_row (made page options).templates) (made_page page options) says.outputs.short

  -- both outputs read as the rows that are written
  pub templates_read : read w.templates_out ≡ templates_row (made page options).templates
  templates_read = ap (λ (v : Written). read v.templates_out) (sym says.written_is) ∙ read_back (templates_row (made page options).templates) (templates_shaped (made page options).templates short.0) short.0

  pub page_read : read w.page_out ≡ made_page page options
  page_read =
      ap (λ (v : Written). read v.page_out) (sym says.written_is)
      ∙ read_back (made_page page options) (page_shaped (options_in (read options)) (made page options) good.shaped) short.1

  few : w.templates * 3 ≤ length page
  few = omega (arith, count_is, taken_few, counted (options_in (read options)) (page_given page options))

  demanded : Demand3 (read w.templates_out) (read w.page_out) w.templates
  demanded =
      let l : (made page options).taken ≤ 65535 = omega (arith, taken_few, says.inputs.page_short) in
      let d = row_demand3 (Unit {0}) (options_in (read options)) (page_given page options) (page_weight (page_given page options)) good l says.outputs.none_left says.outputs.none_mixed short.0 in
      subst (λ (n : ℕ). Demand3 (read w.templates_out) (read w.page_out) n) count_is
      (subst (λ (x : Row). Demand3 (read w.templates_out) x (length (made page options).templates)) (sym page_read)
      (subst (λ (x : Row). Demand3 x (made_page page options) (length (made page options).templates)) (sym templates_read) d))

-- no more templates than a third of the page's bytes
pub templates_few : (page options : Bytes) (scratch templates_room page_room : ℕ) (w : Written) → AllBytes page → outcome page options scratch templates_room page_room ≡ accepted w → w.templates * 3 ≤ length page
templates_few page options scratch tr pr w all e = few page options scratch tr pr w all e

-- demand 3
pub demand3 : (page options : Bytes) (scratch templates_room page_room : ℕ) (w : Written) → AllBytes page → outcome page options scratch templates_room page_room ≡ accepted w →
    Demand3Bytes w.templates_out w.page_out w.templates
unfolding Demand3Bytes
demand3 page options scratch tr pr w all e = demanded page options scratch tr pr w all e
