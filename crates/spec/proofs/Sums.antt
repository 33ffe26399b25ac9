-- 02, A12, of the whole answer: without a 05 the page is transformed as it came; with it the worked page is, and the answer is the one to
-- the worked page's own bytes where these are short enough for a page. Main statements: `without_sums`, `with_sums`, `worked_answer`.
-- Assumes nothing.
use Prim.Native.Nat.{ℕ, ◌≤◌}
use mathlib.Core.Path.{◌≡◌, refl, sym, ap, ap₂, ◌∙◌, subst}
use mathlib.Core.Bool.{Bool, true, false}
use lib.Dec.{le→leb}
use lib.ListN.{length}
use Rattle.field.specs.Bytes.{Bytes, AllBytes}
use Rattle.field.specs.Row.{read}
use Rattle.page.specs.Page.{Options, Page}
use Rattle.page.specs.Tree.{page_in, works_sums, options_in}
use Rattle.page.specs.Check.{check_page}
use Rattle.page.specs.Encode.{encode}
use Rattle.page.specs.Limits.{WithinLimits}
use Rattle.refusal.specs.Refusal.{Verdict, Fine}
use Rattle.page.proofs.Exact.{page_read, read_exactly}
use Rattle.worked.specs.Worked.{worked}
use Rattle.worked.specs.Row.{worked_bytes}
use Rattle.worked.proofs.Limits.{worked_ok}
use Rattle.worked.proofs.Exact.{bytes_worked}
use Rattle.worked.proofs.Encoded.{accepted_worked}
use Rattle.spec.specs.Transform.{transform}
use Rattle.spec.specs.Answer.{Outcome, decided, transformed, check_inputs, worked_if, page_given, outcome}
use Rattle.spec.proofs.Answers.{Inputs, inputs_fine, fine_inputs}

-- what becomes of a page, once the inputs are checked
abbrev pub answer_to : Options → Page → (templates_room page_room : ℕ) → Outcome
answer_to o p tr pr = transformed tr pr o (transform o p)

module _ (page options : Bytes) where
  given_without : works_sums (read options) ≡ false → page_given page options ≡ page_in (read page)
  unfolding page_given worked_if
  given_without e = ap (λ (b : Bool). worked_if b (page_in (read page))) e

  given_with : works_sums (read options) ≡ true → page_given page options ≡ worked (page_in (read page))
  unfolding page_given worked_if
  given_with e = ap (λ (b : Bool). worked_if b (page_in (read page))) e

module _ (page options : Bytes) (scratch tr pr : ℕ) where
  -- without a 05 nothing changes
  pub without_sums : works_sums (read options) ≡ false →
      outcome page options scratch tr pr ≡ decided (check_inputs page options scratch) λ _. answer_to (options_in (read options)) (page_in (read page)) tr pr
  unfolding outcome
  without_sums e = ap (λ (p : Page). decided (check_inputs page options scratch) λ _. answer_to (options_in (read options)) p tr pr) (given_without page options e)

  -- with it the page as it came is checked, and the worked page transformed
  pub with_sums : works_sums (read options) ≡ true →
      outcome page options scratch tr pr ≡ decided (check_inputs page options scratch) λ _. answer_to (options_in (read options)) (worked (page_in (read page))) tr pr
  unfolding outcome
  with_sums e = ap (λ (p : Page). decided (check_inputs page options scratch) λ _. answer_to (options_in (read options)) p tr pr) (given_with page options e)

-- the worked page's own bytes are a page that is taken, where they are short enough
module _ (page : Bytes) (all : AllBytes page) (fine : check_page (read page) ≡ Fine) (within : length (worked_bytes page) ≤ 32768) where
  pub worked_fine : check_page (read (worked_bytes page)) ≡ Fine
  unfolding WithinLimits
  worked_fine =
      let p : Page = page_in (read page) in
      let e : worked_bytes page ≡ encode (worked p) = accepted_worked page all fine in
      let h : WithinLimits (worked p) = (worked_ok p ((read_exactly page p all).0 (fine, refl)).1, le→leb (length (encode (worked p))) 32768 (subst (λ (x : Bytes). length x ≤ 32768) e within)) in
      ap (λ (x : Bytes). check_page (read x)) e ∙ (page_read (worked p) h).0

-- a page with 05 is answered as its worked page is under the same options without it
pub worked_answer : (page options plain : Bytes) (scratch tr pr : ℕ) → AllBytes page → check_inputs page options scratch ≡ Fine → works_sums (read options) ≡ true → length (worked_bytes page) ≤ 32768 →
    check_inputs page plain scratch ≡ Fine → works_sums (read plain) ≡ false → options_in (read plain) ≡ options_in (read options) →
    outcome page options scratch tr pr ≡ outcome (worked_bytes page) plain scratch tr pr
unfolding decided
worked_answer page options plain scratch tr pr all fine asks within fine' none same =
    let i = inputs_fine page options scratch fine in
    let j = inputs_fine page plain scratch fine' in
    let k : Inputs (worked_bytes page) plain scratch =
    record { scratch_enough = i.scratch_enough; page_short = within; options_short = j.options_short; options_fine = j.options_fine; page_fine = worked_fine page all i.page_fine within } in
    let o : Options = options_in (read options) in
    let left : outcome page options scratch tr pr ≡ answer_to o (worked (page_in (read page))) tr pr =
    with_sums page options scratch tr pr asks ∙ ap (λ (v : Verdict). decided v λ _. answer_to o (worked (page_in (read page))) tr pr) fine in
    let right : outcome (worked_bytes page) plain scratch tr pr ≡ answer_to (options_in (read plain)) (page_in (read (worked_bytes page))) tr pr =
    without_sums (worked_bytes page) plain scratch tr pr none
    ∙ ap (λ (v : Verdict). decided v λ _. answer_to (options_in (read plain)) (page_in (read (worked_bytes page))) tr pr) (fine_inputs (worked_bytes page) plain scratch k) in
    left ∙ sym (right ∙ ap₂ (λ (u : Options) (p : Page). answer_to u p tr pr) same (bytes_worked page i.page_short))
