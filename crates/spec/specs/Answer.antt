-- The whole answer at every input: the number, the counts, and every byte of what is lent. Assumes nothing: these are definitions.
use Rattle.std.specs.Prelude.{ℕ, ◌≡◌, Bool, true, false, ◌&&◌, ◌||◌, not, leb, length, replicate}
use Rattle.field.specs.Bytes.{Bytes}
use Rattle.field.specs.Row.{Row, read, bytes, long_body}
use Rattle.field.specs.Put.{put}
use Rattle.page.specs.Page.{Options, Page}
use Rattle.page.specs.Tree.{page_in, works_sums, options_in}
use Rattle.page.specs.Check.{check_page, check_options}
use Rattle.refusal.specs.Refusal.{Verdict, Fine, Refused, refusal_number, unless, after}
use Rattle.refusal.specs.declared.Refusal.{Refusal}
use Rattle.refusal.specs.declared.Refusal.TheVariants as R
use Rattle.worked.specs.Worked.{worked}
use Rattle.spec.specs.declared.Flags.{Flags}
use Rattle.spec.specs.Pass.{Done}
use Rattle.spec.specs.Transform.{transform, templates_row, page_out_row}

-- what is written where nothing is refused
pub record Written : Type 0 where
  pub templates_out : Bytes
  pub page_out : Bytes
  pub templates : ℕ

pub data Outcome : Type 0 where
  refused : Refusal → Outcome
  accepted : Written → Outcome

-- 10, 16, 19 and 11, each over the whole; then 12 and 13
unfoldable pub check_outputs : (templates_room page_room : ℕ) → Flags → (templates page : Row) → Verdict
check_outputs tr pr f t p =
    after (unless (not f.left) R.TagLeft) λ _.
    after (unless (not f.repeated) R.RepeatedAttribute) λ _.
    after (unless (not f.mixed) R.MixedCaseVoid) λ _.
    after (unless (not (f.long || (long_body t || long_body p))) R.OutputTooLong) λ _.
    after (unless (leb (length (bytes t)) tr) R.TemplatesTooSmall) λ _.
    unless (leb (length (bytes p)) pr) R.PageTooSmall

unfoldable pub decided : Verdict → (Unit {0} → Outcome) → Outcome
decided Fine w = w tt
decided (Refused n) w = refused n

unfoldable pub transformed : (templates_room page_room : ℕ) → Options → Done Row → Outcome
transformed tr pr o d =
    decided (check_outputs tr pr d.flags (templates_row d.templates) (page_out_row o d))
    λ _. accepted (record { templates_out = bytes (templates_row d.templates); page_out = bytes (page_out_row o d); templates = length d.templates })

-- 1 and 2 first, then 3 to 8 of options and page, then 10 to 13
unfoldable pub check_inputs : (page options : Bytes) (scratch : ℕ) → Verdict
check_inputs page options scratch =
    after (unless (leb 65536 scratch) R.ScratchTooSmall) λ _.
    after (unless (leb (length page) 32768 && leb (length options) 4096) R.InputTooLong) λ _.
    after (check_options (read options)) λ _. check_page (read page)

-- 02, A12: with 05 the page is given with its sums worked out. 2 to 8 are for the page as it came, 10 to 13 for the page that is given
unfoldable pub worked_if : Bool → Page → Page
worked_if true p = worked p
worked_if false p = p

unfoldable pub page_given : (page options : Bytes) → Page
page_given page options = worked_if (works_sums (read options)) (page_in (read page))

unfoldable pub outcome : (page options : Bytes) (scratch templates_room page_room : ℕ) → Outcome
outcome page options scratch tr pr =
    decided (check_inputs page options scratch)
    λ _. transformed tr pr (options_in (read options)) (transform (options_in (read options)) (page_given page options))

-- ---- 01's number and values for each case

unfoldable pub number : Outcome → ℕ
number (refused n) = refusal_number n
number (accepted w) = 0

unfoldable pub bytes_of_templates : Outcome → ℕ
bytes_of_templates (refused n) = 0
bytes_of_templates (accepted w) = length w.templates_out

unfoldable pub bytes_of_page : Outcome → ℕ
bytes_of_page (refused n) = 0
bytes_of_page (accepted w) = length w.page_out

unfoldable pub templates : Outcome → ℕ
templates (refused n) = 0
templates (accepted w) = w.templates

-- ---- every byte lent

abbrev pub zeros : Bytes → Bytes
zeros b = replicate (length b) 0

-- refused: all zero; accepted: bytes behind the written end stay
unfoldable pub templates_left : Outcome → Bytes → Bytes
templates_left (refused n) b = zeros b
templates_left (accepted w) b = put b 0 w.templates_out

unfoldable pub page_left : Outcome → Bytes → Bytes
page_left (refused n) b = zeros b
page_left (accepted w) b = put b 0 w.page_out

-- zero after every call but 1, which leaves it
unfoldable pub scratch_left : Outcome → Bytes → Bytes
scratch_left (refused R.ScratchTooSmall) b = b
scratch_left _ b = zeros b

-- the equations that the export answers by: its number and counts, and every byte of both outs
pub record Answered (x : Outcome) (templates_before page_before : Bytes) (n tb pb ts : ℕ) (templates_after page_after : Bytes) : Type 0 where
  pub number_is : n ≡ number x
  pub templates_bytes_is : tb ≡ bytes_of_templates x
  pub page_bytes_is : pb ≡ bytes_of_page x
  pub templates_is : ts ≡ templates x
  pub templates_out_is : templates_after ≡ templates_left x templates_before
  pub page_out_is : page_after ≡ page_left x page_before
