-- 02, A8: the whole answer of the filler at every input. Assumes nothing: these are definitions.
use Rattle.std.specs.Prelude.{ℕ, ◌≡◌, leb, length, replicate}
use Rattle.std.proofs.Math.Option.{Option, none, some}
use Rattle.field.specs.Bytes.{Bytes}
use Rattle.field.specs.Put.{put}
use Rattle.field.specs.Row.{read}
use Rattle.refusal.specs.Refusal.{Verdict, Fine, Refused, unless, refusal_number}
use Rattle.refusal.specs.declared.Refusal.TheVariants as R
use Rattle.outs.specs.Templates.{check_templates}
use Rattle.outs.specs.declared.Kind.TheVariants.{New}
use Rattle.fill.specs.Order.{read_order, check_order}
use Rattle.fill.specs.Html.{html_of}

pub data Outcome : Type 0 where
  refused : ℕ → Outcome
  filled : Bytes → Outcome

-- one check, and the next where it finds nothing
unfoldable pub past : Verdict → (Unit {0} → Outcome) → Outcome
past Fine v = v tt
past (Refused n) v = refused (refusal_number n)

-- 13: the HTML has no room
unfoldable pub html_written : ℕ → Option Bytes → Outcome
html_written room none = refused 18
html_written room (some h) = past (unless (leb (length h) room) R.PageTooSmall) λ _. filled h

-- 3, 4 and 6 for the templates; these and 8 for the order; 18; 13
unfoldable pub outcome : (templates order : Bytes) (room : ℕ) → Outcome
outcome t o room =
    past (check_templates New t) λ _.
    past (check_order (read_order o)) λ _. html_written room (html_of (read t) (read_order o))

-- ---- what is answered, and the lent buffer

abbrev pub number : Outcome → ℕ
number (refused n) = n
number (filled h) = 0

abbrev pub bytes_of_html : Outcome → ℕ
bytes_of_html (refused n) = 0
bytes_of_html (filled h) = length h

-- a refusal leaves zeros; the bytes behind the HTML stay
abbrev pub html_left : Outcome → Bytes → Bytes
html_left (refused n) o = replicate (length o) 0
html_left (filled h) o = put o 0 h

-- what a caller sees of it: the number, the count of bytes, and every byte of the lent buffer
pub record Answered (x : Outcome) (html_out : Bytes) (n html_bytes : ℕ) (html_out' : Bytes) : Type 0 where
  pub number_is : n ≡ number x
  pub html_bytes_is : html_bytes ≡ bytes_of_html x
  pub html_is : html_out' ≡ html_left x html_out
