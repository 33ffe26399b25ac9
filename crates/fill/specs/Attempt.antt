-- What the steps of the whole answer promise each other. Nothing here needs belief. Assumes nothing: these are definitions.
use Rattle.std.specs.Prelude.{ℕ, ◌≡◌, length, Result, Ok, Err}
use Rattle.field.specs.Bytes.{Bytes}
use Rattle.refusal.specs.Refusal.{refusal_number}
use Rattle.fill.specs.Answer.{Outcome, refused, Answered}
use Rattle.fill.specs.declared.answer.Filled.{Filled}
use Rattle.fill.specs.declared.answer.Unfilled.{Unfilled}
use Rattle.fill.specs.declared.answer.Unfilled.TheVariants.{Refused, Unfitting}

-- the number of a reason: of a refusal its own, and 18 where the fillings do not fit
abbrev pub unfilled_number : Unfilled → ℕ
unfilled_number (Refused r) = refusal_number r
unfilled_number Unfitting = 18

-- why nothing is filled
pub record Fails (o : Outcome) (out : Bytes) (e : Unfilled) (out' : Bytes) : Type 0 where
  pub reason_is : o ≡ refused (unfilled_number e)
  pub size : length out' ≡ length out

abbrev pub Attempts : Outcome → (out : Bytes) → Result Filled Unfilled → (out' : Bytes) → Type 0
Attempts o out (Ok a) out' = Answered o out a.number a.html_bytes out'
Attempts o out (Err e) out' = Fails o out e out'
