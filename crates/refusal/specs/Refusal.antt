-- The refusals of 01 by number, and verdicts in a row. Assumes nothing: these are definitions.
use Rattle.std.specs.Prelude.{ℕ, Bool, true, false, Result, Ok, Err}
use Rattle.refusal.specs.declared.Refusal.{Refusal}
use Rattle.refusal.specs.declared.Refusal.TheVariants as R

-- 01, Limits and the answer: the table's numbers, and 02's 16 and 19. 9 is reserved: since 02's A1 nothing is refused under it
unfoldable pub refusal_number : Refusal → ℕ
refusal_number R.ScratchTooSmall = 1
refusal_number R.InputTooLong = 2
refusal_number R.Truncated = 3
refusal_number R.Misplaced = 4
refusal_number R.BadName = 5
refusal_number R.NotUtf8 = 6
refusal_number R.NumberTooLarge = 7
refusal_number R.TooDeep = 8
refusal_number R.TagLeft = 10
refusal_number R.RepeatedAttribute = 16
refusal_number R.MixedCaseVoid = 19
refusal_number R.OutputTooLong = 11
refusal_number R.TemplatesTooSmall = 12
refusal_number R.PageTooSmall = 13

-- what a check says: nothing to refuse, or the first refusal from the front
abbrev pub Verdict : Type 0
Verdict = Result (Unit {0}) Refusal

pattern abbrev pub Fine : Verdict
Fine = Ok tt

pattern abbrev pub Refused : Refusal → Verdict
Refused n = Err n

-- one check, and the next where it finds nothing
unfoldable pub after : Verdict → (Unit {0} → Verdict) → Verdict
after Fine v = v tt
after (Refused n) v = Refused n

abbrev pub unless : Bool → Refusal → Verdict
unless true n = Fine
unless false n = Refused n

-- what a check says as the number of an answer: 0 where it finds nothing
unfoldable pub verdict_number : Verdict → ℕ
verdict_number Fine = 0
verdict_number (Refused n) = refusal_number n
