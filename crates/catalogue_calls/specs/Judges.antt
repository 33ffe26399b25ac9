-- What the check of a page's two parts answers. Assumes nothing: these are definitions.
use Rattle.std.specs.Prelude.{ℕ, ◌≡◌, Result, Ok, Err}
use Rattle.refusal.specs.Refusal.{refusal_number}
use Rattle.catalogue.specs.Page.{Body}
use Rattle.catalogue_calls.specs.Standing.{housed}
use Rattle.catalogue_calls.specs.declared.answer.Unkept.{Unkept}
use Rattle.catalogue_calls.specs.declared.answer.Unkept.TheVariants as U

abbrev pub unkept_number : Unkept → ℕ
unkept_number (U.Refused r) = refusal_number r
unkept_number U.Disagreeing = 17
unkept_number U.Unshared = 26
unkept_number U.NamePresent = 21
unkept_number U.NameAbsent = 22
unkept_number U.OverMost = 24
unkept_number U.Uncovered = 25

-- the judge, of parts that stand behind m templates
abbrev pub Judges : Body → ℕ → Result ℕ Unkept → Type 0
Judges x m (Ok n) = (housed.judge (housed.down m x) ≡ 0) × (n ≡ housed.forms x)
Judges x m (Err e) = (housed.judge (housed.down m x) ≡ unkept_number e) × (unkept_number e ≡ 0 → ⊥)
