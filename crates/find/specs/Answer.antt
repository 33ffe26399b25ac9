-- What the walk and the lookup answer, as the code's numbers and array. Assumes nothing: these are definitions.
use Rattle.std.specs.Prelude.{◌≡◌, ℕ, ◌^◌, ◌<◌, ◌≤◌, true, false, List, length, replicate, Result, Ok, Err}
use Rattle.field.specs.Bytes.{Bytes}
use Rattle.field.specs.Row.{read}
use Rattle.refusal.specs.Refusal.{Fine, Refused, refusal_number}
use Rattle.outs.specs.Templates.{check_templates}
use Rattle.outs.specs.declared.Kind.TheVariants.{New}
use Rattle.find.specs.Find.{walk, none_met, absent, rising, asked_well, find_number, found}
use Rattle.find.specs.declared.answer.Unfound.{Unfound}
use Rattle.find.specs.declared.answer.Unfound.TheVariants.{Templates, Numbers}

pub record Walked (t : Bytes) (ns : List ℕ) (number records : ℕ) (places : List ℕ) : Type 0 where
  pub number_is : number ≡ 0
  pub records_is : records ≡ (walk ns 0 (read t) (none_met ns)).records
  pub places_is : places ≡ (walk ns 0 (read t) (none_met ns)).places

pub record Answered (t : Bytes) (ns : List ℕ) (number records : ℕ) (places : List ℕ) : Type 0 where
  pub in_memory : length t < 2 ^ 64  -- as every slice is: no place in it is the one that says absent
  pub number_is : number ≡ find_number t ns
  pub records_is : records ≡ (found t ns).records
  pub places_is : places ≡ (found t ns).places

pub record Nothing (n number records : ℕ) (places : List ℕ) : Type 0 where
  pub number_is : number ≡ n
  pub records_is : records ≡ 0
  pub places_is : places ≡ replicate 256 absent

-- the number of each reason: of a refusal its own, and 20 for the numbers
abbrev pub unfound_number : Unfound → ℕ
unfound_number (Templates r) = refusal_number r
unfound_number Numbers = 20

-- what the checks find, the templates first
abbrev pub Checked : Bytes → List ℕ → Result (Unit {0}) Unfound → Type 0
Checked t ns (Ok u) = (check_templates New t ≡ Fine) × (rising ns ≡ true) × (length ns ≤ 256)
Checked t ns (Err (Templates r)) = check_templates New t ≡ Refused r
Checked t ns (Err Numbers) = (check_templates New t ≡ Fine) × (asked_well ns ≡ false)
