-- What the steps of filling promise each other. Nothing here needs belief. Assumes nothing: these are definitions.
use Rattle.std.specs.Prelude.{ℕ, ◌≡◌, ◌≤◌, length, take, drop, Option, Some, None, Result, Ok, Err}
use Rattle.std.proofs.Math.Option as M
use Rattle.field.specs.Bytes.{Bytes}
use Rattle.field.specs.Row.{Row, counted_front, read}
use Rattle.field.specs.Put.{Wrote}
use Rattle.refusal.specs.Refusal.{Verdict, Fine, Refused}
use Rattle.refusal.specs.declared.Refusal.{Refusal}
use Rattle.outs.specs.Passed.{record_body}
use Rattle.outs.specs.declared.Kind.TheVariants.{New}
use Rattle.spec.specs.Demand.{strings_in, kinds_behind}
use Rattle.fill.specs.Html.{Template, template_of}

-- the body of an 84 as a template
abbrev pub template_in : Bytes → Template
template_in w = record { kinds = kinds_behind (take (counted_front 4 w) w); strings = strings_in (read (drop (counted_front 4 w) w)) }

-- a record's body, by its number: it is what the order asks for
pub record RecordIs (ts : Row) (n : ℕ) (w : Bytes) : Type 0 where
  pub is : template_of ts n ≡ M.some (template_in w)
  pub right : record_body New w ≡ Fine
  pub short : length w ≤ 65535

-- the HTML stands in the buffer from a place on, and the place behind it is answered; or there is none, and what the buffer holds is left open
abbrev pub Fills : M.Option Bytes → (o : Bytes) (at : ℕ) (o' : Bytes) → Option ℕ → Type 0
Fills M.none o at o' None = Unit {0}
Fills M.none o at o' (Some e) = ⊥
Fills (M.some h) o at o' None = ⊥
Fills (M.some h) o at o' (Some e) = Wrote o at h o' e

-- the same behind a check
abbrev pub FillsIf : Verdict → M.Option Bytes → (o o' : Bytes) → Result (Option ℕ) Refusal → Type 0
FillsIf v h o o' (Ok x) = (v ≡ Fine) × Fills h o 0 o' x
FillsIf v h o o' (Err e) = v ≡ Refused e
