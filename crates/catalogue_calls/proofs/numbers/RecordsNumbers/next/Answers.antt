-- `catalogue_calls::numbers::Records::next` meets its contract: fields that are no records are passed over. Assumes nothing.
use mathlib.Core.Path.{sym, ap, ◌∙◌}
use Prim.Native.Nat.{ℕ}
use mathlib.Core.List.{◌∷◌}
use native.Mathlib.Omega.{arith}
use Rattle.field.specs.Row.{read}
use Rattle.catalogue.specs.Judged.{recorded_numbers}
use Rattle.catalogue_calls.proofs.RecordLaws.{recorded_next, other_next, none_recorded}
use Rattle.catalogue_calls.proofs.numbers.RecordsNumbers.next.Goals as goal

pub returns-then-field : goal.returns-then-field
returns-then-field c = let f = c.in-Some.ensures.steps in (c.loop-field.invariant.0 ∙ recorded_next f c.if-field.true ∙ ap (λ (n : ℕ). n ∷ recorded_numbers (read c.next.new.self.0.now)) (sym c.four_in.ensures), omega (arith, f.sizes, c.loop-field.invariant.1))

pub loop-field-preserved : goal.loop-field-preserved
loop-field-preserved c = let f = c.in-Some.ensures.steps in (c.loop-field.invariant.0 ∙ other_next f c.if-field.false, omega (arith, f.sizes, c.loop-field.invariant.1))

pub returns : goal.returns
returns c = c.loop-field.invariant.0 ∙ none_recorded c.in_default.ensures.steps
