use Prim.Native.Nat.{◌≤◌}
use mathlib.Core.Path.{◌≡◌}
use lib.ListN.{length}
use Rattle.field.specs.Row.{read}
use Rattle.catalogue.specs.Judged.{recorded_numbers}
use Rattle.catalogue_calls.proofs.numbers.RecordsNumbers.next.Given as goal

abbrev pub invariant-loop-field : goal.invariant-loop-field
invariant-loop-field l = (recorded_numbers (read l.s) ≡ recorded_numbers (read l.fields.0.now)) × (length l.fields.0.now ≤ length l.s)
