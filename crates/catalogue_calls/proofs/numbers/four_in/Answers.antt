-- `catalogue_calls::numbers::four_in` meets its contract. Assumes nothing.
use mathlib.Core.Path.{ap, ◌∙◌}
use native.Mathlib.Omega.{arith}
use lib.ListN.{length}
use lib.Seq.{length-take-le}
use Rattle.field.specs.Bytes.{Bytes}
use Rattle.field.specs.Number.{number_of}
use Rattle.catalogue_calls.proofs.Four.{number_four, four_short, four_fits}
use Rattle.catalogue_calls.proofs.numbers.four_in.Goals as goal

pub overflow_cast-result : goal.overflow_cast-result
overflow_cast-result c = let s = c.args.s.now in omega (arith, c.number_in.ensures, four_short s c.in-None.ensures.cases, four_fits s (λ i. omega (arith, c.type_inv.s i)))

pub returns-in-None : goal.returns-in-None
returns-in-None c = c.number_in.ensures ∙ four_short c.args.s.now c.in-None.ensures.cases

pub returns-in-Some : goal.returns-in-Some
returns-in-Some c =
    let e = c.in-Some.ensures.cases in
    number_four _ (ap (λ (x : Bytes). length x) e.same ∙ length-take-le 4 c.args.s.now e.enough) c.from_be_bytes.ensures ∙ ap number_of e.same
