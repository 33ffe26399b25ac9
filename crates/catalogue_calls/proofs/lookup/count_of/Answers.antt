-- `lookup::count_of` meets its contract. Assumes nothing.
use native.Mathlib.Omega.{arith}
use Rattle.convert.proofs.KindLaws.{fields_drained}
use Rattle.catalogue_calls.proofs.lookup.count_of.Goals as goal

pub returns : goal.returns
returns c =
    let r = c.count.ensures.ran in
    omega (arith, fields_drained (record { 0 = c.args.templates }) r.0 r.1, r.2)
