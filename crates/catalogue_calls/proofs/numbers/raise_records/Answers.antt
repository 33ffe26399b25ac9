-- `catalogue_calls::numbers::raise_records` meets its contract: from record to record the number there is raised. Assumes nothing.
use native.Mathlib.Omega.{arith}
use Rattle.catalogue_calls.proofs.RecordWalk.{raising, fits, raises_one, all_raised}
use Rattle.catalogue_calls.proofs.numbers.raise_records.Goals as goal

pub loop-h-init : goal.loop-h-init
loop-h-init c = raising c.args.by c.args.s.now (λ i. omega (arith, c.type_inv.s i)) c.requires

pub raise-requires : goal.raise-requires
raise-requires c = let h = c.read_header.ensures in fits c.args.by c.loop-h.invariant h.0 h.1 c.in-Some.is

pub loop-h-preserved : goal.loop-h-preserved
loop-h-preserved c = let h = c.read_header.ensures in raises_one c.args.by c.loop-h.invariant h.0 h.1 c.in-Some.is c.raise.ensures

pub returns : goal.returns
returns c = all_raised c.args.by c.loop-h.invariant c.read_header.ensures.0 c.in_default.is
