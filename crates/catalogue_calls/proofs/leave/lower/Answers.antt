-- `leave::lower` meets its contract: page by page, until none is left. Assumes nothing.
use native.Mathlib.Omega.{arith}
use Rattle.catalogue_calls.proofs.LowerLaws.{later, moves_on, lowers_one, all_lowered}
use Rattle.catalogue_calls.proofs.leave.lower.Goals as goal

pub lower_front-requires : goal.lower_front-requires
lower_front-requires c = later c.loop-size.invariant c.requires

pub overflow_add-at : goal.overflow_add-at
overflow_add-at c = omega (arith, (moves_on c.loop-size.invariant c.in-Some.ensures c.requires).1)

pub loop-size-smaller : goal.loop-size-smaller
loop-size-smaller c = omega (arith, (moves_on c.loop-size.invariant c.in-Some.ensures c.requires).0, (moves_on c.loop-size.invariant c.in-Some.ensures c.requires).1)

pub loop-size-preserved : goal.loop-size-preserved
loop-size-preserved c = lowers_one c.loop-size.invariant c.in-Some.ensures

pub returns : goal.returns
returns c = all_lowered c.loop-size.invariant (c.in_default.ensures).0 (c.in_default.ensures).1
