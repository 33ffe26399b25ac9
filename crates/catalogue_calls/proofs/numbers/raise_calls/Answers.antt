-- `catalogue_calls::numbers::raise_calls` meets its contract: from call to call the number there is raised. Assumes nothing.
use native.Mathlib.Omega.{arith}
use Rattle.catalogue_calls.proofs.CallWalk.{raising, fits, raises_one, all_raised}
use Rattle.catalogue_calls.proofs.numbers.raise_calls.Goals as goal

pub loop-number-init : goal.loop-number-init
loop-number-init c = raising c.args.by c.args.s.now (λ i. omega (arith, c.type_inv.s i)) c.requires

pub overflow_add-at : goal.overflow_add-at
overflow_add-at c = omega (arith, fits c.loop-number.invariant c.in-Some.ensures)

pub raise-requires : goal.raise-requires
raise-requires c = fits c.loop-number.invariant c.in-Some.ensures

pub overflow_add-at-in-Some : goal.overflow_add-at-in-Some
overflow_add-at-in-Some c = omega (arith, fits c.loop-number.invariant c.in-Some.ensures)

pub overflow_add-at-in-Some-2 : goal.overflow_add-at-in-Some-2
overflow_add-at-in-Some-2 c = omega (arith, fits c.loop-number.invariant c.in-Some.ensures)

pub loop-number-preserved : goal.loop-number-preserved
loop-number-preserved c = raises_one c.loop-number.invariant c.in-Some.ensures c.raise.ensures

pub shape_of-s : goal.shape_of-s
shape_of-s c = c.loop-number.invariant.kept

pub returns : goal.returns
returns c = all_raised c.loop-number.invariant c.in_default.ensures
