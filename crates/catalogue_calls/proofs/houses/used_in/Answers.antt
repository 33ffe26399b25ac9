-- `houses::used_in` meets its contract: each page adds its bytes at its house. Assumes nothing.
use mathlib.Core.Path.{refl}
use Rattle.catalogue_calls.proofs.HousesLaws.{house_below, using_one, using_all}
use Rattle.catalogue_calls.proofs.houses.used_in.Goals as goal

pub bounds-used-p : goal.bounds-used-p
bounds-used-p c = house_below c.in-Some.ensures.steps

pub bounds-used-p-in-loop-p : goal.bounds-used-p-in-loop-p
bounds-used-p-in-loop-p c = house_below c.in-Some.ensures.steps

pub loop-p-preserved : goal.loop-p-preserved
loop-p-preserved c = using_one c.loop-p.invariant c.in-Some.ensures.steps _ refl

pub returns : goal.returns
returns c = using_all c.loop-p.invariant c.in-None.ensures.steps.0
