-- `read::is_zero` meets its contract. Assumes nothing.
use mathlib.Core.Path.{refl}
use Rattle.catalogue.specs.Catalogue.{all_zero}
use Rattle.catalogue_calls.proofs.ZeroLaws.{zero_more, zero_all}
use Rattle.catalogue_calls.proofs.read.is_zero.Goals as goal

pub loop-b-init : goal.loop-b-init
unfolding all_zero
loop-b-init c = refl

pub loop-b-preserved : goal.loop-b-preserved
loop-b-preserved c = zero_more _ _ _ c.loop-b-test.true c.loop-b.invariant

pub returns : goal.returns
returns c = zero_all _ _ _ c.loop-b-test.false c.loop-b.invariant
