-- `html::are_unmarked` meets its contract. The loop's invariant: the flag says whether the bytes passed are unmarked. Assumes nothing.
use mathlib.Core.Path.{refl}
use native.Mathlib.Omega.{arith}
use native.Mathlib.Nat.{zero-add}
use Rattle.text.specs.Runs.{all}
use Rattle.text.proofs.RunLaws.{all_more}
use Rattle.fill.specs.Writing.{unmarked}
use Rattle.fill.proofs.html.are_unmarked.Goals as goal

pub loop-b-init : goal.loop-b-init
unfolding all
loop-b-init c = refl

pub loop-b-preserved : goal.loop-b-preserved
loop-b-preserved c = all_more unmarked c.args.block.now 0 c.loop-b.b-index (omega arith) c.loop-b.invariant (rw zero-add c.is_unmarked-are.ensures)
