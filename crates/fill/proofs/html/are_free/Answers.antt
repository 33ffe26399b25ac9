-- `html::are_free` meets its contract. The loop's invariant: the flag says whether the bytes passed are no_sign. Assumes nothing.
use mathlib.Core.Path.{refl}
use native.Mathlib.Omega.{arith}
use native.Mathlib.Nat.{zero-add}
use Rattle.text.specs.Runs.{all}
use Rattle.text.proofs.RunLaws.{all_more}
use Rattle.fill.specs.Writing.{no_sign}
use Rattle.fill.proofs.html.are_free.Goals as goal

pub loop-b-init : goal.loop-b-init
unfolding all
loop-b-init c = refl

pub loop-b-preserved : goal.loop-b-preserved
loop-b-preserved c = all_more no_sign c.args.block.now 0 c.loop-b.b-index (omega arith) c.loop-b.invariant (rw zero-add c.is_no_sign-are.ensures)
