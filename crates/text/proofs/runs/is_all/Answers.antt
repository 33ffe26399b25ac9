-- `is_all` meets its contract. The loop's invariant: the flag says whether the bytes passed are of the class.
use mathlib.Core.Path.{refl}
use native.Mathlib.Omega.{arith}
use native.Mathlib.Nat.{zero-add}
use Rattle.text.specs.Runs.{all}
use Rattle.text.proofs.RunLaws.{all_more}
use Rattle.text.proofs.runs.is_all.Goals as goal

pub loop-b-init : goal.loop-b-init
unfolding all
loop-b-init g c = refl

pub loop-b-preserved : goal.loop-b-preserved
loop-b-preserved g c = all_more (g.C.Class.holds c.args.class.now) c.args.block.now 0 c.loop-b.b-index (omega arith) c.loop-b.invariant (rw zero-add c.has-is.ensures)
