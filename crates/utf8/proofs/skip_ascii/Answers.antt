-- `utf8::skip_ascii` meets its contract. The invariant is the contract at what is left. Assumes nothing.
use native.Mathlib.Omega.{arith}
use Rattle.utf8.proofs.Places.{skips_on, skips_first}
use Rattle.utf8.proofs.skip_ascii.Goals as goal

pub loop-left-preserved : goal.loop-left-preserved
loop-left-preserved c = skips_on c.loop-left.invariant (skips_first c.loop-left.left.now (omega arith) (omega arith))
