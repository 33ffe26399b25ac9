-- All windows answer together: none of the numbers above the windows that are still to come stands twice. Assumes nothing.
use mathlib.Core.Path.{sym}
use native.Mathlib.Omega.{arith}
use Rattle.catalogue_calls.proofs.OnceLaws.{singles_none, singles_more, singles_all}
use Rattle.catalogue_calls.proofs.once.in_windows.Goals as goal

pub loop-count-init : goal.loop-count-init
loop-count-init g c = singles_none _ _

pub returns-then-low-eq0 : goal.returns-then-low-eq0
returns-then-low-eq0 g c = sym (singles_all c.if-not-is_clear.ensures (omega arith) c.if-low-eq0.true c.loop-count.invariant)

pub loop-count-preserved : goal.loop-count-preserved
loop-count-preserved g c = singles_more c.if-not-is_clear.ensures (omega arith) c.loop-count.invariant
