-- `run_end` meets its contract. The invariant: the run that is looked for ends where the run from i on ends.
use native.Mathlib.Omega.{arith}
use mathlib.Core.Path.{sym, ◌∙◌}
use Rattle.text.proofs.RunLaws.{scan_step, scan_stop, scan_end}
use Rattle.text.proofs.runs.run_end.Goals as goal

pub returns-then-not-has-clause-place : goal.returns-then-not-has-clause-place
returns-then-not-has-clause-place g c = scan_stop (g.C.Class.holds c.args.class.now) c.args.s.now c.loop-i.i (omega arith) (sym c.has.ensures ∙ c.if-not-has.true) c.loop-i.invariant.2

pub loop-i-preserved : goal.loop-i-preserved
loop-i-preserved g c = (omega arith, omega arith, scan_step (g.C.Class.holds c.args.class.now) c.args.s.now c.loop-i.i (omega arith) (sym c.has.ensures ∙ c.if-not-has.false) c.loop-i.invariant.2)

pub returns-clause-place : goal.returns-clause-place
returns-clause-place g c = scan_end (g.C.Class.holds c.args.class.now) c.args.s.now c.loop-i.i (omega arith) c.loop-i.invariant.2
