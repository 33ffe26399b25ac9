-- `long_run_end` meets its contract. The invariant: the run that is looked for ends where the run from i on ends.
use native.Mathlib.Omega.{arith}
use mathlib.Core.Path.{sym, ◌∙◌}
use Rattle.text.proofs.RunLaws.{scan_block, scan_last, block_is, last_is}
use Rattle.text.proofs.runs.long_run_end.Goals as goal

pub loop-i-preserved : goal.loop-i-preserved
loop-i-preserved g c = let p = g.C.Class.holds c.args.class.now in
    let e = sym (block_is p c.args.s.now c.loop-i.i g.row.N c.is_all.ensures) ∙ c.if-not-is_all.false in
    (omega arith, omega arith, scan_block p c.args.s.now c.loop-i.i g.row.N (omega arith) e c.loop-i.invariant.2)

pub returns-then-is_all-clause-place : goal.returns-then-is_all-clause-place
returns-then-is_all-clause-place g c = let p = g.C.Class.holds c.args.class.now in
    let e = sym (last_is p c.args.s.now g.row.N (omega arith) c.is_all-then-n.ensures) ∙ c.if-is_all.true in
    scan_last p c.args.s.now c.loop-i.i g.row.N (omega arith) (omega arith) (omega arith) e c.loop-i.invariant.2
