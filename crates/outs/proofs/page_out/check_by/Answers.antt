-- `outs::page_out::check_by` meets its contract: each turn keeps `Going`, by what the step finds. Assumes nothing.
use Prim.Native.Nat.{◌≤◌}
use mathlib.Core.Path.{ap, ◌∙◌}
use native.Mathlib.Omega.{arith}
use lib.ListN.{length-set}
use lib.Seq.{get_or-set_same}
use Rattle.std.specs.Prelude.{Ok}
use Rattle.page.proofs.Steps.{handed}
use Rattle.loops.proofs.Turns.{set_below, high}
use Rattle.outs.proofs.Checks.{none, begins, refuses, passes, opens_up, closes, finishes}
use Rattle.outs.proofs.page_out.check_by.Goals as goal

pub loop-e-init : goal.loop-e-init
loop-e-init g c = (rw c.new-stack.ensures.height (begins _ _ _), c.new-stack.ensures.depth)

pub returns-in_err-e : goal.returns-in_err-e
returns-in_err-e g c = handed c.from_residual.ensures ∙ refuses c.args.width c.loop-e.invariant.0 c.step.ensures c.in_err-e.was

pub loop-e-preserved-in-Leaf : goal.loop-e-preserved-in-Leaf
loop-e-preserved-in-Leaf g c = ((passes c.args.width c.loop-e.invariant.0 c.step.ensures (c.in_ok-e.was ∙ ap Ok c.in-Leaf.is)).1, c.loop-e.invariant.1)

pub loop-e-preserved-in-Open : goal.loop-e-preserved-in-Open
loop-e-preserved-in-Open g c = let p = c.loop-e.invariant.0 in let o = opens_up c.args.width p c.step.ensures {depth = g.row.N} c.requires.1 (c.in_ok-e.was ∙ ap Ok c.in-Open.is) in
    rw (c.push.ensures.frames, c.push.ensures.height)
    (o.4 _ (get_or-set_same c.loop-e.stack.frames c.loop-e.stack.height _ none (omega (arith, c.loop-e.invariant.1, o.2))) (set_below c.loop-e.stack.frames c.loop-e.stack.height _ none), simp length-set c.loop-e.invariant.1)

pub new-stack-requires : goal.new-stack-requires
new-stack-requires g c = let h : g.row.N ≤ 21846 = c.requires.0 in omega (arith, h)

pub push-requires : goal.push-requires
push-requires g c = (omega (arith, c.requires.0), (opens_up c.args.width c.loop-e.invariant.0 c.step.ensures {depth = g.row.N} c.requires.1 (c.in_ok-e.was ∙ ap Ok c.in-Open.is)).2)

pub pop-requires : goal.pop-requires
pop-requires g c = (omega (arith, c.requires.0), high c.loop-e.invariant.0 {n = g.row.N} c.requires.1)

pub returns-in_default : goal.returns-in_default
returns-in_default g c = finishes c.args.width c.loop-e.invariant.0 c.step.ensures (c.in_ok-e.was ∙ ap Ok c.in-End.is) (rw c.in_default.is at c.pop.ensures.top).0

pub loop-e-preserved : goal.loop-e-preserved
loop-e-preserved g c =
    rw (c.waits_until-end.ensures, c.pop.ensures.frames)
    (closes c.args.width c.loop-e.invariant.0 c.step.ensures (c.in_ok-e.was ∙ ap Ok c.in-End.is) c.in-Some.ensures.top.0 (rw c.pop.ensures.frames at c.in-Some.ensures.top.1 none), c.loop-e.invariant.1)
