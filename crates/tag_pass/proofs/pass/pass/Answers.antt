-- `tag_pass::pass::pass` meets its contract. The loop's invariant: the pass stands somewhere, and so it does whatever was lent. The measure is
-- what is still to read. Assumes nothing.
use mathlib.Core.Path.{sym, ◌∙◌}
use native.Mathlib.Omega.{arith}
use Rattle.tag_pass.proofs.PassLaws.{passing_more, passes, passes_none, turn_less}
use Rattle.tag_pass.proofs.pass.pass.Goals as goal

pub returns-in_err-st : goal.returns-in_err-st
returns-in_err-st c = rw c.from_residual.ensures (λ o i g. let on = c.loop-out.invariant.tracks o i g in passes_none (c.in_err-st.ensures.0.1 o on.i on.going).going)

pub loop-out-smaller : goal.loop-out-smaller
loop-out-smaller c = turn_less (sym c.goes_on.ensures ∙ c.loop-out-test.true) c.loop-out.invariant.lent.going (c.in_ok-st.ensures.0.1 c.loop-out.invariant.lent.o c.loop-out.invariant.lent.i c.loop-out.invariant.lent.going)

pub loop-out-preserved : goal.loop-out-preserved
loop-out-preserved c = passing_more c.loop-out.invariant c.in_ok-st.ensures (omega arith)

pub returns : goal.returns
returns c = λ o i g. passes (c.loop-out.invariant.tracks o i g) (sym c.goes_on.ensures ∙ c.loop-out-test.false) c.loop-out.invariant.not_ended
