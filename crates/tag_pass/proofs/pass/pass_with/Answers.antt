-- `tag_pass::pass::pass_with` meets its contract. Assumes nothing.
use Rattle.tag_pass.proofs.PassLaws.{outer_lent, passes_none}
use Rattle.tag_pass.proofs.pass.pass_with.Goals as goal

pub returns-in_err-st : goal.returns-in_err-st
returns-in_err-st c = rw c.from_residual.ensures (passes_none (c.in_err-st.ensures.0 c.args.frames.now))

pub pass-requires : goal.pass-requires
pass-requires c = let pre = c.requires in outer_lent _ pre.0 pre.1 c.in_ok-st.ensures

pub returns : goal.returns
returns c = c.pass.ensures _ 1 (c.in_ok-st.ensures.0 _)
