-- `tag_pass::tags::slashed` meets its contract. Assumes nothing.
use Rattle.tag_pass.proofs.TagLaws.{slashed_out, slashed_barred, slashed_ends}
use native.Mathlib.Omega.{arith}
use Rattle.tag_pass.proofs.tags.slashed.Goals as goal

pub returns-in_err-sign : goal.returns-in_err-sign
returns-in_err-sign c = rw c.from_residual.ensures (slashed_out c.in_err-sign.ensures)

pub returns-in-62 : goal.returns-in-62
returns-in-62 c = slashed_ends c.in_ok-sign.ensures c.in-62.is c.end_tag.ensures

pub returns-in_default : goal.returns-in_default
returns-in_default c = slashed_barred c.in_ok-sign.ensures (λ z. omega (arith, z))
