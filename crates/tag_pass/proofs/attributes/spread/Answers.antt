-- `tag_pass::attributes::spread` meets its contract. Assumes nothing.
use native.Mathlib.Omega.{arith}
use Rattle.tag_pass.proofs.AttributeLaws.{spread_out, spread_barred, spread_pointed}
use Rattle.tag_pass.proofs.attributes.spread.Goals as goal

pub returns-in_err-sign : goal.returns-in_err-sign
returns-in_err-sign c = rw c.from_residual.ensures (spread_out c.in_err-sign.ensures)

pub returns-in-46 : goal.returns-in-46
returns-in-46 c = spread_pointed c.in_ok-sign.ensures c.in-46.is c.points.ensures

pub returns-in_default : goal.returns-in_default
returns-in_default c = spread_barred c.in_ok-sign.ensures (λ z. omega (arith, z))
