-- `tag_pass::braces::child_braces` meets its contract. Assumes nothing.
use native.Mathlib.Omega.{arith}
use mathlib.Core.Path.{refl}
use Rattle.tag_pass.proofs.Machine.{differs, not_space}
use Rattle.tag_pass.proofs.BracesLaws.{bounded_on}
use Rattle.tag_pass.proofs.ChildLaws.{child_out, child_empty, child_pointed, child_filled}
use Rattle.tag_pass.proofs.braces.child_braces.Goals as goal

pub returns-in_err-sign : goal.returns-in_err-sign
returns-in_err-sign c = rw c.from_residual.ensures (child_out c.in_err-sign.ensures)

pub returns-in-125 : goal.returns-in-125
returns-in-125 c = child_empty c.requires.grown c.in_ok-sign.ensures c.in-125.is c.put_head-a.ensures refl c.wrote-w.ensures c.in_mode.ensures

pub returns-in-46 : goal.returns-in-46
returns-in-46 c = child_pointed c.in_ok-sign.ensures c.in-46.is c.points.ensures

pub expression-requires : goal.expression-requires
expression-requires c = let at = c.in_ok-sign.ensures in (bounded_on c.requires at.ran.after at.ran.inside, at.inside, not_space at.ran at.inside, differs at (λ z. omega (arith, z)), differs at (λ z. omega (arith, z)))

pub returns-in_default : goal.returns-in_default
returns-in_default c = child_filled c.in_ok-sign.ensures c.expression.ensures
