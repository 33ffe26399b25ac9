-- `tag_pass::braces::braces` meets its contract. Assumes nothing.
use native.Mathlib.Omega.{arith}
use Rattle.tag_pass.proofs.Machine.{differs, not_space}
use Rattle.tag_pass.proofs.BracesLaws.{bounded_on, braces_out, braces_barred, braces_behind}
use Rattle.tag_pass.proofs.braces.braces.Goals as goal

pub returns-in_err-sign : goal.returns-in_err-sign
returns-in_err-sign c = rw c.from_residual.ensures (braces_out c.in_err-sign.ensures)

pub returns-in-125 : goal.returns-in-125
returns-in-125 c = braces_barred c.requires.1 c.in_ok-sign.ensures c.in-125.is

pub expression-requires : goal.expression-requires
expression-requires c = let at = c.in_ok-sign.ensures in (bounded_on c.requires.0 at.ran.after at.ran.inside, at.inside, not_space at.ran at.inside, differs at (λ z. grind (arith, z)), differs at (λ z. grind (arith, z)))

pub returns-in_default : goal.returns-in_default
returns-in_default c = braces_behind c.in_ok-sign.ensures c.expression.ensures
