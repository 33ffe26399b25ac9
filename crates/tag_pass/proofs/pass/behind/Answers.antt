-- `tag_pass::pass::behind` meets its contract. Assumes nothing.
use native.Mathlib.Omega.{arith}
use mathlib.Core.Path.{ap}
use Rattle.tag_pass.proofs.Standing.{unended_none}
use Rattle.tag_pass.proofs.PassLaws.{behind_out, behind_barred, behind_filled}
use Rattle.std.proofs.lemmas.Option.{same_Some}
use mathlib.Core.Path.{◌∙◌}
use Rattle.tag_pass.specs.declared.state.Reading.{Reading}
use Rattle.tag_pass.proofs.pass.behind.Goals as goal

pub returns-in_err-sign : goal.returns-in_err-sign
returns-in_err-sign c = rw c.from_residual.ensures (behind_out c.in_err-sign.ensures, unended_none)

pub returns-in-125 : goal.returns-in-125
returns-in-125 c = (behind_filled c.in_ok-sign.ensures c.in-125.is c.saturating_sub-head.ensures c.end_braces.ensures.0, λ w e z. c.end_braces.ensures.1 (ap (λ (x : Reading). x.mode) (same_Some _ _ e) ∙ z))

pub returns-in_default : goal.returns-in_default
returns-in_default c = (behind_barred c.in_ok-sign.ensures (λ z. omega (arith, z)), unended_none)
