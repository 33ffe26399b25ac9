-- `tag_pass::attributes::behind_name` meets its contract. Assumes nothing.
use native.Mathlib.Omega.{arith}
use mathlib.Core.Path.{sym, ◌∙◌}
use Rattle.tag_pass.proofs.AttributeLaws.{named_out, named_equals, named_alone}
use Rattle.tag_pass.proofs.attributes.behind_name.Goals as goal

pub returns-in_err-get : goal.returns-in_err-get
returns-in_err-get c = rw c.from_residual.ensures (named_out c.in_err-get.ensures.lookup.3)

pub returns-in-61 : goal.returns-in-61
returns-in-61 c = named_equals c.in_ok-get.ensures.lookup.3.0 (sym (c.in_ok-get.ensures.lookup.3.1 0) ∙ c.in-61.is) c.value.ensures

pub returns-in_default : goal.returns-in_default
returns-in_default c = named_alone c.in_ok-get.ensures.lookup.3.0 (λ z. omega (arith, z, c.in_ok-get.ensures.lookup.3.1 0)) c.end_attribute.ensures
