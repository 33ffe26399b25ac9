-- `tag_pass::attributes::string_value` meets its contract. Assumes nothing.
use native.Mathlib.Omega.{arith}
use mathlib.Core.Path.{refl, ap}
use Rattle.tag_pass.specs.declared.state.Reading.{Reading}
use Rattle.tag_pass.proofs.AttributeLaws.{string_none, string_some, string_small}
use Rattle.tag_pass.proofs.attributes.string_value.Goals as goal

pub returns-in_err-run : goal.returns-in_err-run
returns-in_err-run c = rw c.from_residual.ensures (string_none c.in_err-run.ensures)

pub end_attribute-requires : goal.end_attribute-requires
end_attribute-requires c = omega (arith, c.requires.0.small, c.requires.0.inside, c.requires.0.grown, string_small _ _ _ _ _ _ _ c.in_ok-run.ensures, ap (λ (z : Reading). z.at) c.wrote-w.ensures)

pub returns : goal.returns
returns c = string_some c.requires.0.grown c.in_ok-run.ensures refl c.wrote-w.ensures c.end_attribute.ensures
