-- `tag_pass::braces::end_braces` meets its contract. Assumes nothing.
use mathlib.Core.Path.{ap}
use Rattle.tag_pass.specs.declared.state.Reading.{Reading}
use Rattle.tag_pass.proofs.BracesLaws.{filled_value, filled_spread, filled_child, child_kind}
use Rattle.tag_pass.proofs.braces.end_braces.Goals as goal

pub returns-in-Value : goal.returns-in-Value
returns-in-Value c = (filled_value c.patch.ensures c.tag.ensures c.in-Value.is c.end_attribute.ensures, λ z. (let e = ap (λ (x : Reading). x.mode) c.end_attribute.ensures.is in cc))

pub returns-in-Spread : goal.returns-in-Spread
returns-in-Spread c = (filled_spread c.patch.ensures c.tag.ensures c.in-Spread.is c.in_mode.ensures, λ z. (let e = ap (λ (x : Reading). x.mode) c.in_mode.ensures in cc))

pub returns-in-Child : goal.returns-in-Child
returns-in-Child c = let kind = child_kind c.in-Child.is in
    (filled_child c.patch.ensures c.tag.ensures kind.0 kind.1 c.in_mode-in-Child.ensures, λ z. (let e = ap (λ (x : Reading). x.mode) c.in_mode-in-Child.ensures in cc))
