-- `tag_pass::attributes::attribute` meets its contract. Assumes nothing.
use native.Mathlib.Omega.{arith}
use mathlib.Core.Path.{refl}
use Rattle.field.specs.Number.{big_endian}
use Rattle.tag_pass.proofs.AttributeLaws.{attribute_none, attribute_member, attribute_found, attribute_bounded, name_found, name_span}
use Rattle.tag_pass.proofs.attributes.attribute.Goals as goal

pub returns-in_err-name : goal.returns-in_err-name
returns-in_err-name c = rw c.from_residual.ensures (attribute_none c.in_err-name.ensures)

pub returns-then-name-eq-MEMBER : goal.returns-then-name-eq-MEMBER
returns-then-name-eq-MEMBER c = attribute_member _ c.in_ok-name.ensures c.if-name-eq-MEMBER.true

pub put_name-b-requires : goal.put_name-b-requires
unfolding big_endian
put_name-b-requires c = let span = name_span _ _ _ c.in_ok-name.ensures in
    (name_found _ _ _ c.in_ok-name.ensures, span.0, span.1, omega (arith, c.requires.0.small, c.requires.0.inside, c.requires.0.grown, c.put_head-a.ensures.end_is))

pub behind_name-requires : goal.behind_name-requires
behind_name-requires c = attribute_bounded _ _ _ _ c.requires.0 c.in_ok-name.ensures c.put_head-a.ensures c.put_name-b.ensures c.wrote-w.ensures refl

pub returns : goal.returns
returns c = attribute_found c.requires.0.grown c.in_ok-name.ensures c.if-name-eq-MEMBER.false c.put_head-a.ensures c.put_name-b.ensures refl c.name_depth-d.ensures c.wrote-w.ensures refl c.behind_name.ensures
