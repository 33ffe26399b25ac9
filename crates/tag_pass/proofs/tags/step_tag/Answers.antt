-- `tag_pass::tags::step_tag` meets its contract. Assumes nothing.
use native.Mathlib.Omega.{arith}
use Rattle.tag_pass.proofs.TagLaws.{tag_out, tag_letter, tag_children, tag_slashed, tag_spread, tag_barred}
use Rattle.tag_pass.proofs.tags.step_tag.Goals as goal

pub returns-in_err-sign : goal.returns-in_err-sign
returns-in_err-sign c = rw c.from_residual.ensures (tag_out c.in_err-sign.ensures)

pub returns-then-is_letter : goal.returns-then-is_letter
returns-then-is_letter c = tag_letter c.in_ok-sign.ensures c.if-is_letter.ensures c.attribute.ensures

pub returns-in-62 : goal.returns-in-62
returns-in-62 c = tag_children c.in_ok-sign.ensures c.in-62.is c.in_mode.ensures

pub returns-in-47 : goal.returns-in-47
returns-in-47 c = tag_slashed c.in_ok-sign.ensures c.in-47.is c.slashed.ensures

pub returns-in-123 : goal.returns-in-123
returns-in-123 c = tag_spread c.in_ok-sign.ensures c.in-123.is c.spread.ensures

pub returns-in_default-2 : goal.returns-in_default-2
returns-in_default-2 c = tag_barred c.in_ok-sign.ensures c.if-is_letter.ensures (λ z. omega (arith, z)) (λ z. omega (arith, z)) (λ z. omega (arith, z))
