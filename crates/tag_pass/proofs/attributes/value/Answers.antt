-- `tag_pass::attributes::value` meets its contract. Assumes nothing.
use native.Mathlib.Omega.{arith}
use Rattle.tag_pass.proofs.AttributeLaws.{value_out, value_string, value_braced, value_tag, value_barred}
use Rattle.tag_pass.proofs.attributes.value.Goals as goal

pub returns-in_err-sign : goal.returns-in_err-sign
returns-in_err-sign c = rw c.from_residual.ensures (value_out c.in_err-sign.ensures)

pub returns-then-is_quote : goal.returns-then-is_quote
returns-then-is_quote c = value_string c.in_ok-sign.ensures c.if-is_quote.ensures c.string_value.ensures

pub returns-in-123 : goal.returns-in-123
returns-in-123 c = value_braced c.in_ok-sign.ensures c.in-123.is c.braces.ensures

pub returns-in-60 : goal.returns-in-60
returns-in-60 c = value_tag c.in_ok-sign.ensures c.in-60.is c.in_mode.ensures

pub returns-in_default-2 : goal.returns-in_default-2
returns-in_default-2 c = value_barred c.in_ok-sign.ensures c.if-is_quote.ensures (λ z. omega (arith, z)) (λ z. omega (arith, z))
