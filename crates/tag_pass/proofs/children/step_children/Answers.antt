-- `tag_pass::children::step_children` meets its contract. Assumes nothing.
use native.Mathlib.Omega.{arith}
use mathlib.Core.Path.{sym, ◌∙◌}
use Rattle.tag_pass.proofs.ChildLaws.{children_out, children_tag, children_braces, children_barred, text_first}
use Rattle.tag_pass.proofs.children.step_children.Goals as goal

pub returns-in_err-get : goal.returns-in_err-get
returns-in_err-get c = rw c.from_residual.ensures (children_out c.in_err-get.ensures.lookup.3)

pub returns-in-60 : goal.returns-in-60
returns-in-60 c = children_tag c.in_ok-get.ensures.lookup.3.0 (sym (c.in_ok-get.ensures.lookup.3.1 0) ∙ c.in-60.is) c.in_mode.ensures

pub returns-in-123 : goal.returns-in-123
returns-in-123 c = children_braces c.in_ok-get.ensures.lookup.3.0 (sym (c.in_ok-get.ensures.lookup.3.1 0) ∙ c.in-123.is) c.child_braces.ensures

pub returns-in-62 : goal.returns-in-62
returns-in-62 c = children_barred c.in_ok-get.ensures.lookup.3.0 (sym (c.in_ok-get.ensures.lookup.3.1 0)) c.in-62.is

pub text_child-requires : goal.text_child-requires
text_child-requires c = (c.requires, c.in_ok-get.ensures.lookup.3.0, text_first _ (λ z. omega (arith, z, c.in_ok-get.ensures.lookup.3.1 0)) (λ z. omega (arith, z, c.in_ok-get.ensures.lookup.3.1 0)) (λ z. grind (arith, z, c.in_ok-get.ensures.lookup.3.1 0)) (λ z. grind (arith, z, c.in_ok-get.ensures.lookup.3.1 0)))
