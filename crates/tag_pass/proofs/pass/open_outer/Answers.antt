-- `tag_pass::pass::open_outer` meets its contract. Assumes nothing.
use native.Mathlib.Omega.{arith}
use mathlib.Core.Path.{refl, sym, ◌∙◌}
use Rattle.tag_pass.proofs.PassLaws.{outer_none, outer_empty, outer_other, outer_out, outer_barred, outer_letter, outer_fragment}
use Rattle.tag_pass.proofs.pass.open_outer.Goals as goal

pub returns-in_err-first : goal.returns-in_err-first
returns-in_err-first c = rw c.from_residual.ensures (outer_none (outer_empty _ c.in_err-first.ensures.item.3))

pub returns-then-branch-ne60 : goal.returns-then-branch-ne60
returns-then-branch-ne60 c = outer_none (outer_other _ c.in_ok-first.ensures.item.3.0 (λ z. c.if-branch-ne60.true (c.in_ok-first.ensures.item.3.1 0 ∙ z)))

pub returns-in_err-sign : goal.returns-in_err-sign
returns-in_err-sign c = rw c.from_residual-in_err-sign.ensures (outer_none (outer_out c.in_ok-first.ensures.item.3.0 (sym (c.in_ok-first.ensures.item.3.1 0) ∙ c.if-branch-ne60.false) c.in_err-sign.ensures))

pub returns-then-is_letter : goal.returns-then-is_letter
returns-then-is_letter c = outer_letter refl c.in_ok-first.ensures.item.3.0 (sym (c.in_ok-first.ensures.item.3.1 0) ∙ c.if-branch-ne60.false) c.in_ok-sign.ensures c.if-is_letter.ensures c.open_named.ensures

pub returns-in-62 : goal.returns-in-62
returns-in-62 c = outer_fragment refl c.in_ok-first.ensures.item.3.0 (sym (c.in_ok-first.ensures.item.3.1 0) ∙ c.if-branch-ne60.false) c.in_ok-sign.ensures c.in-62.is c.open_fragment.ensures

pub returns-in_default-2 : goal.returns-in_default-2
returns-in_default-2 c = outer_none (outer_barred c.in_ok-first.ensures.item.3.0 (sym (c.in_ok-first.ensures.item.3.1 0) ∙ c.if-branch-ne60.false) c.in_ok-sign.ensures c.if-is_letter.ensures (λ z. omega (arith, z)))
