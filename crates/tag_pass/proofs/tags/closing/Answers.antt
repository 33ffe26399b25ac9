-- `tag_pass::tags::closing` meets its contract. Assumes nothing.
use Rattle.tag_pass.proofs.AttributeLaws.{name_found}
use Rattle.tag_pass.proofs.TagLaws.{closing_out, closing_fragment, closing_barred, closing_none, closing_named_out, closing_named_barred, closing_named}
use native.Mathlib.Omega.{arith}
use mathlib.Core.Path.{sym, ◌∙◌}
use Rattle.tag_pass.proofs.tags.closing.Goals as goal

pub returns-in_err-sign : goal.returns-in_err-sign
returns-in_err-sign c = rw c.from_residual.ensures (closing_out c.in_err-sign.ensures)

pub returns-in-62 : goal.returns-in-62
returns-in-62 c = closing_fragment c.in_ok-sign.ensures c.in-62.is c.is_none.ensures c.end_tag.ensures

pub returns-in_default-2 : goal.returns-in_default-2
returns-in_default-2 c = closing_barred c.in_ok-sign.ensures (λ z. omega (arith, z)) c.if-is_letter.ensures

pub returns-in_err-name-in_default : goal.returns-in_err-name-in_default
returns-in_err-name-in_default c = rw c.from_residual-in_err-name-in_default.ensures (closing_none c.in_ok-sign.ensures c.if-is_letter.ensures c.in_err-name-in_default.ensures)

pub returns-in_err-get-in_default : goal.returns-in_err-get-in_default
returns-in_err-get-in_default c = rw c.from_residual-in_err-get-in_default.ensures (closing_named_out _ c.in_ok-sign.ensures c.if-is_letter.ensures c.in_ok-name-in_default.ensures c.in_err-get-in_default.ensures.lookup.3)

pub returns-then-branch-ne62 : goal.returns-then-branch-ne62
returns-then-branch-ne62 c = closing_named_barred _ c.in_ok-sign.ensures c.if-is_letter.ensures c.in_ok-name-in_default.ensures c.in_ok-get-in_default.ensures.lookup.3.0 (λ z. c.if-branch-ne62.true (c.in_ok-get-in_default.ensures.lookup.3.1 0 ∙ z))

pub same_closing-same-requires : goal.same_closing-same-requires
same_closing-same-requires c = (c.requires.1, name_found _ _ _ c.in_ok-name-in_default.ensures)

pub returns-else-branch-ne62 : goal.returns-else-branch-ne62
returns-else-branch-ne62 c = closing_named _ c.in_ok-sign.ensures c.if-is_letter.ensures c.in_ok-name-in_default.ensures c.in_ok-get-in_default.ensures.lookup.3.0 (sym (c.in_ok-get-in_default.ensures.lookup.3.1 0) ∙ c.if-branch-ne62.false) c.same_closing-same.ensures c.end_tag-in_default.ensures
