-- `behind_sign` meets its contract: only what follows a `<` matters. Assumes nothing.
use mathlib.Core.Path.{sym, ap, ◌∙◌}
use native.Mathlib.Omega.{arith}
use Rattle.records.specs.Kinds.{sign_of, sign_after}
use Rattle.records.specs.declared.kinds.Sign.{Sign}
use Rattle.records.proofs.KindLaws.{not_opened, unchanged, right_behind, closing_tag, opening_tag}
use Rattle.records.proofs.kinds.behind_sign.Goals as goal

pub returns-in-empty : goal.returns-in-empty
returns-in-empty c = right_behind c.args.s.now c.requires c.in-empty.len_below ∙ ap (λ (x : Sign). sign_after (sign_of x) c.args.s.now) (sym c.in-Opened.is)

pub returns-in-47 : goal.returns-in-47
returns-in-47 c = closing_tag c.args.s.now c.requires c.in-47.len_at_least (omega arith) ∙ ap (λ (x : Sign). sign_after (sign_of x) c.args.s.now) (sym c.in-Opened.is)

pub returns-in-len1-up : goal.returns-in-len1-up
returns-in-len1-up c = opening_tag c.args.s.now c.requires c.in-len1-up.len_at_least (λ g. omega (arith, g)) ∙ ap (λ (x : Sign). sign_after (sign_of x) c.args.s.now) (sym c.in-Opened.is)

pub returns-in-Outside : goal.returns-in-Outside
returns-in-Outside c = unchanged _ _ (not_opened c.in-Outside.is) c.requires
