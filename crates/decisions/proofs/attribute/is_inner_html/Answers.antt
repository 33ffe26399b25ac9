use borrow.Author.Rules.{rules}
use Rattle.decisions.proofs.AttributeLaws.{asked_inner_html}
use Rattle.decisions.proofs.attribute.is_inner_html.Goals as goal

pub returns : goal.returns
returns c = asked_inner_html _ _ c.ident_at.ensures (λ e. search rules) (λ b e. search rules)
