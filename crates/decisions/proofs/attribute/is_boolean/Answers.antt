use borrow.Author.Rules.{rules}
use Rattle.decisions.proofs.AttributeLaws.{asked_boolean}
use Rattle.decisions.proofs.attribute.is_boolean.Goals as goal

pub returns : goal.returns
returns c = asked_boolean _ _ c.ident_at.ensures (λ e. search rules) (λ b e. search rules)
