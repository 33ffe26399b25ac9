use borrow.Author.Rules.{rules}
use Rattle.decisions.proofs.AttributeLaws.{asked_ref}
use Rattle.decisions.proofs.attribute.is_ref.Goals as goal

pub returns : goal.returns
returns c = asked_ref _ _ c.ident_at.ensures (λ e. search rules) (λ b e. search rules)
