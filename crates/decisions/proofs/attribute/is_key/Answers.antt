use mathlib.Core.Bool.{true, false}
use borrow.Author.Rules.{rules}
use Rattle.decisions.proofs.AttributeLaws.{asked_key}
use Rattle.decisions.proofs.attribute.is_key.Goals as goal

pub returns-then-norm : goal.returns-then-norm
returns-then-norm c = rw c.if-norm.true (asked_key _ _ c.ident_at-name.ensures (λ e. search rules) true (λ b e. search rules))

pub returns-else-norm : goal.returns-else-norm
returns-else-norm c = rw c.if-norm.false (asked_key _ _ c.ident_at-name.ensures (λ e. search rules) false (λ b e. search rules))
