-- `utf8::ranged` meets its contract. Assumes nothing.
use borrow.Author.Rules.{rules}
use borrow.Author.Tests.{tests}
use Rattle.utf8.proofs.Places.{lacks_all, lacks_first, behind_first}
use Rattle.utf8.proofs.ranged.Goals as goal

pub returns-in_err-first : goal.returns-in_err-first
returns-in_err-first g c = rw c.from_residual.ensures (lacks_all _ _ _ _ c.in_err-first.ensures.cases)

pub returns-then-contains : goal.returns-then-contains
returns-then-contains g c = let s = c.in_ok-first.ensures.cases in let v = c.contains.ensures.cases in behind_first _ _ _ _ _ _ s.0 (λ t. t.now) _ (search (rules, tests)) (search (rules, tests)) c.tails.ensures

pub returns-else-contains : goal.returns-else-contains
returns-else-contains g c = let s = c.in_ok-first.ensures.cases in let v = c.contains.ensures.cases in lacks_first _ _ _ _ _ _ s.0 (search (rules, tests))
