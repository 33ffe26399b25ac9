use borrow.Author.Rules.{rules}
use borrow.Author.Tests.{tests}
use Rattle.decisions.proofs.AttributeLaws.{first_40, second_40, first_none, second_none}
use Rattle.decisions.proofs.attribute.next_name.Goals as goal

pub returns-in-Some-clause-first : goal.returns-in-Some-clause-first
returns-in-Some-clause-first c = first_40 _ _ (λ x b q k. search (rules, tests)) c.args.fields.now c.find.new.self c.find.ensures.ran c.in-Some.is

pub returns-in-Some-clause-rest : goal.returns-in-Some-clause-rest
returns-in-Some-clause-rest c = second_40 _ _ (λ x b q k. search (rules, tests)) c.args.fields.now c.find.new.self c.find.ensures.ran c.in-Some.is

pub returns-in-None-clause-first : goal.returns-in-None-clause-first
returns-in-None-clause-first c = first_none _ _ (λ x b q k. search (rules, tests)) c.args.fields.now c.find.new.self c.find.ensures.ran c.in-None.is

pub returns-in-None-clause-rest : goal.returns-in-None-clause-rest
returns-in-None-clause-rest c = second_none _ _ (λ x b q k. search (rules, tests)) c.args.fields.now c.find.new.self c.find.ensures.ran c.in-None.is
