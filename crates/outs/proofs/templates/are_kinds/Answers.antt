-- `outs::templates::are_kinds` meets its contract: each kind is 1 or 2. Assumes nothing.
use mathlib.Core.Path.{◌≡◌}
use mathlib.Core.Bool.{true, false}
use borrow.Author.Rules.{rules}
use borrow.Author.Tests.{tests}
use Rattle.std.proofs.lemmas.Iterator.{cases_from_all, YieldsList-from_slice}
use Rattle.outs.proofs.TemplateLaws.{is_kind, kinds_is}
use Rattle.outs.proofs.templates.are_kinds.Goals as goal

pub returns : goal.returns
returns c = kinds_is c.args.s.now c.all.result (cases_from_all _ _ _ (λ k. is_kind k ≡ true) (λ k. is_kind k ≡ false) c.all.ensures.ran (YieldsList-from_slice c.args.s.now cc) (λ x q k. search (rules, tests)) (λ x q k. search (rules, tests)))
