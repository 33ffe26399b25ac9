-- `read_tag::known::trim_end` meets its contract. Assumes nothing.
use borrow.Author.Rules.{rules}
use Rattle.read_tag.proofs.TrimLaws.{trimmed_at, trimmed_all}
use Rattle.read_tag.proofs.known.trim_end.Goals as goal

pub returns-in-Some-clause-value : goal.returns-in-Some-clause-value
returns-in-Some-clause-value c = trimmed_at c.args.s.now c.in-Some.last (search rules) (search rules) (search rules)

pub returns-in-None-clause-value : goal.returns-in-None-clause-value
returns-in-None-clause-value c = trimmed_all c.args.s.now (search rules)
