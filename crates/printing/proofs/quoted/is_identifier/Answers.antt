-- `printing::quoted::is_identifier` meets its contract: its first byte starts a name, and the others go on. Assumes nothing.
use borrow.Author.Rules.{rules}
use Rattle.printing.proofs.QuotedLaws.{name_by}
use Rattle.printing.proofs.quoted.is_identifier.Goals as goal

pub returns : goal.returns
returns c = name_by c.args.s.now c.split_first.ensures.cases (λ e. search rules) (λ p e. search rules)
