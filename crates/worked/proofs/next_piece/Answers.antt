-- `worked::next_piece` meets its contract: the first that passes the test. Assumes nothing.
use Rattle.std.proofs.Common.{rules}
use borrow.Author.Tests.{tests}
use Rattle.worked.proofs.Pieces.{next_is}
use Rattle.worked.proofs.next_piece.Goals as goal

pub returns : goal.returns
returns c = next_is c.args.fields.now c.find.new.self _ c.find.result c.find.ensures.ran (λ p x b q h. search (rules, tests))
