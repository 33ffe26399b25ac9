-- `utf8::is_utf8` meets its contract. Assumes nothing.
use mathlib.Core.Path.{sym, ◌∙◌}
use borrow.Author.Rules.{rules}
use borrow.Author.Tests.{tests}
use Rattle.utf8.proofs.Places.{skips_same, utf8_ends}
use Rattle.utf8.proofs.is_utf8.Goals as goal

pub returns-then-is_empty : goal.returns-then-is_empty
returns-then-is_empty c = c.if-is_empty.true ∙ utf8_ends _ (search (rules, tests)) ∙ sym (skips_same c.skip_ascii-left.ensures)

pub returns-else-is_empty : goal.returns-else-is_empty
returns-else-is_empty c = c.is_utf8_behind.ensures ∙ sym (skips_same c.skip_ascii-left.ensures)
