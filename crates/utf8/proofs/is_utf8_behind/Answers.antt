-- `utf8::is_utf8_behind` meets its contract. The invariant: the whole is UTF-8 exactly if what is left is. Assumes nothing.
use mathlib.Core.Path.{sym, ◌∙◌}
use native.Mathlib.Omega.{arith}
use borrow.Author.Rules.{rules}
use borrow.Author.Tests.{tests}
use Rattle.utf8.proofs.Places.{skips_same, skips_first, utf8_ends}
use Rattle.utf8.proofs.is_utf8_behind.Goals as goal

pub loop-left-preserved-then-is_ascii : goal.loop-left-preserved-then-is_ascii
loop-left-preserved-then-is_ascii c =
    c.loop-left.invariant ∙ skips_same (skips_first c.loop-left.left.now (omega arith) (search (rules, tests))) ∙ skips_same c.skip_ascii.ensures
    ∙ c.skip_characters-left-then-is_ascii.ensures.same

pub returns : goal.returns
returns c = sym (c.loop-left.invariant ∙ sym (utf8_ends _ (omega arith)))
