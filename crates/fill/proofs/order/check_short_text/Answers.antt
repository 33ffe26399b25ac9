-- `order::check_short_text` meets its contract: ASCII is UTF-8. Assumes nothing.
use mathlib.Core.Path.{sym, ◌∙◌}
use Rattle.utf8.proofs.Laws.{ascii_utf8}
use Rattle.page.specs.Check.{check_text}
use Rattle.fill.proofs.order.check_short_text.Goals as goal

pub returns-then-is_ascii : goal.returns-then-is_ascii
unfolding check_text
returns-then-is_ascii c = rw (ascii_utf8 c.args.s.now (sym c.is_ascii.ensures ∙ c.if-is_ascii.true))
