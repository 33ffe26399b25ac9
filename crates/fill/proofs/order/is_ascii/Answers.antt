-- `order::is_ascii` meets its contract: blocks of either size say the same of all bytes. Assumes nothing.
use mathlib.Core.Path.{◌∙◌}
use Rattle.fill.proofs.TextLaws.{ascii_is}
use Rattle.fill.proofs.order.is_ascii.Goals as goal

pub returns-then-s-lt16 : goal.returns-then-s-lt16
returns-then-s-lt16 c = c.is_run.ensures ∙ ascii_is c.args.s.now

pub returns-else-s-lt16 : goal.returns-else-s-lt16
returns-else-s-lt16 c = c.is_run-else-s-lt16.ensures ∙ ascii_is c.args.s.now
