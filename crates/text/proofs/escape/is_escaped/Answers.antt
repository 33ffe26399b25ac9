-- `text::escape::is_escaped` meets its contract: escaping changes nothing where all bytes are plain.
use mathlib.Core.Path.{◌∙◌}
use Rattle.text.proofs.EscapeLaws.{is_escaped_by_all}
use Rattle.text.proofs.escape.is_escaped.Goals as goal

pub returns : goal.returns
returns c = c.is_run.ensures ∙ is_escaped_by_all c.args.s.now
