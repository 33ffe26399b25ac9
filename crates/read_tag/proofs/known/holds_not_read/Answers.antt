-- `read_tag::known::holds_not_read` meets its contract. Assumes nothing.
use mathlib.Core.Path.{◌∙◌, ap}
use mathlib.Core.Bool.{not}
use Rattle.grammar.specs.Known.{not_read}
use Rattle.read_tag.proofs.RunLaws.{not_all}
use Rattle.read_tag.proofs.known.holds_not_read.Goals as goal

pub returns : goal.returns
returns c = ap not c.is_run.ensures ∙ not_all not_read c.args.s.now
