use mathlib.Core.Path.{◌∙◌}
use Rattle.decisions.proofs.IndexLaws.{name_here}
use Rattle.decisions.proofs.index.Index.name.Goals as goal

pub returns : goal.returns
returns c = c.body.ensures ∙ name_here _ _ c.two_at-place.ensures.0 c.min.ensures
