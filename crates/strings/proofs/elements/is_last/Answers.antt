-- No child follows where the series, from its first child on, is empty. Assumes nothing.
use mathlib.Core.Path.{◌∙◌}
use Rattle.strings.proofs.ElementLaws.{last_child}
use Rattle.strings.proofs.elements.is_last.Goals as goal

pub returns-then-parent : goal.returns-then-parent
returns-then-parent c = c.is_empty.ensures ∙ last_child c.if-parent.true c.children_at.ensures.first
