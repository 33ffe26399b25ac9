-- By the value: braces are read for whether they hold something.
use mathlib.Core.Path.{sym, ◌∙◌}
use Rattle.decisions.proofs.BecomesLaws.{held_as, braces_full, braces_empty, listed_none, listed_one, listed_tag}
use Rattle.decisions.proofs.becomes.listed_in_tag.Goals as goal

pub returns-in-Container-clause-is : goal.returns-in-Container-clause-is
returns-in-Container-clause-is c = listed_one (held_as _ c.in-Some.ensures c.in-Container.is).0 (braces_full _ c.field_at.result c.field_at.ensures (sym c.is_some.ensures ∙ c.if-is_some.true))

pub returns-in-Container-2-clause-is : goal.returns-in-Container-2-clause-is
returns-in-Container-2-clause-is c = listed_none (held_as _ c.in-Some.ensures c.in-Container.is).0 (braces_empty _ c.field_at.result c.field_at.ensures (sym c.is_some.ensures ∙ c.if-is_some.false))

pub returns-in-Tag-clause-is : goal.returns-in-Tag-clause-is
returns-in-Tag-clause-is c = listed_tag (held_as _ c.in-Some.ensures c.in-Tag.is).0
