-- One without a value is a property; else `key` is none, and then by the value.
use mathlib.Core.Path.{sym, ◌∙◌}
use Rattle.decisions.proofs.BecomesLaws.{held_as, held_stands, braces_full, braces_empty, property_none, property_key, property_string, property_expr, property_empty, property_tag}
use Rattle.decisions.proofs.becomes.as_property.Goals as goal

pub returns-in_default-clause-is : goal.returns-in_default-clause-is
returns-in_default-clause-is c = property_none _ _ c.in_default.ensures

pub returns-then-is_key-clause-is : goal.returns-then-is_key-clause-is
returns-then-is_key-clause-is c = property_key _ _ _ (held_stands _ _ c.in-Some.ensures) (sym c.is_key.ensures ∙ c.if-is_key.true)

pub returns-in-String-clause-is : goal.returns-in-String-clause-is
returns-in-String-clause-is c = property_string _ _ (held_as _ c.in-Some.ensures c.in-String.is) (sym c.is_key.ensures ∙ c.if-is_key.false)

pub returns-in-Container-clause-is : goal.returns-in-Container-clause-is
returns-in-Container-clause-is c = property_expr _ _ (held_as _ c.in-Some.ensures c.in-Container.is).0 (braces_full _ c.field_at.result c.field_at.ensures (sym c.is_some.ensures ∙ c.if-is_some.true)) (sym c.is_key.ensures ∙ c.if-is_key.false)

pub returns-in-Container-2-clause-is : goal.returns-in-Container-2-clause-is
returns-in-Container-2-clause-is c = property_empty _ _ (held_as _ c.in-Some.ensures c.in-Container.is).0 (braces_empty _ c.field_at.result c.field_at.ensures (sym c.is_some.ensures ∙ c.if-is_some.false))

pub returns-in-Tag-clause-is : goal.returns-in-Tag-clause-is
returns-in-Tag-clause-is c = property_tag _ _ (held_as _ c.in-Some.ensures c.in-Tag.is).0
