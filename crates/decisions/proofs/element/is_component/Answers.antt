use mathlib.Core.Path.{ap, ◌∙◌}
use Rattle.spec.specs.Attributes.{is_component}
use Rattle.decisions.proofs.element.is_component.Goals as goal

pub returns-in-Identifier : goal.returns-in-Identifier
unfolding is_component
returns-in-Identifier c = c.is_upper.ensures ∙ ap is_component c.in-Identifier.ensures

pub returns-in-Member : goal.returns-in-Member
unfolding is_component
returns-in-Member c = ap is_component c.in-Member.ensures

pub returns-in-Namespaced : goal.returns-in-Namespaced
unfolding is_component
returns-in-Namespaced c = ap is_component c.in-Namespaced.ensures
