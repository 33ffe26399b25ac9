use mathlib.Core.Path.{sym, ◌∙◌}
use mathlib.Core.Bool.{false}
use Rattle.names.proofs.VoidLaws.{never_void}
use Rattle.names.proofs.elements.is_void_element.Goals as goal

pub returns-else-may_be_void : goal.returns-else-may_be_void
returns-else-may_be_void c = c.if-may_be_void.false ∙ sym (never_void false _ (sym c.may_be_void.ensures ∙ c.if-may_be_void.false))
