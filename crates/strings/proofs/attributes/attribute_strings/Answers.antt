-- By what becomes of it.
use mathlib.Core.Path.{◌∙◌}
use Rattle.strings.specs.Carve.{carve}
use Rattle.strings.proofs.ShapeLaws.{by_fate, fate_room}
use Rattle.strings.proofs.attributes.attribute_strings.Goals as goal

pub put_boolean_name-requires : goal.put_boolean_name-requires
put_boolean_name-requires c = fate_room _ _ _ c.in-Name.ensures.is _ c.requires

pub put_serialized-requires : goal.put_serialized-requires
put_serialized-requires c = fate_room _ _ _ c.in-Text.ensures.is _ c.requires

pub space_and_cut-requires : goal.space_and_cut-requires
unfolding carve
space_and_cut-requires c = fate_room _ _ _ c.in-Gap.ensures.is _ c.requires

pub returns-in-Nothing : goal.returns-in-Nothing
unfolding carve
returns-in-Nothing c = by_fate _ _ _ c.in-Nothing.ensures.is _

pub returns-in-Name : goal.returns-in-Name
returns-in-Name c = c.put_boolean_name.ensures ∙ by_fate _ _ _ c.in-Name.ensures.is _

pub returns-in-Text : goal.returns-in-Text
returns-in-Text c = c.put_serialized.ensures ∙ by_fate _ _ _ c.in-Text.ensures.is _

pub returns-in-Gap : goal.returns-in-Gap
unfolding carve
returns-in-Gap c = c.space_and_cut.ensures ∙ by_fate _ _ _ c.in-Gap.ensures.is _
