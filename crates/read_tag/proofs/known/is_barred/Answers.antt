-- `read_tag::known::is_barred` meets its contract. Assumes nothing.
use mathlib.Core.Path.{◌∙◌, ap}
use Rattle.grammar.specs.Known.{not_read, of_a_number, digit_or_point}
use Rattle.read_tag.proofs.RunLaws.{any_some}
use Rattle.read_tag.proofs.ChoiceLaws.{barred_sign, barred_other, barred_number}
use Rattle.read_tag.proofs.known.is_barred.Goals as goal

pub returns-then-holds_not_read : goal.returns-then-holds_not_read
returns-then-holds_not_read c = barred_sign _ _ (c.holds_not_read.ensures ∙ any_some not_read _) c.if-holds_not_read.true

pub returns-else-begins_number : goal.returns-else-begins_number
returns-else-begins_number c = barred_other _ _ (c.holds_not_read.ensures ∙ any_some not_read _) c.if-holds_not_read.false _ (c.begins_number.ensures ∙ ap digit_or_point c.requires) c.if-begins_number.false

pub returns-then-begins_number : goal.returns-then-begins_number
returns-then-begins_number c = barred_number _ _ (c.holds_not_read.ensures ∙ any_some not_read _) c.if-holds_not_read.false _ (c.begins_number.ensures ∙ ap digit_or_point c.requires) c.if-begins_number.true _ (c.holds_of_number.ensures ∙ any_some of_a_number _)
