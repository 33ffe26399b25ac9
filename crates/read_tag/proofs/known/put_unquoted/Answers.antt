-- `read_tag::known::put_unquoted` meets its contract. Assumes nothing.
use mathlib.Core.Path.{◌∙◌, ap}
use Rattle.std.specs.Prelude.{Some}
use Rattle.read_tag.proofs.ChoiceLaws.{unquoted_rest, unquoted_whole, unquoted_scaled}
use Rattle.read_tag.proofs.known.put_unquoted.Goals as goal

pub returns-in-None : goal.returns-in-None
returns-in-None c = unquoted_rest _ _ c.sign_of-number.ensures.minus _ c.sign_of-number.ensures.rest _ c.read_number.ensures _ _ _ _ c.in-None.is c.put_rest.ensures

pub returns-in-Some-Whole : goal.returns-in-Some-Whole
returns-in-Some-Whole c = unquoted_whole _ _ c.sign_of-number.ensures.minus _ c.sign_of-number.ensures.rest _ c.read_number.ensures _ _ _ _ _ (c.in-Some-Whole.is ∙ ap Some c.in-Some-Whole.field-0-is) c.put_whole.ensures

pub returns-in-Some-Scaled : goal.returns-in-Some-Scaled
returns-in-Some-Scaled c = unquoted_scaled _ _ c.sign_of-number.ensures.minus _ c.sign_of-number.ensures.rest _ c.read_number.ensures _ _ _ _ _ _ (c.in-Some-Scaled.is ∙ ap Some c.in-Some-Scaled.field-0-is) c.put_scaled.ensures
