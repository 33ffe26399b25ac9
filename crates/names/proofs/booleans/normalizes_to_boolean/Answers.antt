-- `normalizes_to_boolean` meets its contract: no listed name becomes a boolean one, so small letters are enough.
use mathlib.Core.Path.{◌≡◌, refl, sym, ◌∙◌}
use mathlib.Core.Bool.{true, ◌&&◌, not}
use Rattle.field.specs.Bytes.{same, among}
use Rattle.names.specs.Names.{boolean_names, is_boolean_attr, hyphenated_names, kept_names, renamed, small_letter, small_letters, parted}
use Rattle.names.proofs.NormalizeLaws.{over_lists, small_enough}
use Rattle.names.proofs.booleans.normalizes_to_boolean.Goals as goal

no_listed : over_lists (λ w v. not (is_boolean_attr v) && not (is_boolean_attr (small_letters w))) ≡ true
unfolding same among is_boolean_attr boolean_names renamed hyphenated_names kept_names small_letter small_letters parted
no_listed = refl

pub returns : goal.returns
returns c = c.is_boolean.ensures ∙ sym (small_enough is_boolean_attr no_listed c.args.name.now)
