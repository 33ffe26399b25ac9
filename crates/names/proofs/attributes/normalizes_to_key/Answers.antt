-- `normalizes_to_key` meets its contract: no listed name becomes `key`, so small letters are enough.
use mathlib.Core.Path.{◌≡◌, refl, sym, ◌∙◌}
use mathlib.Core.Bool.{true, ◌&&◌, not}
use Rattle.field.specs.Bytes.{ascii, same}
use Rattle.names.specs.Names.{hyphenated_names, kept_names, renamed, small_letter, small_letters, parted}
use Rattle.names.proofs.NormalizeLaws.{over_lists, small_enough}
use Rattle.names.proofs.attributes.normalizes_to_key.Goals as goal

no_listed : over_lists (λ w v. not (same v (ascii "key")) && not (same (small_letters w) (ascii "key"))) ≡ true
unfolding same renamed hyphenated_names kept_names small_letter small_letters parted
no_listed = refl

pub returns : goal.returns
returns c = c.letters_are.ensures ∙ sym (small_enough (λ v. same v (ascii "key")) no_listed c.args.name.now)
