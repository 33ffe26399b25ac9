-- `normalizes_to_ref` meets its contract: no listed name becomes `ref`, so small letters are enough.
use mathlib.Core.Path.{◌≡◌, refl, sym, ◌∙◌}
use mathlib.Core.Bool.{true, ◌&&◌, not}
use Rattle.field.specs.Bytes.{ascii, same}
use Rattle.names.specs.Names.{hyphenated_names, kept_names, renamed, small_letter, small_letters, parted}
use Rattle.names.proofs.NormalizeLaws.{over_lists, small_enough}
use Rattle.names.proofs.attributes.normalizes_to_ref.Goals as goal

no_listed : over_lists (λ w v. not (same v (ascii "ref")) && not (same (small_letters w) (ascii "ref"))) ≡ true
unfolding same renamed hyphenated_names kept_names small_letter small_letters parted
no_listed = refl

pub returns : goal.returns
returns c = c.letters_are.ensures ∙ sym (small_enough (λ v. same v (ascii "ref")) no_listed c.args.name.now)
