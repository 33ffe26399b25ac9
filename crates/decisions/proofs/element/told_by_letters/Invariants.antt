use mathlib.Core.Path.{◌≡◌}
use Rattle.field.specs.Row.{read}
use Rattle.page.specs.Tree.{attributes_in}
use Rattle.decisions.specs.At.{forbids}
use Rattle.decisions.specs.Repeats.{names_in, letter_key}
use Rattle.decisions.proofs.RepeatLaws.{SeenSoFar}
use Rattle.decisions.proofs.element.told_by_letters.Given as goal

abbrev pub invariant-loop-field : goal.invariant-loop-field
invariant-loop-field l = (forbids (attributes_in (read l.field-iterator.0.now)) ≡ forbids (attributes_in (read l.s))) × SeenSoFar letter_key (names_in l.s) l.noted (names_in l.field-iterator.0.now)
