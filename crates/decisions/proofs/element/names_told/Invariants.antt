use mathlib.Core.Path.{◌≡◌}
use Rattle.field.specs.Row.{read}
use Rattle.page.specs.Tree.{attributes_in}
use Rattle.decisions.specs.At.{forbids}
use Rattle.std.specs.Int.{bit_at}
use Rattle.decisions.specs.Repeats.{names_in, ends_key, inner_html_key}
use Rattle.decisions.proofs.RepeatLaws.{SeenSoFar}
use Rattle.decisions.proofs.element.names_told.Given as goal

abbrev pub invariant-loop-field : goal.invariant-loop-field
invariant-loop-field l = (forbids (attributes_in (read l.field-iterator.0.now)) ≡ forbids (attributes_in (read l.s))) × SeenSoFar ends_key (names_in l.s) l.seen (names_in l.field-iterator.0.now) × (bit_at l.seen inner_html_key ≡ 1)
