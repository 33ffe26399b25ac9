use mathlib.Core.Path.{◌≡◌}
use Rattle.strings.specs.Carve.{at, carve}
use Rattle.strings.proofs.TreeLaws.{attrs_at}
use Rattle.strings.proofs.attributes.attributes_strings.Given as goal

abbrev pub invariant-loop-a : goal.invariant-loop-a
invariant-loop-a l = carve (attrs_at l.options.skip.now l.options.props.now l.a-iterator.0.now) (at l.out l.cur) ≡ carve (attrs_at l.options.skip.now l.options.props.now l.s) (at l.initial.out l.initial.cur)
