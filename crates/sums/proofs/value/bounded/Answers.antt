-- `sums::value::bounded` meets its contract. Assumes nothing.
use mathlib.Core.Path.{◌∙◌, ap}
use lib.Dec.{leb}
use Rattle.std.specs.Bool.{then_some}
use Rattle.sums.specs.Value.{most}
use Rattle.sums.proofs.Steps.{bounded_is}
use Rattle.sums.proofs.value.bounded.Goals as goal

pub returns : goal.returns
returns c = c.then_some.ensures ∙ ap (λ k. then_some (leb k most) c.args.n) c.size.ensures ∙ bounded_is _
