-- `sums::value::difference` meets its contract. Assumes nothing.
use mathlib.Core.Path.{sym, ◌∙◌, ap}
use native.Mathlib.Omega.{arith}
use Prim.Native.Nat.{◌-◌}
use Rattle.sums.specs.Small.{bounded}
use Rattle.sums.proofs.Steps.{difference_up, difference_down}
use Rattle.sums.proofs.value.difference.Goals as goal
use Rattle.sums.proofs.value.difference.Goals.{then-b-a, else-b-a}

pub returns : goal.returns
returns c =
    let a = c.args.a in
    let b = c.args.b in
    c.bounded.ensures ∙ elim c.if-b-a.branch [
      | then-b-a w ↦ ap bounded w.bounded-is ∙ sym (difference_up a b (a - b) (omega arith))
      | else-b-a w ↦ ap bounded w.bounded-is ∙ sym (difference_down a b (b - a) (omega arith) (omega arith))
    ]
