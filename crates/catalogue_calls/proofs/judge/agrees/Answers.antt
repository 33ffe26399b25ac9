-- `judge::agrees` meets its contract. Assumes nothing.
use native.Mathlib.Omega.{arith}
use Rattle.catalogue_calls.proofs.JudgeLaws.{parts_agree}
use Rattle.catalogue_calls.proofs.judge.agrees.Goals as goal

pub slice_bounds-are_kinds-end : goal.slice_bounds-are_kinds-end
slice_bounds-are_kinds-end c = omega (arith, c.counted_front-front.ensures, c.requires.1)

pub returns : goal.returns
returns c = parts_agree c.args.w.now _ c.counted_front-front.ensures c.are_kinds.ensures
