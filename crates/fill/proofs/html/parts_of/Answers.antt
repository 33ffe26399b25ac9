-- `html::parts_of` meets its contract: the count says where the strings begin. Assumes nothing.
use native.Mathlib.Omega.{arith}
use Rattle.fill.proofs.PartLaws.{has_six, has_front, parts_are}
use Rattle.fill.proofs.html.parts_of.Goals as goal

pub counted_front-front-requires : goal.counted_front-front-requires
counted_front-front-requires c = has_six c.args.body.now c.requires

pub slice_bounds-result-end : goal.slice_bounds-result-end
slice_bounds-result-end c = omega (arith, has_front c.args.body.now c.requires, c.counted_front-front.ensures)

pub slice_bounds-result-count-2 : goal.slice_bounds-result-count-2
slice_bounds-result-count-2 c = omega (arith, has_front c.args.body.now c.requires, c.counted_front-front.ensures)

pub slice_bounds-result-start-2 : goal.slice_bounds-result-start-2
slice_bounds-result-start-2 c = omega (arith, has_front c.args.body.now c.requires, c.counted_front-front.ensures)

pub returns : goal.returns
returns c = parts_are c.args.body.now c.requires c.counted_front-front.ensures
