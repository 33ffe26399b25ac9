-- `catalogue_calls::numbers::raise` meets its contract. Assumes nothing.
use Rattle.catalogue_calls.proofs.Four.{raised_put}
use Rattle.catalogue_calls.proofs.numbers.raise.Goals as goal

pub returns : goal.returns
returns c = raised_put c.args.s.now c.args.at c.args.by c.requires c.four_in.ensures c.put_four.ensures.out_is
