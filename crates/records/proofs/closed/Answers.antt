-- `closed` meets its contract: the strings are closed, the kinds put before them, and the front before these. Assumes nothing.
use Rattle.records.proofs.Templates.{end_is}
use Rattle.records.proofs.closed.Goals as goal

pub returns : goal.returns
returns c = let a = c.args in end_is a.n a.st a.out.now a.«open»
    c.put_head.ensures.out_is c.put_gaps.ensures c.put_head-2.ensures.out_is c.put_four.ensures.out_is c.put_two.ensures.out_is
    c.with_body.ensures c.with_body-2.ensures
