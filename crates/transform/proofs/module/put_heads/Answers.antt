-- `put_heads` meets its contract: by what is due. Assumes nothing.
use Rattle.transform.proofs.HeadLaws.{heads_both, heads_import, heads_none}
use Rattle.transform.proofs.module.put_heads.Goals as goal

pub returns-then-w-gt1 : goal.returns-then-w-gt1
returns-then-w-gt1 c = λ o a b g k l.
    heads_both _ _ o a b g k l c.import_len-n.ensures c.helper_sum-sum.ensures c.if-w-gt1.true c.move_up.ensures c.put_head.ensures c.move_up-then-w-gt1.ensures c.put_import.ensures c.at_page.ensures

pub returns-then-sum-eq0 : goal.returns-then-sum-eq0
returns-then-sum-eq0 c = λ o a b g k l.
    heads_none _ _ o a b g k l c.if-w-gt1.false c.helper_sum-sum.ensures c.if-sum-eq0.true

pub returns : goal.returns
returns c = λ o a b g k l.
    heads_import _ _ o a b g k l c.import_len-n-2.ensures c.helper_sum-sum.ensures c.if-w-gt1.false c.if-sum-eq0.false c.move_up-2.ensures c.put_import-2.ensures c.at_page-2.ensures
