-- `put_kinds` meets its contract. Assumes nothing.
use Rattle.records.proofs.KindLaws.{kinds_put}
use Rattle.records.proofs.kinds.put_kinds.Goals as goal

pub returns : goal.returns
returns c = let e = c.split_at_mut-front.ensures in kinds_put _ _ _ _ _ _ e.value e.front_len c.requires.0 c.fill_kinds.ensures
