-- `standing::number_at` meets its contract. Assumes nothing.
use Rattle.catalogue_calls.proofs.PageLaws.{four_read}
use Rattle.catalogue_calls.proofs.standing.number_at.Goals as goal

pub returns : goal.returns
returns c = let e = c.in_ok-number.ensures.cases in four_read _ _ _ e.0 e.1 e.2 c.from_be_bytes.ensures
