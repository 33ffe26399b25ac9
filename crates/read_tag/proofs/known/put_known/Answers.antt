-- `read_tag::known::put_known` meets its contract. Assumes nothing.
use Rattle.read_tag.proofs.ChoiceLaws.{known_trims}
use Rattle.read_tag.proofs.known.put_known.Goals as goal

pub returns : goal.returns
returns c = known_trims _ _ _ _ _ _ c.trim_end.ensures.value c.put_trimmed.ensures
