-- `read_tag::signs::skip_spaces` meets its contract. Assumes nothing.
use Rattle.read_tag.proofs.RunLaws.{ran}
use Rattle.read_tag.proofs.signs.skip_spaces.Goals as goal

pub returns : goal.returns
returns c = ran _ _ _ c.requires c.run_end.ensures.place
