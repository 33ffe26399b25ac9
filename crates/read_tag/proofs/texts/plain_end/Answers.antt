-- `read_tag::texts::plain_end` meets its contract. Assumes nothing.
use native.Mathlib.Omega.{arith}
use Rattle.read_tag.proofs.RunLaws.{ran}
use Rattle.read_tag.specs.Texts.{plain}
use Rattle.read_tag.proofs.texts.plain_end.Goals as goal

pub returns-in-Tags : goal.returns-in-Tags
unfolding plain
returns-in-Tags c = rw c.in-Tags.is (ran _ _ _ (omega arith) c.run_end.ensures.place)

pub returns-in-Quotes : goal.returns-in-Quotes
unfolding plain
returns-in-Quotes c = rw c.in-Quotes.is (ran _ _ _ (omega arith) c.run_end-in-Quotes.ensures.place)
