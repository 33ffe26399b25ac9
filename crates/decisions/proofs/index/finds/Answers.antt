use Rattle.decisions.proofs.IndexLaws.{listed_series, listed_chain}
use Rattle.decisions.proofs.index.finds.Goals as goal

pub returns-then-list-le-MAX_OPTIONS : goal.returns-then-list-le-MAX_OPTIONS
returns-then-list-le-MAX_OPTIONS g c = listed_series _ _ c.if-list-le-MAX_OPTIONS.true c.in_series.ensures

pub returns-else-list-le-MAX_OPTIONS : goal.returns-else-list-le-MAX_OPTIONS
returns-else-list-le-MAX_OPTIONS g c = listed_chain _ _ c.if-list-le-MAX_OPTIONS.false c.has.ensures
