-- `sum_in` meets its contract. The sum is the byte behind the source; anything else there is none.
use Rattle.printing.proofs.LineLaws.{sum_field, sum_first}
use Rattle.printing.proofs.lines.sum_in.Goals as goal

pub returns-in-Some : goal.returns-in-Some
returns-in-Some c = sum_field _ c.behind-t.ensures c.in-Some.ensures

pub returns-in-None : goal.returns-in-None
returns-in-None c = sum_first _ c.behind-t.ensures c.in-None.ensures.ended c.first.ensures.value c.copied.ensures c.unwrap_or.ensures
