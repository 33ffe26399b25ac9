use mathlib.Core.Path.{sym}
use native.Mathlib.Omega.{arith}
use Rattle.decisions.proofs.IndexLaws.{listed_empty}
use Rattle.decisions.proofs.attribute.is_listed.Goals as goal

pub returns-else-not-is_empty : goal.returns-else-not-is_empty
returns-else-not-is_empty c = rw c.if-not-is_empty.false (sym (listed_empty _ _ (grind arith)))
