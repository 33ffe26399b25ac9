use mathlib.Core.Path.{sym}
use native.Mathlib.Omega.{arith}
use Rattle.decisions.proofs.ElementLaws.{forbids_empty}
use Rattle.decisions.proofs.element.keeps_from.Goals as goal

pub returns-else-not-is_empty : goal.returns-else-not-is_empty
returns-else-not-is_empty c = rw c.if-not-is_empty.false (sym (forbids_empty _ (grind arith)))
