use mathlib.Core.Path.{◌∙◌}
use native.Mathlib.Omega.{arith}
use Rattle.decisions.proofs.IndexLaws.{two_within, two_past}
use Rattle.decisions.proofs.index.two_at.Goals as goal
use Rattle.decisions.proofs.index.two_at.Goals.{else-i-b-via-then-i-b+else-b-i-gt1, else-i-b-via-else-i-b}

pub returns-then-b-i-gt1 : goal.returns-then-b-i-gt1
returns-then-b-i-gt1 c = (c.from.ensures ∙ c.from_be_bytes.ensures ∙ two_within _ _ (omega arith), omega (arith, c.from.ensures, c.from_be_bytes.type_inv))

pub returns-else-i-b : goal.returns-else-i-b
returns-else-i-b c = (
  two_past _ _ (elim c.else-i-b.branch [
    | else-i-b-via-then-i-b+else-b-i-gt1 w ↦ omega arith
    | else-i-b-via-else-i-b w ↦ omega arith
  ]),
  omega arith,
)
