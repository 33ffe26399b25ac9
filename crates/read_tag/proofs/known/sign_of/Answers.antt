-- `read_tag::known::sign_of` meets its contract. Assumes nothing.
use native.Mathlib.Omega.{arith}
use borrow.Author.Rules.{rules}
use Rattle.std.proofs.lemmas.List.{take_rest}
use Rattle.read_tag.proofs.KnownLaws.{minus_front, behind_minus, no_minus, no_first}
use Rattle.read_tag.proofs.known.sign_of.Goals as goal
use Rattle.read_tag.proofs.known.sign_of.Goals.{in_default-via-then-s-lt1, in_default-via-else-s-lt1+in_default-1}

pub returns-in-45-clause-minus : goal.returns-in-45-clause-minus
returns-in-45-clause-minus c = minus_front c.args.s.now (omega arith)

pub returns-in-45-clause-rest : goal.returns-in-45-clause-rest
returns-in-45-clause-rest c = behind_minus c.args.s.now _ _ (omega arith) (take_rest c.args.s.now 1) c.skip_spaces.ensures

pub returns-in_default-clause-minus : goal.returns-in_default-clause-minus
returns-in_default-clause-minus c =
    elim c.in_default.branch [
      | in_default-via-then-s-lt1 w ↦ (no_minus c.args.s.now (no_first c.args.s.now (search rules))).0
      | in_default-via-else-s-lt1+in_default-1 w ↦ (no_minus c.args.s.now (search rules)).0
    ]

pub returns-in_default-clause-rest : goal.returns-in_default-clause-rest
returns-in_default-clause-rest c =
    elim c.in_default.branch [
      | in_default-via-then-s-lt1 w ↦ (no_minus c.args.s.now (no_first c.args.s.now (search rules))).1
      | in_default-via-else-s-lt1+in_default-1 w ↦ (no_minus c.args.s.now (search rules)).1
    ]
