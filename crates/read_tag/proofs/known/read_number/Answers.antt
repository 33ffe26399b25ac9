-- `read_tag::known::read_number` meets its contract. Assumes nothing.
use native.Mathlib.Omega.{arith}
use Rattle.std.proofs.lemmas.List.{take_rest}
use Rattle.read_tag.proofs.DigitLaws.{number_none, number_zero, number_whole, number_other, number_broken, number_decimal}
use Rattle.read_tag.proofs.known.read_number.Goals as goal
use Rattle.read_tag.proofs.known.read_number.Goals.{then-whole-eq0-via-then-whole-eq0, then-whole-eq0-via-else-whole-eq0+then-s-whole}

pub returns-then-whole-eq0 : goal.returns-then-whole-eq0
returns-then-whole-eq0 c =
    elim c.then-whole-eq0.branch [
      | then-whole-eq0-via-then-whole-eq0 w ↦ number_none _ _ c.read_digits-whole.ensures w.if-whole-eq0.true
      | then-whole-eq0-via-else-whole-eq0+then-s-whole w ↦ number_zero _ _ c.read_digits-whole.ensures w.if-s-whole.true
    ]

pub returns-in-empty : goal.returns-in-empty
returns-in-empty c = number_whole _ _ c.read_digits-whole.ensures c.if-whole-eq0.false c.if-s-whole.false _ (take_rest c.args.s.now _) c.in-empty.len_below

pub returns-in_default : goal.returns-in_default
returns-in_default c = number_other _ _ c.read_digits-whole.ensures c.if-whole-eq0.false c.if-s-whole.false _ (take_rest c.args.s.now _) c.in_default.len_at_least (λ e. omega arith)

pub returns-then-all-places : goal.returns-then-all-places
returns-then-all-places c = number_broken _ _ c.read_digits-whole.ensures c.if-whole-eq0.false c.if-s-whole.false _ (take_rest c.args.s.now _) c.in-46.len_at_least (omega arith) _ (take_rest _ 1) _ c.read_digits-all.ensures c.if-all-places.true

pub returns-else-all-places : goal.returns-else-all-places
returns-else-all-places c = number_decimal _ _ c.read_digits-whole.ensures c.if-whole-eq0.false c.if-s-whole.false _ (take_rest c.args.s.now _) c.in-46.len_at_least (omega arith) _ (take_rest _ 1) _ c.read_digits-all.ensures c.if-all-places.false
