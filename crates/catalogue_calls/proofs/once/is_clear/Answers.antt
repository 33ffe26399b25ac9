-- One walk: what has been passed is counted and marked, and each early return shows that the numbers are not each once. Assumes nothing.
use mathlib.Core.Logic.{inl, inr}
use native.Mathlib.Omega.{arith}
use Rattle.catalogue_calls.proofs.OnceLaws.{passed_none, passed_next, passed_by, passed_marked, passed_end, too_many, beyond, twice}
use Rattle.catalogue_calls.proofs.once.is_clear.Goals as goal
use Rattle.catalogue_calls.proofs.once.is_clear.Goals.{then-left-eq0-via-then-left-eq0, then-left-eq0-via-else-left-eq0+then-number-eq0, then-left-eq0-via-else-left-eq0+else-number-eq0+then-number-count, else-number-low-via-then-number-low+then-number-low-2+else-not-mark, else-number-low-via-then-number-low+else-number-low-2, else-number-low-via-else-number-low}

pub loop-raised-init : goal.loop-raised-init
loop-raised-init g c = passed_none _ _ _ _

pub returns-then-left-eq0 : goal.returns-then-left-eq0
returns-then-left-eq0 g c =
    let p = passed_next (omega arith) c.in-Some.ensures.0 c.loop-raised.invariant in
    elim c.then-left-eq0.branch [
      | then-left-eq0-via-then-left-eq0 w ↦ too_many p w.if-left-eq0.true
      | then-left-eq0-via-else-left-eq0+then-number-eq0 w ↦ beyond p (inl (omega arith))
      | then-left-eq0-via-else-left-eq0+else-number-eq0+then-number-count w ↦ beyond p (inr (omega arith))
    ]

pub returns-then-not-mark : goal.returns-then-not-mark
returns-then-not-mark g c =
    let p = passed_next (omega arith) c.in-Some.ensures.0 c.loop-raised.invariant in
    twice p (omega arith) (omega arith) (omega arith) c.if-not-mark.ensures

pub loop-raised-preserved : goal.loop-raised-preserved
loop-raised-preserved g c =
    let p = passed_next (omega arith) c.in-Some.ensures.0 c.loop-raised.invariant in
    elim c.else-number-low.branch [
      | else-number-low-via-then-number-low+then-number-low-2+else-not-mark w ↦ rw w.words-is (passed_marked p (omega arith) (omega arith) (omega arith) w.mark.auto.words w.if-not-mark.ensures)
      | else-number-low-via-then-number-low+else-number-low-2 w ↦ rw w.words-is (passed_by p (omega arith) (omega arith) (omega arith) (inr (omega arith)))
      | else-number-low-via-else-number-low w ↦ rw w.words-is (passed_by p (omega arith) (omega arith) (omega arith) (inl (omega arith)))
    ]

pub returns : goal.returns
returns g c = passed_end c.args.before c.in_default.ensures c.loop-raised.invariant
