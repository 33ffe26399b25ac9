-- `page::name::check_members` meets its contract: n members are passed, so that n fewer may and n fewer must come. Assumes nothing.
use mathlib.Core.Path.{◌≡◌, sym, ◌∙◌}
use native.Mathlib.Omega.{arith}
use Rattle.page.proofs.Steps.{on_at, exit_at, next_at}
use Rattle.page.proofs.RowEnds.{members_few, members_enough, members_other, members_next, members_full}
use Rattle.page.proofs.name.check_members.Goals as goal

pub returns-in_err-check_depth-in-Some-eq64 : goal.returns-in_err-check_depth-in-Some-eq64
returns-in_err-check_depth-in-Some-eq64 c = exit_at (members_next _ _ c.loop-n.invariant c.in-Some-eq64.ensures.steps (omega arith) c.loop-n-test.true) c.check_depth.ensures.gives c.in_err-check_depth-in-Some-eq64.was c.from_residual.ensures

pub returns-in_err-check_member-in-Some-eq64 : goal.returns-in_err-check_member-in-Some-eq64
returns-in_err-check_member-in-Some-eq64 c = exit_at (next_at (members_next _ _ c.loop-n.invariant c.in-Some-eq64.ensures.steps (omega arith) c.loop-n-test.true) c.check_depth.ensures.gives c.in_ok-check_depth-in-Some-eq64.was) c.check_member.ensures c.in_err-check_member-in-Some-eq64.was c.from_residual-in_err-check_member-in-Some-eq64.ensures

pub returns-in-Some : goal.returns-in-Some
returns-in-Some c = members_other _ _ c.loop-n.invariant c.in-Some.ensures.steps (λ z. omega (arith, z))

pub returns-in-None : goal.returns-in-None
returns-in-None c = c.check_missing.ensures ∙ members_few _ _ c.loop-n.invariant c.in-None.ensures.steps c.if-n-lt-MIN_MEMBERS.true

pub returns-in-None-2 : goal.returns-in-None-2
returns-in-None-2 c = c.check_nothing_after.ensures ∙ members_enough _ _ c.loop-n.invariant c.in-None-2.ensures.steps c.if-n-lt-MIN_MEMBERS.false

pub loop-n-preserved : goal.loop-n-preserved
loop-n-preserved c = on_at (next_at (members_next _ _ c.loop-n.invariant c.in-Some-eq64.ensures.steps (omega arith) c.loop-n-test.true) c.check_depth.ensures.gives c.in_ok-check_depth-in-Some-eq64.was) c.check_member.ensures c.in_ok-check_member-in-Some-eq64.was

pub returns : goal.returns
returns c =
    let n : c.loop-n.n ≡ 8 = omega arith in
    c.check_end.ensures ∙ members_full _ _ ∙ sym (rw n at c.loop-n.invariant)
