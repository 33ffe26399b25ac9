-- `fill_kinds` meets its contract: each kind is what the strings so far leave. Assumes nothing.
use mathlib.Core.Path.{ap, ◌∙◌}
use Prim.Native.Nat.{◌+◌}
use lib.ListN.{set}
use native.Mathlib.Omega.{arith}
use Rattle.records.specs.Kinds.{sign_of, kind_at}
use Rattle.records.specs.declared.kinds.Sign.{Sign}
use Rattle.records.proofs.KindLaws.{to_come, none_written, one_written, gone_written, all_written}
use Rattle.records.proofs.kinds.fill_kinds.Goals as goal
use Rattle.records.proofs.kinds.fill_kinds.Goals.{in-Some, in_default}

pub loop-kind-init : goal.loop-kind-init
loop-kind-init c = none_written c.args.kinds.now c.args.strings.now

pub loop-kind-preserved : goal.loop-kind-preserved
loop-kind-preserved c =
    let ks = c.loop-kind.kinds in
    let i = c.loop-kind.kind-index in
    elim c.match-next.branch [
      | in-Some w ↦
          let f = w.in-Some.ensures.steps in
          one_written ks i _ _ (omega arith) f.body_is f.behind_is (ap sign_of w.q-is ∙ w.sign_after-q.ensures) c.kind_at.ensures ∙ c.loop-kind.invariant
      | in_default w ↦
          let e = w.in_default.ensures.steps in
          ap (λ (x : Sign). to_come (set ks i c.kind_at.result) (i + 1) (sign_of x) c.next.new.self.0.now) w.q-is
          ∙ gone_written ks i _ _ (omega arith) e.ended e.stays (c.kind_at.ensures ∙ ap (λ (x : Sign). kind_at (sign_of x)) w.q-is)
          ∙ c.loop-kind.invariant
    ]

pub returns : goal.returns
returns c = all_written _ _ _ _ (omega (arith, c.loop-kind-test.false, c.loop-kind.auto.kinds)) ∙ c.loop-kind.invariant
