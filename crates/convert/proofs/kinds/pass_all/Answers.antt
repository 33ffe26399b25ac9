-- `kinds::pass_all` meets its contract: what is left of the text goes on from where we are. Assumes nothing.
use mathlib.Core.Path.{sym, ap, ◌∙◌}
use native.Mathlib.Omega.{arith}
use Rattle.convert.specs.Kinds.{passed, all_passed}
use Rattle.convert.proofs.KindLaws.{passes_all}
use Rattle.convert.proofs.PlainLaws.{run_over, first_over}
use Rattle.convert.proofs.kinds.pass_all.Goals as goal
use Rattle.convert.proofs.kinds.pass_all.Goals.{in-Entered, in_default-q, in_default-2}

pub loop-left-preserved : goal.loop-left-preserved
loop-left-preserved c =
    let l = c.loop-left in
    let u = c.in-len1-up.len_at_least in
    elim c.match-q.branch [
      | in-Entered w ↦ l.invariant ∙ first_over l.q l.left.now (omega arith) (c.pass-q.ensures ∙ ap (λ z. passed l.q z.0) w.last-is) ∙ ap (λ z. all_passed c.pass-q.result z.1.now) (sym w.last-is)
      | in_default-q w ↦ l.invariant ∙ run_over l.left.now (omega arith) w.in_default-q.not-Entered w.run_from.ensures (c.pass-q.ensures ∙ ap (λ z. passed l.q z.0) w.last-is) ∙ ap (λ z. all_passed c.pass-q.result z.1.now) (sym w.last-is)
      | in_default-2 w ↦ l.invariant ∙ first_over l.q l.left.now (omega arith) (c.pass-q.ensures ∙ ap (λ z. passed l.q z.0) w.last-is) ∙ ap (λ z. all_passed c.pass-q.result z.1.now) (sym w.last-is)
    ]

pub returns : goal.returns
returns c = sym (c.loop-left.invariant ∙ passes_all c.loop-left.q c.loop-left.left.now 0 (omega arith))
