-- By the letters of a name, where they tell.
use mathlib.Core.Path.{sym, ap, ◌∙◌}
use native.Mathlib.Omega.{arith}
use Prim.Native.Nat.{ℕ}
use lib.ListN.{get_or}
use Rattle.decisions.specs.Repeats.{key_by}
use Rattle.decisions.proofs.RepeatLaws.{keyed, last_of_one, key_of_one, key_of_more}
use Rattle.decisions.proofs.repeats.key_of.Goals as goal
use Rattle.decisions.proofs.repeats.key_of.Goals.{in-len1, in-len2-up}

pub returns : goal.returns
returns c =
    let n = c.in_ok-name.name.now in
    let k = λ (p : ℕ × ℕ). key_by (get_or n 0 0) p.0 p.1 in
    elim c.if-name-lt2.branch [
      | in-len1 w ↦ keyed c.args.a.now n c.in_ok-name.ensures (omega (arith, ap (λ p. p.1) w.before-is, last_of_one n (omega arith))) _ (c.key_by.ensures ∙ ap k w.before-is ∙ sym (key_of_one n (omega arith)))
      | in-len2-up w ↦ keyed c.args.a.now n c.in_ok-name.ensures (omega (arith, ap (λ p. p.1) w.before-is)) _ (c.key_by.ensures ∙ ap k w.before-is ∙ sym (key_of_more n w.in-len2-up.len_at_least))
    ]
