use mathlib.Core.Path.{sym, ap, ◌∙◌, subst}
use native.Mathlib.Omega.{arith}
use Rattle.std.specs.Iterator.{YieldsFirst}
use Rattle.std.specs.Prelude.{option_map}
use Prim.Native.Nat.{ℕ, ◌-◌}
use mathlib.Core.Bool.{true, false}
use mathlib.Core.List.{◌∷◌}
use borrow.Author.Rules.{rules}
use lib.ListN.{length, drop, length-drop}
use lib.Seq.{take_all}
use Rattle.field.specs.Bytes.{Bytes}
use Rattle.decisions.specs.Repeats.{letters, left_in}
use Rattle.decisions.proofs.RepeatLaws.{shorter, plain_letters, left_plain, reads_none, reads_colon, reads_sign, reads_letter}
use Rattle.decisions.proofs.repeats.SpelledIterator.next.Goals as goal

pub returns-in_err-name-clause-steps : goal.returns-in_err-name-clause-steps
returns-in_err-name-clause-steps c =
    let n = c.args.self.now in
    let e = reads_none n.sign _ n.behind_sign n.first.now (omega arith) (ap (option_map (λ q. q.now)) c.in_err-name.was) in
    subst (λ r. YieldsFirst letters n r n) (sym c.from_residual.ensures) (e, e)

pub returns-in_default-clause-steps : goal.returns-in_default-clause-steps
returns-in_default-clause-steps c =
    let n = c.args.self.now in
    reads_colon n.sign _ n.behind_sign n.first.now (omega arith) (ap (option_map (λ q. q.now)) c.in_ok-name.was) (plain_letters c.plain.ensures ∙ left_plain _)

pub returns-in_default-clause-goes : goal.returns-in_default-clause-goes
returns-in_default-clause-goes c = let e = shorter (returns-in_default-clause-steps c) in search rules

pub returns-in-Some-clause-steps : goal.returns-in-Some-clause-steps
returns-in-Some-clause-steps c =
    let n = c.args.self.now in
    reads_sign n.sign _ n.behind_sign n.first.now (λ z. omega (arith, z, c.in-len1-up.len_at_least)) (sym c.sign_before.ensures ∙ c.in-Some.is)
    ∙ ap (λ (x : ℕ). x ∷ left_in n.sign n.first.now (option_map (λ q. q.now) n.second) true) (sym c.small_letter.ensures)

pub returns-in-Some-clause-goes : goal.returns-in-Some-clause-goes
returns-in-Some-clause-goes c = let e = shorter (returns-in-Some-clause-steps c) in search rules

pub returns-clause-steps : goal.returns-clause-steps
returns-clause-steps c =
    let n = c.args.self.now in
    reads_letter n.sign _ n.behind_sign n.first.now (λ z. omega (arith, z, c.in-len1-up.len_at_least)) (sym c.sign_before.ensures ∙ c.in_default-sign_before.is)
    ∙ ap (λ (x : ℕ). x ∷ left_in n.sign (drop 1 n.first.now) (option_map (λ q. q.now) n.second) false) (sym c.small_letter-2.ensures)
    ∙ ap (λ (p : Bytes). c.small_letter-2.result ∷ left_in n.sign p (option_map (λ q. q.now) n.second) false) (sym (take_all (length n.first.now - 1) (drop 1 n.first.now) (omega (arith, length-drop 1 n.first.now))))

pub returns-clause-goes : goal.returns-clause-goes
returns-clause-goes c = let e = shorter (returns-clause-steps c) in search rules
