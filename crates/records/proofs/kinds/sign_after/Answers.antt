-- `sign_after` meets its contract: by the last sign, and the text behind it. Assumes nothing.
use Rattle.std.proofs.Common.{ℕ, ◌≡◌, ◌+◌, ◌-◌, suc, drop, length, T, arith, ap, sym, refl, ◌∙◌, subst, take}
use borrow.Author.Rules.{rules}
use lib.ListN.{length-drop}
use lib.Seq.{take_all}
use Rattle.field.specs.Bytes.{Bytes}
use Rattle.spec.specs.Words.{free}
use Rattle.records.specs.Kinds.{sign_after}
use Rattle.records.proofs.KindLaws.{at_close, at_open, no_sign, free_behind}
use Rattle.records.proofs.kinds.sign_after.Goals as goal

pub behind_sign-requires-in-None : goal.behind_sign-requires-in-None
behind_sign-requires-in-None c = no_sign c.args.s.now (search rules)

-- what the code cuts off behind the last sign
behind_it : (s : Bytes) (i : ℕ) → take (length s - (i + 1)) (drop (i + 1) s) ≡ drop (suc i) s
behind_it s i = let e : i + 1 ≡ suc i = omega arith in ap (λ (k : ℕ). take (length s - k) (drop k s)) e ∙ take_all (length s - suc i) (drop (suc i) s) (omega (arith, length-drop (suc i) s))

pub behind_sign-requires : goal.behind_sign-requires
behind_sign-requires c = subst (λ (x : Bytes). T (free x)) (sym (behind_it c.args.s.now c.in-Some.last)) (free_behind c.args.s.now c.in-Some.last (search rules))

pub returns-in-Some : goal.returns-in-Some
returns-in-Some c =
    let s = c.args.s.now in
    let i = c.in-Some.last in
    at_open _ s (suc i) i refl (search rules) (free_behind s i (search rules)) c.if-s-last-eq60.true (c.behind_sign.ensures ∙ ap (sign_after 2) (behind_it s i))

pub returns-in-Some-2 : goal.returns-in-Some-2
returns-in-Some-2 c =
    let s = c.args.s.now in
    let i = c.in-Some.last in
    at_close _ s (suc i) i refl (search rules) (free_behind s i (search rules)) (search rules)
