-- `text::trim::behind_space` meets its contract: each return has the tests that the definition makes. Assumes nothing.
use native.Mathlib.Omega.{arith}
use Prim.Native.Nat.{◌<◌}
use mathlib.Core.Path.{refl, sym, ap, ◌∙◌}
use mathlib.Core.Bool.{Bool}
use borrow.Author.Rules.{rules}
use borrow.Author.Tests.{tests}
use Rattle.field.specs.Bytes.{pick}
use Rattle.text.specs.Trim.{two_byte_space, three_byte_space, space_by, front_space}
use Rattle.text.proofs.TrimLaws.{space_one, space_low, space_single, space_two, space_pair, space_three, low_two, low_three, front_end, front_two, front_three, taken, none_there, nothing, then_matches}
use Rattle.text.proofs.trim.behind_space.Goals as goal

pub returns-in_err-a : goal.returns-in_err-a
unfolding front_space space_by
returns-in_err-a c = rw c.from_residual.ensures (none_there two_byte_space three_byte_space (nothing _ c.in_err-a.ensures.cases) refl)

pub returns-then-is_one_byte_space : goal.returns-then-is_one_byte_space
unfolding front_space
returns-then-is_one_byte_space c = taken two_byte_space three_byte_space c.in_ok-a.ensures.cases.0 (space_one two_byte_space three_byte_space _ _ (sym c.is_one_byte_space.ensures ∙ c.if-is_one_byte_space.true)) refl

pub returns-then-is_ascii : goal.returns-then-is_ascii
unfolding front_space
returns-then-is_ascii c = let h : c.in_ok-a.a.now < 0x80 = search (rules, tests) in none_there two_byte_space three_byte_space c.in_ok-a.ensures.cases.0 (space_low two_byte_space three_byte_space _ _ (sym c.is_one_byte_space.ensures ∙ c.if-is_one_byte_space.false) (λ b. low_two _ b (omega (arith, h))) (λ b d. low_three _ b d (omega (arith, h))))

pub returns-in_err-b : goal.returns-in_err-b
unfolding front_space
returns-in_err-b c = rw c.from_residual-in_err-b.ensures (none_there two_byte_space three_byte_space (front_end c.in_ok-a.ensures.cases.0 (nothing _ c.in_err-b.ensures.cases)) (space_single two_byte_space three_byte_space _ (sym c.is_one_byte_space.ensures ∙ c.if-is_one_byte_space.false)))

pub returns-then-is_two_byte_space : goal.returns-then-is_two_byte_space
unfolding front_space
returns-then-is_two_byte_space c = taken two_byte_space three_byte_space (front_two c.in_ok-a.ensures.cases.0 c.in_ok-b.ensures.cases.0) (space_two two_byte_space three_byte_space _ _ _ (sym c.is_one_byte_space.ensures ∙ c.if-is_one_byte_space.false) (sym c.is_two_byte_space.ensures ∙ c.if-is_two_byte_space.true)) refl

pub returns-in_err-c : goal.returns-in_err-c
unfolding front_space
returns-in_err-c c = rw c.from_residual-in_err-c.ensures (none_there two_byte_space three_byte_space (front_two c.in_ok-a.ensures.cases.0 (front_end c.in_ok-b.ensures.cases.0 (nothing _ c.in_err-c.ensures.cases))) (space_pair two_byte_space three_byte_space _ _ (sym c.is_one_byte_space.ensures ∙ c.if-is_one_byte_space.false) (sym c.is_two_byte_space.ensures ∙ c.if-is_two_byte_space.false)))

pub returns : goal.returns
unfolding front_space
returns c =
    let there = front_three c.in_ok-a.ensures.cases.0 c.in_ok-b.ensures.cases.0 c.in_ok-c.ensures.cases.0 in
    let tests = space_three two_byte_space three_byte_space _ _ _ _ (sym c.is_one_byte_space.ensures ∙ c.if-is_one_byte_space.false) (sym c.is_two_byte_space.ensures ∙ c.if-is_two_byte_space.false) in
    then_matches _ _ c.is_three_byte_space.result c.in_ok-c.rest c.then_some.ensures
    (λ z. none_there two_byte_space three_byte_space there (tests ∙ ap (λ (x : Bool). pick x 3 0) (sym c.is_three_byte_space.ensures ∙ z)))
    (λ z. taken two_byte_space three_byte_space there (tests ∙ ap (λ (x : Bool). pick x 3 0) (sym c.is_three_byte_space.ensures ∙ z)) refl)
