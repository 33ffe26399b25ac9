-- `text::trim::before_space` meets its contract: each return has the tests that the definition makes, at the bytes taken backwards.
-- Assumes nothing.
use Prim.Native.Nat.{ℕ, ◌<◌}
use mathlib.Core.Path.{refl, sym, ap, ◌∙◌}
use mathlib.Core.Bool.{Bool}
use borrow.Author.Rules.{rules}
use borrow.Author.Tests.{tests}
use Rattle.field.specs.Bytes.{pick}
use Rattle.text.specs.Trim.{two_byte_space, three_byte_space, space_by, back_space}
use Rattle.text.proofs.TrimLaws.{space_one, space_low, space_single, space_two, space_pair, space_three, last_two, last_three, last_first, front_end, front_two, front_three, taken, none_there, nothing_back, then_matches}
use Rattle.text.proofs.trim.before_space.Goals as goal

abbrev two : ℕ → ℕ → Bool
two b a = two_byte_space a b

abbrev three : ℕ → ℕ → ℕ → Bool
three c b a = three_byte_space a b c

pub returns-in_err-c : goal.returns-in_err-c
unfolding back_space space_by
returns-in_err-c c = rw c.from_residual.ensures (none_there two three (nothing_back _ c.in_err-c.ensures.cases) refl)

pub returns-then-is_one_byte_space : goal.returns-then-is_one_byte_space
unfolding back_space
returns-then-is_one_byte_space c = taken two three (last_first _ c.in_ok-c.ensures.cases.0) (space_one two three _ _ (sym c.is_one_byte_space.ensures ∙ c.if-is_one_byte_space.true)) refl

pub returns-then-is_ascii : goal.returns-then-is_ascii
unfolding back_space
returns-then-is_ascii c = let h : c.in_ok-c.c.now < 0x80 = search (rules, tests) in none_there two three (last_first _ c.in_ok-c.ensures.cases.0) (space_low two three _ _ (sym c.is_one_byte_space.ensures ∙ c.if-is_one_byte_space.false) (λ b. last_two b _ h) (λ b d. last_three d b _ h))

pub returns-in_err-b : goal.returns-in_err-b
unfolding back_space
returns-in_err-b c = rw c.from_residual-in_err-b.ensures (none_there two three (front_end (last_first _ c.in_ok-c.ensures.cases.0) (nothing_back _ c.in_err-b.ensures.cases)) (space_single two three _ (sym c.is_one_byte_space.ensures ∙ c.if-is_one_byte_space.false)))

pub returns-then-is_two_byte_space : goal.returns-then-is_two_byte_space
unfolding back_space
returns-then-is_two_byte_space c = taken two three (front_two (last_first _ c.in_ok-c.ensures.cases.0) (last_first _ c.in_ok-b.ensures.cases.0)) (space_two two three _ _ _ (sym c.is_one_byte_space.ensures ∙ c.if-is_one_byte_space.false) (sym c.is_two_byte_space.ensures ∙ c.if-is_two_byte_space.true)) refl

pub returns-in_err-a : goal.returns-in_err-a
unfolding back_space
returns-in_err-a c = rw c.from_residual-in_err-a.ensures (none_there two three (front_two (last_first _ c.in_ok-c.ensures.cases.0) (front_end (last_first _ c.in_ok-b.ensures.cases.0) (nothing_back _ c.in_err-a.ensures.cases))) (space_pair two three _ _ (sym c.is_one_byte_space.ensures ∙ c.if-is_one_byte_space.false) (sym c.is_two_byte_space.ensures ∙ c.if-is_two_byte_space.false)))

pub returns : goal.returns
unfolding back_space
returns c =
    let there = front_three (last_first _ c.in_ok-c.ensures.cases.0) (last_first _ c.in_ok-b.ensures.cases.0) (last_first _ c.in_ok-a.ensures.cases.0) in
    let tests = space_three two three _ _ _ _ (sym c.is_one_byte_space.ensures ∙ c.if-is_one_byte_space.false) (sym c.is_two_byte_space.ensures ∙ c.if-is_two_byte_space.false) in
    then_matches _ _ c.is_three_byte_space.result c.in_ok-a.rest c.then_some.ensures
    (λ z. none_there two three there (tests ∙ ap (λ (x : Bool). pick x 3 0) (sym c.is_three_byte_space.ensures ∙ z)))
    (λ z. taken two three there (tests ∙ ap (λ (x : Bool). pick x 3 0) (sym c.is_three_byte_space.ensures ∙ z)) refl)
