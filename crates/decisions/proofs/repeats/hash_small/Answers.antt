use mathlib.Core.Path.{sym, ap, ◌∙◌}
use mathlib.Core.List.{◌∷◌}
use Prim.Native.Nat.{ℕ, ◌+◌, ◌*◌, ◌%◌}
use lib.ListN.{drop}
use native.Mathlib.Omega.{arith}
use borrow.Author.Rules.{rules}
use Rattle.std.proofs.lemmas.List.{at_drop_more, at_drop_all}
use Rattle.names.specs.Names.{small_letters}
use Rattle.decisions.specs.Repeats.{hash_on}
use Rattle.decisions.proofs.RepeatLaws.{hash_goes, hash_ends}
use Rattle.decisions.proofs.repeats.hash_small.Goals as goal

pub loop-c-preserved : goal.loop-c-preserved
unfolding small_letters
loop-c-preserved c =
    let i = c.loop-c.c-index in
    let left = small_letters (drop (i + 1) c.args.name.now) in (
      search rules,
      ap (λ (n : ℕ). hash_on ((c.loop-c.h * 37 + n + 1) % 4294967296) left) c.from.ensures
          ∙ hash_goes c.loop-c.h (at_drop_more small_letters c.args.name.now i 0 c.loop-c-test.true ∙ ap (λ (n : ℕ). n ∷ left) (sym c.small_letter.ensures)) c.small_letter.type_inv
          ∙ c.loop-c.invariant.1,
    )

pub returns : goal.returns
unfolding small_letters
returns c = hash_ends c.loop-c.h (at_drop_all small_letters c.args.name.now c.loop-c.c-index (omega (arith, c.loop-c-test.false))) ∙ c.loop-c.invariant.1
