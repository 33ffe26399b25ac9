-- The invariant: what is left, hashed on, gives the hash of the whole.
use mathlib.Core.Path.{sym, ap, ◌∙◌}
use Prim.Native.Nat.{ℕ, ◌+◌, ◌*◌, ◌%◌}
use borrow.Author.Rules.{rules}
use Rattle.decisions.specs.Repeats.{letters, hash_on, name_hash}
use Rattle.decisions.proofs.RepeatLaws.{hash_goes, hash_ends, unsigned_letters}
use Rattle.decisions.proofs.repeats.Spelled.hash.Goals as goal

pub loop-c-preserved : goal.loop-c-preserved
loop-c-preserved c = (
  search rules,
  ap (λ (n : ℕ). hash_on ((c.loop-c.h * 37 + n + 1) % 4294967296) (letters c.next.new.self)) c.from.ensures ∙ hash_goes c.loop-c.h c.in-Some.ensures.steps (search rules) ∙ c.loop-c.invariant.1,
)

pub returns : goal.returns
returns c = hash_ends c.loop-c.h c.in-None.ensures.steps.0 ∙ c.loop-c.invariant.1

pub returns-then-not-self : goal.returns-then-not-self
returns-then-not-self c = c.hash_small.ensures ∙ ap name_hash (sym (unsigned_letters c.args.self (c.if-is_none.ensures) (c.if-is_none-2.ensures) c.if-not-self.true))
