-- `is_plain` meets its contract. The invariant of both loops: what is left of the name decides.
use mathlib.Core.Path.{◌≡◌, sym, ◌∙◌}
use mathlib.Core.Logic.{inr}
use Prim.Native.Nat.{◌+◌}
use lib.ListN.{length}
use borrow.Author.Rules.{rules}
use Rattle.names.proofs.SpellLaws.{plain_on, plain_end}
use Rattle.names.proofs.attributes.is_plain.Goals as goal

pub returns-then-i-n : goal.returns-then-i-n
returns-then-i-n c = let n = c.args.name.now in let e : c.loop-i-2.i + 1 ≡ length n = c.if-i-n.true in
    sym (plain_end n) ∙ rw e at (plain_on n c.loop-i-2.i c.loop-i-2.invariant.1.0 (inr c.loop-i-2-test.true) c.loop-i-2.invariant.1.1)

pub returns : goal.returns
returns c = let n = c.args.name.now in let e : c.loop-i.i ≡ length n = search rules in
    sym (plain_end n) ∙ rw e at c.loop-i.invariant.1
