-- The invariant: the name is in the chain where it is in what is left of it.
use mathlib.Core.Path.{◌≡◌, ap, ◌∙◌}
use Prim.Native.Nat.{ℕ, ◌-◌, ◌+◌}
use native.Mathlib.Omega.{arith}
use Rattle.field.specs.Bytes.{among}
use Rattle.decisions.specs.Index.{chain, link_of}
use Rattle.decisions.proofs.IndexLaws.{chain_spent, chain_none, chain_here, chain_on}
use Rattle.decisions.proofs.index.Index.has.Goals as goal

pub returns-in_default : goal.returns-in_default
returns-in_default g c = chain_none _ _ _ c.in_default.is ∙ c.loop-passed.invariant.1

pub returns-then-is : goal.returns-then-is
returns-then-is g c = chain_here _ _ (1366 - c.loop-passed.passed) c.in-Some.is (omega arith) c.name.ensures c.is.ensures c.if-is.true ∙ c.loop-passed.invariant.1

pub loop-passed-preserved : goal.loop-passed-preserved
loop-passed-preserved g c =
    let e : 1366 - (c.loop-passed.passed + 1) ≡ 1366 - c.loop-passed.passed - 1 = omega arith in (
      c.link_at-next-in-loop-passed.ensures.within,
      ap (λ (f : ℕ). among (g.N.Asked.bytes c.args.asked.now) (chain f c.args.self.0.now (link_of c.link_at-next-in-loop-passed.result))) e
          ∙ chain_on _ _ (1366 - c.loop-passed.passed) c.in-Some.is (omega arith) c.name.ensures c.is.ensures c.if-is.false c.link_at-next-in-loop-passed.result c.link_at-next-in-loop-passed.ensures.value ∙ c.loop-passed.invariant.1,
    )

pub returns : goal.returns
returns g c = chain_spent _ _ (1366 - c.loop-passed.passed) _ (omega arith) ∙ c.loop-passed.invariant.1
