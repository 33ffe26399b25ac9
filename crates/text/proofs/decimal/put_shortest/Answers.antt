-- `text::decimal::put_shortest` meets its contract. The loop's invariant: what is left is written as the whole is. Assumes nothing.
use native.Mathlib.Omega.{arith}
use mathlib.Core.Path.{◌≡◌, sym, ap, ◌∙◌}
use lib.ListN.{length}
use Rattle.field.specs.Bytes.{Bytes}
use Rattle.field.proofs.PutLaws.{wrote_is}
use Rattle.text.specs.Decimal.{pointed, shortest}
use Rattle.text.proofs.PlacesLaws.{shortest_whole, shortest_less, shortest_pointed}
use Rattle.text.proofs.decimal.put_shortest.Goals as goal
use Rattle.text.proofs.decimal.put_shortest.Goals.{Then-m-ne0}

point : (c : Then-m-ne0) → pointed c.loop-left.m c.loop-left.left ≡ shortest c.args.n c.args.places
point c = sym (shortest_pointed c.loop-left.m c.loop-left.left (λ e. omega (arith, e, c.loop-left-test.true)) c.if-m-ne0.true) ∙ c.loop-left.invariant.0

pub put_pointed-requires : goal.put_pointed-requires
put_pointed-requires c = (omega arith, omega (arith, ap (λ (t : Bytes). length t) (point (goal.at.put_pointed-requires c).Then-m-ne0)))

pub returns-then-m-ne0 : goal.returns-then-m-ne0
returns-then-m-ne0 c = let e = c.loop-left.invariant.1 in wrote_is (point (goal.at.returns-then-m-ne0 c).Then-m-ne0) (rw e at c.put_pointed.ensures)

pub loop-left-preserved : goal.loop-left-preserved
loop-left-preserved c = (shortest_less c.loop-left.m c.loop-left.left (λ e. omega (arith, e, c.loop-left-test.true)) c.if-m-ne0.false ∙ c.loop-left.invariant.0, c.loop-left.invariant.1)

pub put_decimal-requires : goal.put_decimal-requires
put_decimal-requires c = let e = sym (shortest_whole c.loop-left.m c.loop-left.left (omega arith)) ∙ c.loop-left.invariant.0 in omega (arith, ap (λ (t : Bytes). length t) e)

pub returns : goal.returns
returns c = let e = sym (shortest_whole c.loop-left.m c.loop-left.left (omega arith)) ∙ c.loop-left.invariant.0 in
    let q = c.loop-left.invariant.1 in wrote_is e (rw q at c.put_decimal.ensures)
