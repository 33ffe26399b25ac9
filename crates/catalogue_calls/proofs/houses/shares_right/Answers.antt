-- `houses::shares_right` meets its contract, house by house. Assumes nothing.
use mathlib.Core.Path.{◌≡◌, sym}
use Prim.Native.Nat.{◌-◌, ◌*◌}
use native.Mathlib.Omega.{arith}
use Rattle.catalogue_calls.specs.Answer.{shares_of}
use Rattle.catalogue_calls.proofs.SharesLaws.{sure, allowed, no_shares, rights_none, rights_next, rights_fail, rights_all}
use Rattle.catalogue_calls.proofs.houses.shares_right.Goals as goal

pub returns-then-shares : goal.returns-then-shares
returns-then-shares c = sym (no_shares c.args.shares.now c.args.length c.if-shares.true)

pub loop-h-init : goal.loop-h-init
loop-h-init c = rights_none (shares_of c.args.shares.now)

pub returns-then-guarantee-most : goal.returns-then-guarantee-most
returns-then-guarantee-most c =
    let ns = c.args.shares.now in
    sym (rights_fail (shares_of ns) c.loop-h.h c.loop-h.auto.h (omega arith) _ _ (sure ns c.if-shares.false c.loop-h.h _ (omega arith)) (allowed ns c.if-shares.false c.loop-h.h _ (omega arith)) c.if-guarantee-most.true c.args.length)

pub loop-h-preserved : goal.loop-h-preserved
loop-h-preserved c =
    let ns = c.args.shares.now in
    rights_next c.loop-h.invariant c.loop-h.auto.h _ _ (sure ns c.if-shares.false c.loop-h.h _ (omega arith)) (allowed ns c.if-shares.false c.loop-h.h _ (omega arith)) c.if-guarantee-most.false (omega (arith, c.type_inv.shares (2 * c.loop-h.h - 2)))

pub returns : goal.returns
returns c = sym (rights_all (rw (let q : 17 ≡ c.loop-h.h = omega arith in q) c.loop-h.invariant) c.args.length)
