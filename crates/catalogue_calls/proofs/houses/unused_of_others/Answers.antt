-- `houses::unused_of_others` meets its contract, house by house. Assumes nothing.
use mathlib.Core.Path.{◌≡◌, ap, ◌∙◌}
use Prim.Native.Nat.{◌-◌, ◌*◌}
use lib.ListN.{get_or}
use native.Mathlib.Omega.{arith}
use Rattle.catalogue_calls.specs.Houses.{unused_by}
use Rattle.catalogue_calls.proofs.SharesLaws.{sure, summing_none, summing_but, summing_other}
use Rattle.catalogue_calls.proofs.houses.unused_of_others.Goals as goal
use Rattle.catalogue_calls.proofs.houses.unused_of_others.Goals.{then-h-house, else-h-house}

pub loop-h-init : goal.loop-h-init
loop-h-init c = summing_none _

pub loop-h-preserved : goal.loop-h-preserved
loop-h-preserved c =
    let ns = c.args.shares.now in
    let used = c.args.used.now in
    let h = c.loop-h.h in
    elim c.if-h-house.branch [
      | then-h-house w ↦
          let e : w.saturating_sub-unused.result ≡ unused_by ns used h = w.saturating_sub-unused.ensures ∙ ap (λ k. k - get_or used h 0) (sure ns c.requires h (2 * h - 2) (omega arith)) in
          rw w.unused-is (summing_other (unused_by ns used) c.args.house c.loop-h.invariant c.loop-h.auto.h w.if-h-house.true _ e (omega (arith, w.saturating_sub-unused.ensures, c.type_inv.shares (2 * h - 2))))
      | else-h-house w ↦ rw w.unused-is (summing_but (unused_by ns used) c.args.house c.loop-h.invariant c.loop-h.auto.h w.if-h-house.false)
    ]
