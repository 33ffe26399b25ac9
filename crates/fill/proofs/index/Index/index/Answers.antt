-- `fill::index::Index::index` meets its contract: what the check gathers, sorted and located. Assumes nothing.
use mathlib.Core.Path.{◌≡◌, refl, sym, ap, ◌∙◌, subst}
use Prim.Native.Nat.{ℕ, ◌+◌, ◌≤◌}
use native.Mathlib.Omega.{arith}
use mathlib.Core.List.{List}
use lib.ListN.{length, take, length-take}
use Rattle.field.specs.Put.{Wrote}
use Rattle.std.specs.List.Sorted.{IsPermutation}
use Rattle.std.proofs.lemmas.List.Sorted.{IsNonDecreasingBy-from_sort}
use Rattle.fill.specs.Indexed.{HasRoom, IndexedIf}
use Rattle.fill.proofs.Asked.{ok_is}
use Rattle.fill.proofs.Served.{gathered, index_is, err_is}
use Rattle.fill.proofs.index.Index.index.Goals as goal

pub check_order-requires : goal.check_order-requires
check_order-requires g c = (refl, subst (HasRoom c.args.order.now) (omega arith) c.requires.1)

pub returns-in_err-check_order : goal.returns-in_err-check_order
returns-in_err-check_order g c = subst (IndexedIf {N = g.row.N} _ _ _ _) (sym (err_is _ c.from_residual.ensures)) (sym c.check_order.ensures.gives ∙ c.in_err-check_order.was)

-- so many numbers are gathered and sorted, and so many places lent
sorted_size : {o w o' : List ℕ} (s : List ℕ) {n : ℕ} → 0 + length w ≤ length o → Wrote o 0 w o' n → length s ≡ length (take n o') → (ps : List ℕ) → length o ≡ length ps → (n ≡ length s) × (length s ≤ length (take n ps))
sorted_size {o} {w} {o'} s {n} l h e ps k =
    let f = gathered l h in
    (omega (arith, f.0, ap length f.1), omega (arith, f.0, ap length f.1, length-take n ps))

pub locate-requires : goal.locate-requires
locate-requires g c =
    let h = ok_is c.in_ok-check_order.was c.check_order.ensures.gathers in
    let z = sorted_size _ (omega (arith, h.few, h.wrote.end_is)) h.wrote c.sort_unstable.ensures.len c.args.self.now.places (omega arith) in
    (c.requires.0, IsNonDecreasingBy-from_sort (λ x. x) c.sort_unstable.new.self c.sort_unstable.ensures.sorted, z.1)

pub returns : goal.returns
returns g c =
    let h = ok_is c.in_ok-check_order.was c.check_order.ensures.gathers in
    let z = sorted_size _ (omega (arith, h.few, h.wrote.end_is)) h.wrote c.sort_unstable.ensures.len c.args.self.now.places (omega arith) in (
      sym c.check_order.ensures.gives ∙ c.in_ok-check_order.was,
      index_is g.row.N _ _ _ _ _ _ _
          (subst (λ ns. IsPermutation ns c.sort_unstable.new.self) (gathered (omega (arith, h.few, h.wrote.end_is)) h.wrote).1 c.sort_unstable.ensures.permutation)
          z.0
          (IsNonDecreasingBy-from_sort (λ x. x) c.sort_unstable.new.self c.sort_unstable.ensures.sorted)
          (omega (arith, z.1, c.locate.auto.places))
          _ c.locate.ensures,
    )
