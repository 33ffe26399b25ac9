-- `find::search::place_of` meets its contract: what is less stands before the point that is found. Assumes nothing.
use mathlib.Core.Path.{◌≡◌, sym, subst, ◌∙◌}
use mathlib.Core.Bool.{true, false}
use Prim.Native.Nat.{ℕ}
use mathlib.Core.List.{List}
use native.Mathlib.Omega.{arith}
use lib.Dec.{ltb}
use borrow.Author.Tests.{false-ltb}
use Rattle.std.proofs.Common.{rules}
use Rattle.std.specs.List.Sorted.{IsPartitionedBy, IsPartitionPoint}
use Rattle.std.proofs.lemmas.List.Sorted.{IsPartitionPoint-from_clause}
use Rattle.find.specs.Search.{padded}
use Rattle.find.proofs.SearchLaws.{table_parts, index_found, index_none}
use Rattle.find.proofs.search.place_of.Goals as goal
use Rattle.find.proofs.search.place_of.Goals.{After-partition_point-i}

abbrev Point : List ℕ → ℕ → ℕ → Type 0
Point ns n i = IsPartitionPoint (λ y. ltb y n ≡ true) (λ y. ltb y n ≡ false) ns i

point : (c : After-partition_point-i) → Point (padded c.args.numbers.now) c.args.number c.partition_point-i.result
point c =
    let parts = table_parts c.args.numbers.now c.requires.0 c.requires.1.0 c.args.number (omega arith) in
    subst (λ (t : List ℕ). Point t c.args.number c.partition_point-i.result) c.requires.1.1
    (IsPartitionPoint-from_clause (λ y. ltb y c.args.number) _ _ c.partition_point-i.ensures.partitioned (subst (IsPartitionedBy (λ y. ltb y c.args.number)) (sym c.requires.1.1) parts) (λ a r q k. search rules))

pub returns-in_err-get : goal.returns-in_err-get
returns-in_err-get c = rw c.from_residual.ensures (index_none _ c.requires.0 c.requires.1.0 _ (omega arith) _ (point (goal.at.returns-in_err-get c).After-partition_point-i) (λ l e. omega (arith, l, false-ltb _ _ c.in_err-get.ensures.lookup.0)))

pub returns-then-branch-number : goal.returns-then-branch-number
returns-then-branch-number c = index_found _ c.requires.0 c.requires.1.0 _ (omega arith) _ (point (goal.at.returns-then-branch-number c).After-partition_point-i) c.in_ok-get.ensures.lookup.3.0 (sym (c.in_ok-get.ensures.lookup.3.1 0) ∙ c.if-branch-number.true)

pub returns-else-branch-number : goal.returns-else-branch-number
returns-else-branch-number c = index_none _ c.requires.0 c.requires.1.0 _ (omega arith) _ (point (goal.at.returns-else-branch-number c).After-partition_point-i) (λ l e. c.if-branch-number.false (c.in_ok-get.ensures.lookup.3.1 0 ∙ e))
