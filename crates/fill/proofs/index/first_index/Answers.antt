-- `fill::index::first_index` meets its contract: what is less stands before the point that is found. Assumes nothing.
use mathlib.Core.Path.{◌≡◌, sym, ◌∙◌}
use mathlib.Core.Bool.{true, false}
use native.Mathlib.Omega.{arith}
use lib.Dec.{ltb}
use borrow.Author.Tests.{false-ltb}
use Rattle.std.proofs.Common.{rules}
use Rattle.std.specs.List.Sorted.{IsPartitionPoint}
use Rattle.std.proofs.lemmas.List.Sorted.{IsPartitionPoint-from_clause, IsPartitionedBy-ltb}
use Rattle.fill.proofs.Firsts.{first_found, first_missing}
use Rattle.fill.proofs.index.first_index.Goals as goal
use Rattle.fill.proofs.index.first_index.Goals.{After-partition_point-i}

point : (c : After-partition_point-i) → IsPartitionPoint (λ y. ltb y c.args.number ≡ true) (λ y. ltb y c.args.number ≡ false) c.args.numbers.now c.partition_point-i.result
point c = IsPartitionPoint-from_clause (λ y. ltb y c.args.number) _ _ c.partition_point-i.ensures.partitioned (IsPartitionedBy-ltb (λ x. x) c.args.numbers.now c.args.number c.requires) (λ a r q k. search rules)

pub returns-in_err-get : goal.returns-in_err-get
returns-in_err-get c = rw c.from_residual.ensures (first_missing _ _ _ c.requires (point (goal.at.returns-in_err-get c).After-partition_point-i) (λ l e. omega (arith, l, false-ltb _ _ c.in_err-get.ensures.lookup.0)))

pub returns-then-branch-number : goal.returns-then-branch-number
returns-then-branch-number c = first_found _ _ _ c.requires (point (goal.at.returns-then-branch-number c).After-partition_point-i) c.in_ok-get.ensures.lookup.3.0 (sym (c.in_ok-get.ensures.lookup.3.1 0) ∙ c.if-branch-number.true)

pub returns-else-branch-number : goal.returns-else-branch-number
returns-else-branch-number c = first_missing _ _ _ c.requires (point (goal.at.returns-else-branch-number c).After-partition_point-i) (λ l e. c.if-branch-number.false (c.in_ok-get.ensures.lookup.3.1 0 ∙ e))
