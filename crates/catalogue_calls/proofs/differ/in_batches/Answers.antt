-- `differ::in_batches` meets its contract: what a sorted batch tells, and then the names behind it. Assumes nothing.
use mathlib.Core.Path.{sym, ◌∙◌}
use native.Mathlib.Omega.{arith}
use Rattle.std.proofs.lemmas.List.Sorted.{IsNonDecreasingBy-from_sort}
use Rattle.catalogue_calls.proofs.TakenLaws.{taken_nothing, one_twice, one_behind, all_behind}
use Rattle.catalogue_calls.proofs.differ.in_batches.Goals as goal
use Rattle.catalogue_calls.proofs.differ.in_batches.Goals.{then-not-neighbours_differ-via-then-not-neighbours_differ, then-not-neighbours_differ-via-else-not-neighbours_differ+then-not-none_stands_in}

pub returns-then-count-eq0 : goal.returns-then-count-eq0
returns-then-count-eq0 g c = sym (c.loop-behind.invariant ∙ taken_nothing c.take_names-count.ensures c.if-count-eq0.true (omega arith))

pub neighbours_differ-requires : goal.neighbours_differ-requires
neighbours_differ-requires g c = IsNonDecreasingBy-from_sort (λ x. x) c.sort_unstable.new.self c.sort_unstable.ensures.sorted

pub none_stands_in-requires : goal.none_stands_in-requires
none_stands_in-requires g c = IsNonDecreasingBy-from_sort (λ x. x) c.sort_unstable.new.self c.sort_unstable.ensures.sorted

pub returns-then-not-neighbours_differ : goal.returns-then-not-neighbours_differ
returns-then-not-neighbours_differ g c =
    elim c.then-not-neighbours_differ.branch [
      | then-not-neighbours_differ-via-then-not-neighbours_differ w ↦
          sym (c.loop-behind.invariant ∙ one_twice c.take_names-count.ensures c.sort_unstable.ensures.permutation (sym w.if-not-neighbours_differ.ensures))
      | then-not-neighbours_differ-via-else-not-neighbours_differ+then-not-none_stands_in w ↦
          sym (c.loop-behind.invariant ∙ one_behind c.take_names-count.ensures c.sort_unstable.ensures.permutation (sym w.if-not-neighbours_differ.ensures) (sym w.if-not-none_stands_in.ensures))
    ]

pub loop-behind-preserved : goal.loop-behind-preserved
loop-behind-preserved g c =
    c.loop-behind.invariant
    ∙ all_behind c.take_names-count.ensures c.sort_unstable.ensures.permutation (sym c.if-not-neighbours_differ.ensures) (sym c.if-not-none_stands_in.ensures)
