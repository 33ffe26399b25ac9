use mathlib.Core.Path.{◌≡◌}
use lib.ListN.{length}
use Rattle.catalogue_calls.specs.Standing.{names_in, all_differ}
use Rattle.catalogue_calls.proofs.differ.in_batches.Given as goal

abbrev pub invariant-loop-behind : goal.invariant-loop-behind
invariant-loop-behind g l = all_differ (names_in l.s) ≡ all_differ (names_in l.rest)

abbrev pub decreases-loop-behind : goal.decreases-loop-behind
decreases-loop-behind g l = length l.rest
