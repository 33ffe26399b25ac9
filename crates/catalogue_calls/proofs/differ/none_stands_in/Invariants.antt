use mathlib.Core.Path.{◌≡◌}
use Rattle.catalogue_calls.specs.Standing.{names_in}
use Rattle.catalogue_calls.specs.Differ.{none_among}
use Rattle.catalogue_calls.proofs.differ.none_stands_in.Given as goal

abbrev pub invariant-loop-p : goal.invariant-loop-p
invariant-loop-p l = none_among (names_in l.s) l.batch ≡ none_among (names_in l.p-iterator.0.now) l.batch
