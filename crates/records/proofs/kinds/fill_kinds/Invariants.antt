use mathlib.Core.Path.{◌≡◌}
use lib.ListN.{length}
use Rattle.records.specs.Kinds.{sign_of, kinds_at}
use Rattle.records.proofs.KindLaws.{to_come}
use Rattle.records.proofs.kinds.fill_kinds.Given as goal

abbrev pub invariant-loop-kind : goal.invariant-loop-kind
invariant-loop-kind l = to_come l.kinds l.kind-index (sign_of l.q) l.rest.0.now ≡ kinds_at (length l.initial.kinds) 0 l.strings
