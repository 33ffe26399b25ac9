use Prim.Native.Nat.{◌≤◌}
use lib.ListN.{length}
use Rattle.catalogue_calls.proofs.LookLaws.{Looking}
use Rattle.catalogue_calls.proofs.lookup.look_up.Given as goal

abbrev pub invariant-loop-p : goal.invariant-loop-p
invariant-loop-p l = record { within : length l.rest ≤ length l.catalogue; looking : Looking l.catalogue l.name l.rest }

abbrev pub decreases-loop-p : goal.decreases-loop-p
decreases-loop-p l = length l.rest
