use lib.ListN.{length}
use Rattle.catalogue_calls.proofs.CallWalk.{Left}
use Rattle.catalogue_calls.proofs.numbers.next_call.Given as goal

abbrev pub invariant-loop-h : goal.invariant-loop-h
invariant-loop-h l = Left l.s l.rest

abbrev pub decreases-loop-h : goal.decreases-loop-h
decreases-loop-h l = length l.rest
