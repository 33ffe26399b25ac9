-- `read::read`: the pages that are walked over, and the bytes in which the others stand. Assumes nothing.
use lib.ListN.{length}
use Rattle.catalogue_calls.proofs.ReadLaws.{Walked}
use Rattle.catalogue_calls.proofs.read.read.Given as goal

abbrev pub invariant-loop-p : goal.invariant-loop-p
invariant-loop-p l = Walked l.catalogue l.rest l.pages l.forms

abbrev pub decreases-loop-p : goal.decreases-loop-p
decreases-loop-p l = length l.rest
