use lib.ListN.{length}
use Rattle.fill.proofs.Places.{Locating}
use Rattle.fill.proofs.index.locate.Given as goal

abbrev pub invariant-loop-record : goal.invariant-loop-record
invariant-loop-record l = Locating l.templates l.numbers l.places l.fields.0.now

abbrev pub decreases-loop-record : goal.decreases-loop-record
decreases-loop-record l = length l.fields.0.now
