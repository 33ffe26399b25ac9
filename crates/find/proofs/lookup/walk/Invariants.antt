use lib.ListN.{length}
use Rattle.find.proofs.RecordLaws.{Walking}
use Rattle.find.proofs.lookup.walk.Given as goal

abbrev pub invariant-loop-waiting : goal.invariant-loop-waiting
invariant-loop-waiting l = Walking l.templates l.numbers l.places l.waiting l.records l.fields.0.now

abbrev pub decreases-loop-waiting : goal.decreases-loop-waiting
decreases-loop-waiting l = length l.fields.0.now
