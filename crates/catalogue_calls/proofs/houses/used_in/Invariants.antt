use Rattle.catalogue_calls.proofs.HousesLaws.{Using}
use Rattle.catalogue_calls.proofs.houses.used_in.Given as goal

abbrev pub invariant-loop-p : goal.invariant-loop-p
invariant-loop-p l = Using l.s l.used l.p-iterator.0.now
