use Rattle.catalogue.specs.Shares.{but}
use Rattle.catalogue_calls.specs.Houses.{unused_by}
use Rattle.catalogue_calls.proofs.SharesLaws.{Summing}
use Rattle.catalogue_calls.proofs.houses.unused_of_others.Given as goal

abbrev pub invariant-loop-h : goal.invariant-loop-h
invariant-loop-h l = Summing (but l.house (unused_by l.shares l.used)) l.unused l.h
