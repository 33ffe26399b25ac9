use Rattle.catalogue_calls.specs.Answer.{shares_of}
use Rattle.catalogue_calls.proofs.SharesLaws.{Rights}
use Rattle.catalogue_calls.proofs.houses.shares_right.Given as goal

abbrev pub invariant-loop-h : goal.invariant-loop-h
invariant-loop-h l = Rights (shares_of l.shares) l.sum l.h
