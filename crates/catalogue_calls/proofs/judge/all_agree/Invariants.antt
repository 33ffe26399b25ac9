use Rattle.catalogue_calls.proofs.JudgeLaws.{Agreeing}
use Rattle.catalogue_calls.proofs.judge.all_agree.Given as goal

abbrev pub invariant-loop-record : goal.invariant-loop-record
invariant-loop-record l = Agreeing l.templates l.record-iterator.0.now
