use lib.ListN.{length}
use Rattle.tag_pass.proofs.PassLaws.{Passing, still}
use Rattle.tag_pass.proofs.pass.pass.Given as goal

abbrev pub invariant-loop-out : goal.invariant-loop-out
invariant-loop-out l = Passing l.text l.initial.out l.initial.frames l.initial.st l.out l.frames l.st

abbrev pub decreases-loop-out : goal.decreases-loop-out
decreases-loop-out l = still (length l.text) l.st
