use lib.ListN.{length}
use Rattle.found.proofs.WalkLaws.{Looked}
use Prim.Native.Nat.{◌+◌, ◌*◌}
use Rattle.found.proofs.+found.Given as goal

abbrev pub decreases-entries_of : goal.decreases-entries_of
decreases-entries_of l = 2 * length l.s.now

abbrev pub decreases-found_of : goal.decreases-found_of
decreases-found_of l = 2 * length l.s.now + 1

abbrev pub invariant-entries_of-loop-field : goal.invariant-entries_of-loop-field
invariant-entries_of-loop-field l = Looked l.skip l.s l.fields.0.now l.run l.cur
