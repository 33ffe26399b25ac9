use lib.ListN.{length}
use Rattle.worked.proofs.Writes.{Left}
use Prim.Native.Nat.{◌+◌, ◌*◌}
use Rattle.worked.proofs.+work.Given as goal

abbrev pub decreases-work_field : goal.decreases-work_field
decreases-work_field l = 2 * length l.field.body.now + 1

abbrev pub decreases-work_fields : goal.decreases-work_fields
decreases-work_fields l = 2 * length l.s.now

abbrev pub invariant-work_fields-loop-field : goal.invariant-work_fields-loop-field
invariant-work_fields-loop-field l = Left l.s l.initial.out l.at l.fields.0.now l.out l.a
