use Rattle.std.proofs.Common.{◌≡◌, take}
use Rattle.field.proofs.writer.copy_bytes.Given as goal

abbrev pub invariant-loop-i : goal.invariant-loop-i
invariant-loop-i l = take l.i l.to ≡ take l.i l.from
