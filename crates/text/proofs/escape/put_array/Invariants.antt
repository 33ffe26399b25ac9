use mathlib.Core.Path.{◌≡◌}
use lib.ListN.{take}
use Rattle.field.specs.Put.{put}
use Rattle.text.proofs.escape.put_array.Given as goal

abbrev pub invariant-loop-i : goal.invariant-loop-i
invariant-loop-i g l = l.out ≡ put l.initial.out l.at (take l.i l.bytes)
