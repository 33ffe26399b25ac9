use mathlib.Core.Path.{◌≡◌}
use mathlib.Core.Bool.{◌&&◌}
use lib.ListN.{drop}
use Rattle.convert.specs.Flat.{plain}
use Rattle.convert.proofs.kinds.is_plain.Given as goal

abbrev pub invariant-loop-c : goal.invariant-loop-c
invariant-loop-c l = (l.is && plain (drop l.c-index l.block)) ≡ plain l.block
