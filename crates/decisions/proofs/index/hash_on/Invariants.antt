use mathlib.Core.Path.{◌≡◌}
use Prim.Native.Nat.{◌<◌}
use lib.ListN.{drop}
use Rattle.names.specs.Table.{read_as}
use Rattle.decisions.specs.Index.{hash_from}
use Rattle.decisions.proofs.index.hash_on.Given as goal

abbrev pub invariant-loop-c : goal.invariant-loop-c
invariant-loop-c l = (l.x < 1024) × (hash_from l.x (read_as l.small (drop l.c-index l.s)) ≡ hash_from l.h (read_as l.small l.s))
