-- The invariant: what is left, hashed on, gives the hash of the whole.
use mathlib.Core.Path.{◌≡◌}
use lib.ListN.{drop}
use Prim.Native.Nat.{◌<◌}
use Rattle.names.specs.Names.{small_letters}
use Rattle.decisions.specs.Repeats.{hash_on}
use Rattle.decisions.proofs.repeats.hash_small.Given as goal

abbrev pub invariant-loop-c : goal.invariant-loop-c
invariant-loop-c l = (l.h < 4294967296) × (hash_on l.h (small_letters (drop l.c-index l.name)) ≡ hash_on 0 (small_letters l.name))
