use mathlib.Core.Path.{◌≡◌}
use Prim.Native.Nat.{◌<◌}
use Rattle.decisions.specs.Repeats.{letters, hash_on}
use Rattle.decisions.proofs.repeats.Spelled.hash.Given as goal

abbrev pub invariant-loop-c : goal.invariant-loop-c
invariant-loop-c l = (l.h < 4294967296) × (hash_on l.h (letters l.c-iterator) ≡ hash_on 0 (letters l.fn.self))
