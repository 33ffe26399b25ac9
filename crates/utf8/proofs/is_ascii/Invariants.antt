use mathlib.Core.Path.{◌≡◌}
use Prim.Native.Nat.{◌*◌}
use lib.ListN.{take}
use Rattle.utf8.specs.Utf8.{all_ascii}
use Rattle.utf8.proofs.is_ascii.Given as goal

abbrev pub invariant-loop-word : goal.invariant-loop-word
invariant-loop-word l = l.is ≡ all_ascii (take (8 * l.word-index) l.block)
