-- `read::is_zero`: all bytes so far, joined. Assumes nothing.
use mathlib.Core.Path.{◌≡◌}
use lib.Dec.{eqb}
use lib.ListN.{take}
use Rattle.catalogue.specs.Catalogue.{all_zero}
use Rattle.catalogue_calls.proofs.read.is_zero.Given as goal

abbrev pub invariant-loop-b : goal.invariant-loop-b
invariant-loop-b l = eqb l.any 0 ≡ all_zero (take l.b-index l.s)
