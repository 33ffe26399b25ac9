use Prim.Native.Nat.{◌^◌, ◌<◌}
use mathlib.Core.Path.{◌≡◌}
use lib.ListN.{take}
use Rattle.field.specs.Number.{number_of}
use Rattle.page.proofs.number.short_in.Given as goal

abbrev pub invariant-loop-b : goal.invariant-loop-b
invariant-loop-b l = (l.n ≡ number_of (take l.b-index l.s)) × (l.n < 256 ^ l.b-index)
