use Prim.Native.Nat.{◌-◌, ◌*◌, ◌<◌}
use mathlib.Core.Path.{◌≡◌}
use Rattle.field.specs.Bytes.{among}
use Rattle.decisions.specs.Index.{hash, two_at, link_of, chain}
use Rattle.decisions.proofs.index.Index.has.Given as goal

abbrev pub invariant-loop-passed : goal.invariant-loop-passed
invariant-loop-passed g l = (link_of l.next < 65536) × (among (g.N.Asked.bytes l.asked) (chain (1366 - l.passed) l.self.0.now (link_of l.next)) ≡ among (g.N.Asked.bytes l.asked) (chain 1366 l.self.0.now (two_at l.self.0.now (2 * hash (g.N.Asked.bytes l.asked)))))
