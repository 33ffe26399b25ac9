use mathlib.Core.Path.{◌≡◌}
use Prim.Native.Nat.{◌≤◌}
use lib.ListN.{length}
use Rattle.field.specs.Row.{read}
use Rattle.page.specs.Tree.{attributes_in}
use Rattle.decisions.specs.At.{written}
use Rattle.decisions.proofs.attribute.AttributesIterator.next.Given as goal

abbrev pub invariant-loop-field : goal.invariant-loop-field
invariant-loop-field l =
    (l.self.0.now ≡ l.fn.self.0.now) × (written (attributes_in (read l.fields.0.now)) ≡ written (attributes_in (read l.fn.self.0.now)))
    × (length l.fields.0.now ≤ length l.fn.self.0.now)
