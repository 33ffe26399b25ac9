use mathlib.Core.Path.{◌≡◌}
use Prim.Native.Nat.{◌-◌, ◌≤◌}
use lib.ListN.{length, drop}
use Rattle.field.specs.Row.{read}
use Rattle.page.specs.Tree.{children_in}
use Rattle.decisions.proofs.children.children_at.Given as goal

abbrev pub invariant-loop-field : goal.invariant-loop-field
invariant-loop-field l = (l.left ≡ l.fields.0.now) × (children_in (read l.fields.0.now) ≡ children_in (read l.s)) × (length l.fields.0.now ≤ length l.s) × (l.fields.0.now ≡ drop (length l.s - length l.fields.0.now) l.s)
