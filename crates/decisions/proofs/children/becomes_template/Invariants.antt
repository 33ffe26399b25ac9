use mathlib.Core.Path.{◌≡◌}
use Prim.Native.Nat.{◌+◌}
use Rattle.field.specs.Row.{read}
use Rattle.page.specs.Tree.{children_in}
use Rattle.decisions.proofs.ChildrenLaws.{tags_in, passed}
use Rattle.decisions.proofs.children.becomes_template.Given as goal

abbrev pub invariant-loop-field : goal.invariant-loop-field
invariant-loop-field l = passed l.tagged + tags_in l.skip (children_in (read l.field-iterator.0.now)) ≡ tags_in l.skip (children_in (read l.s))
