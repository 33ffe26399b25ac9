use mathlib.Core.Path.{◌∙◌}
use native.Mathlib.Omega.{arith}
use Rattle.decisions.proofs.ElementLaws.{serializable_upper, serializable_kept, serializable_rest, never_serializable}
use Rattle.decisions.proofs.element.is_serializable.Goals as goal
use Rattle.decisions.proofs.element.is_serializable.Goals.{then-not-is_upper, else-not-is_upper}

pub returns-in_default : goal.returns-in_default
returns-in_default c = never_serializable _ _ c.element_name_at.result c.element_name_at.ensures c.in_default.not-Identifier

pub returns-then-not-keeps_from : goal.returns-then-not-keeps_from
returns-then-not-keeps_from c =
    elim c.if-not-is_upper.branch [
      | then-not-is_upper w ↦ serializable_rest _ _ c.in-Identifier.ensures c.is_upper.ensures w.if-not-is_upper.true w.behind.ensures w.keeps_from.ensures (grind arith) c.lists.ensures
      | else-not-is_upper w ↦ grind arith
    ]

pub returns-else-not-keeps_from : goal.returns-else-not-keeps_from
returns-else-not-keeps_from c =
    elim c.if-not-is_upper.branch [
      | then-not-is_upper w ↦ c.if-not-keeps_from.false ∙ serializable_kept _ _ c.in-Identifier.ensures c.is_upper.ensures w.if-not-is_upper.true w.behind.ensures w.keeps_from.ensures (grind arith)
      | else-not-is_upper w ↦ c.if-not-keeps_from.false ∙ serializable_upper _ _ c.in-Identifier.ensures c.is_upper.ensures w.if-not-is_upper.false
    ]
