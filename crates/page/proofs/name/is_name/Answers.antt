-- `page::name::is_name` meets its contract: a first letter, and name parts behind it. Assumes nothing.
use mathlib.Core.Path.{sym, ◌∙◌}
use native.Mathlib.Omega.{arith}
use borrow.Author.Tests.{le-leb, lt-leb, leb-true}
use Rattle.page.proofs.LeafLaws.{name_empty, name_first}
use Rattle.page.proofs.name.is_name.Goals as goal
use Rattle.page.proofs.name.is_name.Goals.{then-s-le-MAX_NAME, else-s-le-MAX_NAME}

pub returns-in_default : goal.returns-in_default
returns-in_default c = name_empty _ c.in_default.ensures.cases

pub returns-then-is_start : goal.returns-then-is_start
returns-then-is_start c = elim c.if-s-le-MAX_NAME.branch [
  | then-s-le-MAX_NAME w ↦ c.are_parts.ensures ∙ sym (name_first _ _ _ c.in-Some.ensures.cases.0 ∙ rw (le-leb _ 128 w.if-s-le-MAX_NAME.true, sym w.is_start.ensures ∙ (sym w.value-is ∙ c.if-is_start.true)))
  | else-s-le-MAX_NAME w ↦ absurd (omega (arith, w.if-s-le-MAX_NAME.false, leb-true _ _ (sym w.value-is ∙ c.if-is_start.true)))
]

pub returns-else-is_start : goal.returns-else-is_start
returns-else-is_start c = elim c.if-s-le-MAX_NAME.branch [
  | then-s-le-MAX_NAME w ↦ c.if-is_start.false ∙ sym (name_first _ _ _ c.in-Some.ensures.cases.0 ∙ rw (le-leb _ 128 w.if-s-le-MAX_NAME.true, sym w.is_start.ensures ∙ (sym w.value-is ∙ c.if-is_start.false)))
  | else-s-le-MAX_NAME w ↦ c.if-is_start.false ∙ sym (name_first _ _ _ c.in-Some.ensures.cases.0 ∙ rw (lt-leb _ 128 w.if-s-le-MAX_NAME.false))
]
