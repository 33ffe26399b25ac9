use mathlib.Core.Path.{sym, ◌∙◌}
use Rattle.decisions.proofs.RepeatLaws.{sign_next, sign_none, sign_passed}
use Rattle.decisions.proofs.repeats.Spelled.sign_before.Goals as goal
use Rattle.decisions.proofs.repeats.Spelled.sign_before.Goals.{else-not-self-via-then-not-self+else-is_ascii_uppercase, else-not-self-via-else-not-self}

pub returns-then-is_ascii_uppercase : goal.returns-then-is_ascii_uppercase
returns-then-is_ascii_uppercase c = sign_next _ _ c.if-not-self.true (sym c.is_ascii_uppercase.ensures.value ∙ c.if-is_ascii_uppercase.true)

pub returns-else-not-self : goal.returns-else-not-self
returns-else-not-self c = elim c.else-not-self.branch [
  | else-not-self-via-then-not-self+else-is_ascii_uppercase w ↦ sign_none _ _ _ (sym w.is_ascii_uppercase.ensures.value ∙ w.if-is_ascii_uppercase.false)
  | else-not-self-via-else-not-self w ↦ sign_passed _ _ w.if-not-self.false
]
