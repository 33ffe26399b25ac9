-- `trimmed` meets its contract: the front first, and then the back.
use mathlib.Core.Path.{◌≡◌, ap, ◌∙◌}
use Rattle.field.specs.Bytes.{Bytes, pick}
use Rattle.text.specs.Trim.{trim_start, trim_end}
use Rattle.text.specs.Text.{trimmed}
use Rattle.text.proofs.lines.TextLine.trimmed.Goals as goal
use Rattle.text.proofs.lines.TextLine.trimmed.Goals.{Joined-self, then-self, else-self}

front : (c : Joined-self) → c.if-self.t.now ≡ pick c.args.self.has_before (trim_start c.args.self.text.now) c.args.self.text.now
front c =
    elim c.if-self.branch [
      | then-self w ↦ rw (w.t-is, w.if-self.true) w.trim_start-t.ensures
      | else-self w ↦ rw (w.t-is, w.if-self.false)
    ]

pub returns-then-self-last : goal.returns-then-self-last
unfolding trimmed
returns-then-self-last c = rw c.if-self-last.true (c.trim_end.ensures ∙ ap (λ (t : Bytes). trim_end t) (front (goal.at.returns-then-self-last c).Joined-self))

pub returns-else-self-last : goal.returns-else-self-last
unfolding trimmed
returns-else-self-last c = rw c.if-self-last.false (front (goal.at.returns-else-self-last c).Joined-self)
