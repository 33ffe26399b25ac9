-- `kinds::Gaps::next_kind` meets its contract, where a string is left and where none is. Assumes nothing.
use mathlib.Core.Path.{ap, ◌∙◌}
use Rattle.convert.specs.declared.kinds.Gaps.{Gaps}
use Rattle.convert.proofs.KindLaws.{kind_next, kind_stays}
use Rattle.convert.proofs.kinds.Gaps.next_kind.Goals as goal
use Rattle.convert.proofs.kinds.Gaps.next_kind.Goals.{in-Some, in_default}

pub returns : goal.returns
returns c = elim c.match-next.branch [
  | in-Some w ↦ kind_next w.in-Some.ensures.steps (ap (λ (g : Gaps). g.strings.0.now) w.self-is) (ap (λ (g : Gaps). g.markup) w.self-is ∙ w.pass_all-self.ensures) c.kind_of.ensures
  | in_default w ↦ kind_stays w.in_default.ensures.steps (ap (λ (g : Gaps). g.strings.0.now) w.self-is) (ap (λ (g : Gaps). g.markup) w.self-is) c.kind_of.ensures
]
