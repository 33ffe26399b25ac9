use mathlib.Core.Path.{refl}
use Rattle.page.specs.Number.{number_in}
use Rattle.decisions.proofs.ExprLaws.{number_front}
use Rattle.decisions.proofs.expr.number_field.Goals as goal

pub returns : goal.returns
unfolding number_in
returns c = number_front _ _ c.field_at.ensures _ refl c.unwrap_or.ensures
