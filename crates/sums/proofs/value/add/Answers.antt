-- `sums::value::add` meets its contract. Assumes nothing.
use mathlib.Core.Path.{sym, ◌∙◌, ap, ap₂}
use mathlib.Core.Logic.{inl, inr}
use Rattle.std.specs.Prelude.{Some}
use Rattle.sums.specs.Value.{upward, downward, added}
use Rattle.sums.proofs.Steps.{up_capped, down_capped, none_added}
use Rattle.sums.proofs.value.add.Goals as goal
use Rattle.sums.proofs.value.add.Goals.{in-Plus-Minus, in-Plus-Minus-2}

pub returns-in_err-a : goal.returns-in_err-a
returns-in_err-a c = c.from_residual.ensures ∙ none_added _ _ (inl c.in_err-a.was)

pub returns-in_err-y : goal.returns-in_err-y
returns-in_err-y c = c.from_residual-in_err-y.ensures ∙ none_added _ _ (inr c.in_err-y.was)

pub returns-in-Plus-Plus : goal.returns-in-Plus-Plus
unfolding added
returns-in-Plus-Plus c = c.bounded.ensures ∙ ap upward c.saturating_add.ensures ∙ up_capped _ ∙ sym (ap₂ added (c.in_ok-a.was ∙ ap Some c.in-Plus-Plus.is-0) (c.in_ok-y.was ∙ ap Some c.in-Plus-Plus.is-1))

pub returns-in-Minus-Minus : goal.returns-in-Minus-Minus
unfolding added
returns-in-Minus-Minus c = c.bounded-in-Minus-Minus.ensures ∙ ap downward c.saturating_add-in-Minus-Minus.ensures ∙ down_capped _ ∙ sym (ap₂ added (c.in_ok-a.was ∙ ap Some c.in-Minus-Minus.is-0) (c.in_ok-y.was ∙ ap Some c.in-Minus-Minus.is-1))

pub returns-in-Plus-Minus : goal.returns-in-Plus-Minus
unfolding added
returns-in-Plus-Minus c = elim c.in-Plus-Minus-1.branch [ in-Plus-Minus w ↦ cc (c.in_ok-a.was, c.in_ok-y.was) | in-Plus-Minus-2 w ↦ cc (c.in_ok-a.was, c.in_ok-y.was) ]
