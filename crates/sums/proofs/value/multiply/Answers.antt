-- `sums::value::multiply` meets its contract. Assumes nothing.
use mathlib.Core.Path.{◌≡◌, refl, ◌∙◌, ap}
use mathlib.Core.Logic.{inl, inr}
use Prim.Native.Nat.{◌*◌}
use Rattle.std.specs.Prelude.{Some}
use Rattle.sums.specs.Value.{upward, multiplied}
use Rattle.sums.specs.declared.value.Sum.TheVariants.{Plus, Minus}
use Rattle.sums.proofs.Steps.{up_capped, none_multiplied, mixed_left, mixed_right}
use Rattle.sums.proofs.value.multiply.Goals as goal
use Rattle.sums.proofs.value.multiply.Goals.{in-Plus-Minus, in-Plus-Minus-2, in-Plus-Plus, in-Plus-Plus-2}

pub returns-in_err-a : goal.returns-in_err-a
returns-in_err-a c = c.from_residual.ensures ∙ none_multiplied _ _ (inl c.in_err-a.was)

pub returns-in_err-y : goal.returns-in_err-y
returns-in_err-y c = c.from_residual-in_err-y.ensures ∙ none_multiplied _ _ (inr c.in_err-y.was)

pub returns-in-Plus-Plus : goal.returns-in-Plus-Plus
unfolding multiplied
returns-in-Plus-Plus c =
    let p = c.in-Plus-Plus-1 in
    let u = c.bounded.ensures ∙ ap upward c.saturating_mul.ensures ∙ up_capped (p.x * p.y) in
    let e : multiplied (Some (Plus p.x)) (Some (Plus p.y)) ≡ upward (p.x * p.y) = refl in
    let f : multiplied (Some (Minus p.x)) (Some (Minus p.y)) ≡ upward (p.x * p.y) = refl in
    elim p.branch [
      | in-Plus-Plus w ↦ cc (u, e, c.in_ok-a.was, c.in_ok-y.was)
      | in-Plus-Plus-2 w ↦ cc (u, f, c.in_ok-a.was, c.in_ok-y.was)
    ]

pub returns-in-Plus-Minus : goal.returns-in-Plus-Minus
returns-in-Plus-Minus c =
    let p = c.in-Plus-Minus-1 in
    elim p.branch [
      | in-Plus-Minus w ↦ cc (mixed_right p.x p.y, c.in_ok-a.was, c.in_ok-y.was)
      | in-Plus-Minus-2 w ↦ cc (mixed_left p.y p.x, c.in_ok-a.was, c.in_ok-y.was)
    ]
