-- `tag_pass::pass::opened` meets its contract. Assumes nothing.
use native.Mathlib.Omega.{arith}
use mathlib.Core.Path.{refl}
use Rattle.tag_pass.proofs.PassLaws.{on_stands, going_bounded, turned_bounded, turned_none, turned_both, step_inner, inner_needs, step_none, step_kept}
use Rattle.tag_pass.proofs.pass.opened.Goals as goal

pub tag_turn-requires : goal.tag_turn-requires
tag_turn-requires c = let pre = c.requires in going_bounded pre.0.small pre.0.going (on_stands _ pre.1)

pub returns-in_err-v : goal.returns-in_err-v
returns-in_err-v c = rw c.from_residual.ensures (step_none (turned_none c.in_err-v.ensures))

pub children_turn-requires : goal.children_turn-requires
children_turn-requires c = let lent = c.requires.0 in λ m. turned_bounded lent.small lent.going (c.in_ok-v.ensures _ lent.o lent.i lent.going) m

pub returns-in_err-w : goal.returns-in_err-w
returns-in_err-w c = rw c.from_residual-in_err-w.ensures (step_none (turned_both c.requires.1 c.in_ok-v.ensures c.in_err-w.ensures))

pub open_inner-requires : goal.open_inner-requires
open_inner-requires c = let lent = c.requires.0 in let front = turned_both c.requires.1 c.in_ok-v.ensures c.in_ok-w.ensures _ lent.o lent.i lent.going in
    inner_needs lent.small lent.frames front.going c.in-Inner.is

pub returns-in-Inner : goal.returns-in-Inner
returns-in-Inner c = let small = c.requires.0.small in let inner = c.in-Inner.is in (
  omega arith,
  λ o i g.
      let front = turned_both c.requires.1 c.in_ok-v.ensures c.in_ok-w.ensures _ o i g in
      record { from = _; after = front.reached _ _ refl inner; going = step_inner small inner c.open_inner.ensures o front.from front.going },
)

pub returns-in_default : goal.returns-in_default
returns-in_default c = step_kept (turned_both c.requires.1 c.in_ok-v.ensures c.in_ok-w.ensures) c.in_default.not-Inner
