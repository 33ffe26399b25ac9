-- `tag_pass::pass::turn` meets its contract. Assumes nothing.
use native.Mathlib.Omega.{arith}
use Rattle.tag_pass.proofs.PassLaws.{ended_needs, turn_ended, turn_none}
use Rattle.tag_pass.proofs.pass.turn.Goals as goal

pub returns-in_err-w : goal.returns-in_err-w
returns-in_err-w c = rw c.from_residual.ensures (turn_none c.in_err-w.ensures)

pub ended-requires : goal.ended-requires
ended-requires c = let lent = c.requires.0 in let opened = c.in_ok-w.ensures in ended_needs lent.small (omega (arith, lent.frames, opened.0)) (opened.1 lent.o lent.i lent.going).going c.in-Ended.is

pub returns-in-Ended : goal.returns-in-Ended
returns-in-Ended c = let opened = c.in_ok-w.ensures in let ended = c.ended.ensures in (
  (
    opened.0,
    λ o i g.
        let on = opened.1 o i g in
        record { from = on.from; after = on.after; going = turn_ended c.in-Ended.is ended.0 on.going },
  ),
  ended.1,
)
