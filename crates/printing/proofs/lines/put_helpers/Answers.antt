-- `put_helpers` meets its contract: a helper after the other.
use mathlib.Core.Path.{◌≡◌, refl}
use mathlib.Core.Bool.{◌||◌}
use native.Mathlib.Omega.{arith}
use Rattle.field.proofs.PutLaws.{wrote_is, wrote_then}
use Rattle.printing.proofs.LineLaws.{bit, bit_set, bit_clear, or_left, or_right, helpers_is, helpers_room}
use Rattle.printing.proofs.lines.put_helpers.Goals as goal
use Rattle.printing.proofs.lines.put_helpers.Goals.{then-jsx, else-jsx, then-earlier, else-earlier, Joined-jsx, Joined-earlier}

two : (c : Joined-jsx) → c.if-jsx.earlier ≡ (bit c.args.n 1 || bit c.args.n 2)
two c = elim c.if-jsx.branch [
  | then-jsx w ↦ or_left _ (bit_set _ _ w.if-jsx.true) w.earlier-is
  | else-jsx w ↦ or_right (bit_clear _ _ w.if-jsx.false) w.earlier-is
]

three : (c : Joined-earlier) → c.if-earlier.put_helper ≡ (c.if-jsx.earlier || bit c.args.n 4)
three c = elim c.if-earlier.branch [
  | then-earlier w ↦ or_left _ w.if-earlier.true w.put_helper-is
  | else-earlier w ↦ or_right w.if-earlier.false w.put_helper-is
]

pub put_helper-a-requires : goal.put_helper-a-requires
put_helper-a-requires c = omega (arith, helpers_room _ refl refl _ c.requires)

pub put_helper-b-requires : goal.put_helper-b-requires
put_helper-b-requires c = omega (arith, c.put_helper-a.ensures.end_is, helpers_room _ refl refl _ c.requires)

pub put_helper-c-requires : goal.put_helper-c-requires
put_helper-c-requires c = let p = goal.at.put_helper-c-requires c in
    omega (arith, c.put_helper-a.ensures.end_is, c.put_helper-b.ensures.end_is, helpers_room _ (two p.Joined-jsx) refl _ c.requires)

pub put_helper-requires : goal.put_helper-requires
put_helper-requires c = let p = goal.at.put_helper-requires c in
    omega (arith, c.put_helper-a.ensures.end_is, c.put_helper-b.ensures.end_is, c.put_helper-c.ensures.end_is, helpers_room _ (two p.Joined-jsx) (three p.Joined-earlier) _ c.requires)

pub returns : goal.returns
returns c = let p = goal.at.returns c in
    wrote_is (helpers_is _ (two p.Joined-jsx) (three p.Joined-earlier)) (wrote_then c.put_helper-a.ensures (wrote_then c.put_helper-b.ensures (wrote_then c.put_helper-c.ensures c.put_helper.ensures)))
