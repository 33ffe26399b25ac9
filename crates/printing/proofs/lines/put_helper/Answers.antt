-- `put_helper` meets its contract: `, ` is written where it is not the first, and then the two names.
use native.Mathlib.Omega.{arith}
use mathlib.Core.Path.{ap}
use mathlib.Core.List.{[], ◌++◌}
use lib.ListN.{length, length-append}
use Rattle.field.specs.Bytes.{ascii, pick}
use Rattle.field.specs.Put.{Wrote}
use Rattle.field.proofs.PutLaws.{wrote_none, wrote_is, wrote_then}
use Rattle.printing.proofs.LineLaws.{helper_none, helper_here}
use Rattle.printing.proofs.lines.put_helper.Goals as goal
use Rattle.printing.proofs.lines.put_helper.Goals.{then-later, else-later, Joined-later}

before : (c : Joined-later) → let a = c.args in Wrote a.out.now a.at (pick a.later (ascii ", ") []) c.if-later.out c.if-later.a
before c = elim c.if-later.branch [
  | then-later w ↦ rw (w.if-later.true, w.out-is, w.a-is) w.put_bytes-a.ensures
  | else-later w ↦ rw (w.if-later.false, w.out-is, w.a-is) (wrote_none _ _)
]

pub put_renamed-requires : goal.put_renamed-requires
put_renamed-requires c = let a = c.args in let n = a.name.now in
    let w = before (goal.at.put_renamed-requires c).Joined-later in
    omega (arith, c.requires, w.end_is, ap length (helper_here a.stands a.later n c.if-stands.true), length-append (pick a.later (ascii ", ") []) (n ++ (ascii " as _" ++ n)))

pub returns-after-later : goal.returns-after-later
returns-after-later c = let a = c.args in
    wrote_is (helper_here a.stands a.later a.name.now c.if-stands.true) (wrote_then (before (goal.at.returns-after-later c).Joined-later) c.put_renamed.ensures)

pub returns-else-stands : goal.returns-else-stands
returns-else-stands c = let a = c.args in wrote_is (helper_none a.stands a.later a.name.now c.if-stands.false) (wrote_none _ _)
