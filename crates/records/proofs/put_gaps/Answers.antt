-- `put_gaps` meets its contract: where one of its tests fails, by that test. Assumes nothing.
use Rattle.records.proofs.Templates.{no_gaps, too_long, no_room}
use Rattle.records.proofs.put_gaps.Goals as goal
use Rattle.records.proofs.put_gaps.Goals.{else-gaps-ne0-via-then-gaps-ne0+then-size-le-MAX_BODY+else-end-gaps, else-gaps-ne0-via-then-gaps-ne0+else-size-le-MAX_BODY, else-gaps-ne0-via-else-gaps-ne0}

pub returns-else-gaps-ne0 : goal.returns-else-gaps-ne0
returns-else-gaps-ne0 c =
    let a = c.args in
    elim c.else-gaps-ne0.branch [
      | else-gaps-ne0-via-then-gaps-ne0+then-size-le-MAX_BODY+else-end-gaps w ↦ no_room a.place a.end a.gaps a.out.now c.requires.0 w.if-end-gaps.false
      | else-gaps-ne0-via-then-gaps-ne0+else-size-le-MAX_BODY w ↦ too_long a.place a.end a.gaps a.out.now c.requires.0 w.if-size-le-MAX_BODY.false
      | else-gaps-ne0-via-else-gaps-ne0 w ↦ no_gaps a.place a.end a.gaps a.out.now c.requires.0 w.if-gaps-ne0.false
    ]
