-- `read_tag::name::part_at` meets its contract. Assumes nothing.
use native.Mathlib.Omega.{arith}
use mathlib.Core.Path.{refl}
use Rattle.read_tag.proofs.RunLaws.{ran}
use Rattle.read_tag.proofs.NameLaws.{part_last, part_ends, part_parted}
use Rattle.read_tag.proofs.name.part_at.Goals as goal
use Rattle.read_tag.proofs.name.part_at.Goals.{in_default-via-in-Some+else-is_separator, in_default-via-in_default}

pub returns-in-Some : goal.returns-in-Some
returns-in-Some c =
    let h = c.in-Some.ensures.lookup in
    record { end = c.run_end-end.result; word_is = refl; ran = ran _ _ _ (omega arith) c.run_end-end.ensures.place; behind = part_parted _ _ _ c.skip_spaces-k.ensures _ _ _ h.3.0 (h.3.1 0) c.is_separator.ensures c.if-is_separator.true c.skip_spaces.ensures }

pub returns-in_default : goal.returns-in_default
returns-in_default c =
    elim c.in_default.branch [
      | in_default-via-in-Some+else-is_separator w ↦
          let h = w.in-Some.ensures.lookup in
          record { end = c.run_end-end.result; word_is = refl; ran = ran _ _ _ (omega arith) c.run_end-end.ensures.place; behind = part_ends _ _ _ c.skip_spaces-k.ensures _ _ h.3.0 (h.3.1 0) w.is_separator.ensures w.if-is_separator.false }
      | in_default-via-in_default w ↦
          let h = rw w.in_default.is at c.get.ensures.lookup in
          record { end = c.run_end-end.result; word_is = refl; ran = ran _ _ _ (omega arith) c.run_end-end.ensures.place; behind = part_last _ _ _ c.skip_spaces-k.ensures h.3 }
    ]
