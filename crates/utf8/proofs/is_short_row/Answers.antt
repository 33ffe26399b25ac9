-- `utf8::is_short_row` meets its contract. Assumes nothing.
use Rattle.utf8.proofs.Rows.{short_utf8}
use Rattle.utf8.proofs.is_short_row.Goals as goal

pub returns-then-is_narrow_row : goal.returns-then-is_narrow_row
returns-then-is_narrow_row c e = short_utf8 _ _ c.requires c.copy_from_slice.ensures.after (c.is_narrow_row.ensures c.if-is_narrow_row.true)

pub returns : goal.returns
returns c e = short_utf8 _ _ c.requires c.copy_from_slice.ensures.after (c.is_wide_row.ensures e)
