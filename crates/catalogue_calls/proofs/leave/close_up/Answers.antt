-- `leave::close_up` meets its contract: lowered, moved down, and zeros behind. Assumes nothing.
use native.Mathlib.Omega.{arith}
use Rattle.catalogue_calls.proofs.LeaveLaws.{few, tail_later, closes}
use Rattle.catalogue_calls.proofs.leave.close_up.Goals as goal

pub overflow_cast-page : goal.overflow_cast-page
overflow_cast-page c = omega (arith, few c.requires.there)

pub lower-requires : goal.lower-requires
lower-requires c = tail_later c.requires.there

pub returns : goal.returns
returns c = closes c.requires.there c.lower.ensures c.copy_within.ensures.after (c.fill.ensures.after (λ y e. e))
