-- `templates::count_gaps` meets its contract. Assumes nothing.
use native.Mathlib.Omega.{arith}
use Rattle.convert.proofs.KindLaws.{fields_drained}
use Rattle.convert.proofs.templates.count_gaps.Goals as goal

pub returns : goal.returns
returns c = let r = c.count.ensures.ran in omega (arith, c.saturating_sub.ensures, fields_drained (record { 0 = c.args.s }) r.0 r.1, r.2)
