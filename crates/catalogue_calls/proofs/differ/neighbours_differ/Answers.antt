-- `differ::neighbours_differ` meets its contract: sorted numbers differ where each is less than the next. Assumes nothing.
use native.Mathlib.Omega.{arith}
use Rattle.std.proofs.lemmas.Grind.{common_steps}
use Rattle.catalogue_calls.proofs.DifferLaws.{neighbours}
use Rattle.catalogue_calls.proofs.differ.neighbours_differ.Goals as goal

pub returns : goal.returns
returns c = neighbours c.args.names.now c.all.result c.requires (grind (arith, common_steps))
