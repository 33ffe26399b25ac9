-- `find::search::is_rising` meets its contract: each number is less than the next. Assumes nothing.
use native.Mathlib.Omega.{arith}
use Rattle.std.proofs.lemmas.Grind.{common_steps}
use Rattle.find.proofs.SearchLaws.{rising_is}
use Rattle.find.proofs.search.is_rising.Goals as goal

pub returns : goal.returns
returns c = rising_is c.args.numbers.now c.all.result (grind (arith, common_steps))
