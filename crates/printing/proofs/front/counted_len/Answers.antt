-- `printing::front::counted_len` meets its contract: the count is read where the definition reads it. Assumes nothing.
use native.Mathlib.Omega.{arith}
use lib.ListN.{length, length-drop}
use Rattle.field.specs.Row.{counted_front}
use Rattle.printing.proofs.FrontLaws.{counted_is, min_is}
use Rattle.printing.proofs.front.counted_len.Goals as goal

pub returns-in-len6-up : goal.returns-in-len6-up
returns-in-len6-up c = let b = c.args.b.now in
    omega (arith, min_is (length b) (counted_front 4 b), counted_is b c.in-len6-up.len_at_least, c.min.ensures, c.from.ensures, c.from_be_bytes.ensures, length-drop 6 b)
