use Rattle.read_tag.proofs.DigitLaws.{Counting}
use Rattle.read_tag.proofs.known.read_digits.Given as goal

abbrev pub invariant-loop-count : goal.invariant-loop-count
invariant-loop-count l = Counting l.s l.n l.count l.value
