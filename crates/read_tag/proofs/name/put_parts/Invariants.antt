use mathlib.Core.Path.{◌≡◌}
use Rattle.read_tag.proofs.NameWalkLaws.{PuttingOn}
use Rattle.read_tag.proofs.name.put_parts.Given as goal

abbrev pub invariant-loop-part : goal.invariant-loop-part
invariant-loop-part l = (l.part-iterator.text.now ≡ l.text) × PuttingOn l.text l.i l.initial.out l.at l.part-iterator.at l.out l.o
