use mathlib.Core.Path.{◌≡◌}
use Rattle.read_tag.proofs.NameLaws.{NamingOn}
use Rattle.read_tag.proofs.name.scan_parts.Given as goal

abbrev pub invariant-loop-part : goal.invariant-loop-part
invariant-loop-part l = (l.part-iterator.text.now ≡ l.text) × NamingOn l.text l.i l.part-iterator.at l.parts l.short l.plain l.points
