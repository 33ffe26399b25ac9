use lib.ListN.{take}
use Rattle.field.specs.Put.{Wrote}
use Rattle.text.specs.Escape.{escape_html}
use Rattle.text.proofs.escape.put_short_escaped.Given as goal

abbrev pub invariant-loop-i : goal.invariant-loop-i
invariant-loop-i l = Wrote l.initial.out l.at (escape_html (take l.i l.s)) l.out l.a
