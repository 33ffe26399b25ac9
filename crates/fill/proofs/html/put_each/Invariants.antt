use lib.ListN.{take}
use Rattle.field.specs.Put.{Wrote}
use Rattle.text.specs.Escape.{escape_html}
use Rattle.fill.proofs.html.put_each.Given as goal

abbrev pub invariant-loop-b : goal.invariant-loop-b
invariant-loop-b l = Wrote l.initial.out l.at (escape_html (take l.b-index l.s)) l.out l.a
