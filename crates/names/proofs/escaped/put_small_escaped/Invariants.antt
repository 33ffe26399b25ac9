use lib.ListN.{take}
use Rattle.field.specs.Put.{Wrote}
use Rattle.text.specs.Escape.{escape_html}
use Rattle.names.specs.Names.{small_letters}
use Rattle.names.proofs.escaped.put_small_escaped.Given as goal

abbrev pub invariant-loop-c : goal.invariant-loop-c
invariant-loop-c l = Wrote l.initial.out l.at (escape_html (small_letters (take l.c-index l.name))) l.out l.a
