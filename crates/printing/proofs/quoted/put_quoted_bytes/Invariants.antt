use lib.ListN.{take}
use Rattle.field.specs.Put.{Wrote}
use Rattle.printing.specs.Card.{quoted_bytes}
use Rattle.printing.proofs.quoted.put_quoted_bytes.Given as goal

abbrev pub invariant-loop-c : goal.invariant-loop-c
invariant-loop-c l = Wrote l.initial.out l.at (quoted_bytes (take l.c-index l.s)) l.out l.a
