use lib.ListN.{take}
use Rattle.field.specs.Put.{Wrote}
use Rattle.names.specs.Table.{spelled}
use Rattle.names.proofs.attributes.put_spelled.Given as goal

abbrev pub invariant-loop-c : goal.invariant-loop-c
invariant-loop-c l = Wrote l.initial.out l.at (spelled l.sign (take l.c-index l.name)) l.out l.a
