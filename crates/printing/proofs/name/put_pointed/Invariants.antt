use Rattle.field.specs.Row.{read}
use Rattle.printing.specs.Card.{pointed_more}
use Rattle.printing.proofs.RoomLaws.{Left}
use Rattle.printing.proofs.name.put_pointed.Given as goal

abbrev pub invariant-loop-name : goal.invariant-loop-name
invariant-loop-name l = Left l.initial.out l.initial.a (pointed_more (read l.initial.name-iterator.0.now)) l.out l.a (pointed_more (read l.name-iterator.0.now))
