use Rattle.field.specs.Row.{read}
use Rattle.printing.specs.Card.{templates_text}
use Rattle.printing.proofs.RoomLaws.{Left}
use Rattle.printing.proofs.lines.print_templates.Given as goal

abbrev pub invariant-loop-template : goal.invariant-loop-template
invariant-loop-template l = Left l.initial.out l.initial.a (templates_text (read l.s)) l.out l.a (templates_text (read l.template-iterator.0.now))
