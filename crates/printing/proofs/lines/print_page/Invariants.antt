use Rattle.field.specs.Row.{read}
use Rattle.printing.specs.Card.{page_text}
use Rattle.printing.proofs.RoomLaws.{Left}
use Rattle.printing.proofs.lines.print_page.Given as goal

abbrev pub invariant-loop-item : goal.invariant-loop-item
invariant-loop-item l = Left l.initial.out l.initial.a (page_text (read l.templates) (read l.page)) l.out l.a (page_text (read l.templates) (read l.item-iterator.0.now))
