use Prim.Native.Nat.{◌+◌, ◌*◌}
use lib.ListN.{length}
use Rattle.field.specs.Row.{read}
use Rattle.std.specs.Slice.Iter.{iter_rest}
use Rattle.fill.specs.Indexed.{Served}
use Rattle.fill.proofs.HtmlLaws.{Turning}
use Rattle.fill.proofs.html.+html.Given as goal

abbrev pub decreases-write_filling : goal.decreases-write_filling
decreases-write_filling l = 2 * length l.filling.body.now + 1

abbrev pub decreases-write_order : goal.decreases-write_order
decreases-write_order l = 2 * length l.body.now

abbrev pub decreases-write_order-loop-fillings : goal.decreases-write_order-loop-fillings
decreases-write_order-loop-fillings l = length l.fillings

abbrev pub invariant-write_order-loop-fillings : goal.invariant-write_order-loop-fillings
invariant-write_order-loop-fillings l =
    Turning (Served l.entries.templates.now l.entries.numbers.now l.entries.places.now) (read l.entries.templates.now) l.body l.initial.out l.at (iter_rest l.kinds) l.strings l.fillings l.out l.n
