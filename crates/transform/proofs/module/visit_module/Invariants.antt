use Prim.Native.Nat.{◌≤◌}
use mathlib.Core.Path.{◌≡◌}
use lib.ListN.{length}
use Rattle.walk.specs.See.{at, see}
use Rattle.transform.proofs.ItemLaws.{module_at}
use Rattle.transform.proofs.module.visit_module.Given as goal

abbrev pub invariant-loop-item : goal.invariant-loop-item
invariant-loop-item l = (length l.item-iterator.0.now ≤ length l.s) × (see (module_at l.options.skip.now l.options.props.now l.item-iterator.0.now) (at l.templates l.page l.cur) ≡ see (module_at l.options.skip.now l.options.props.now l.s) (at l.initial.templates l.initial.page l.initial.cur))
