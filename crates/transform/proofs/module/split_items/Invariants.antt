use Rattle.transform.proofs.SplitLaws.{Passing}
use Rattle.transform.proofs.module.split_items.Given as goal

abbrev pub invariant-loop-item : goal.invariant-loop-item
invariant-loop-item l = Passing l.s l.item-iterator.0.now l.at
