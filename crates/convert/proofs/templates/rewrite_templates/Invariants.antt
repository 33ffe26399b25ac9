use Rattle.convert.proofs.TemplateLaws.{Keeps}
use Rattle.convert.proofs.templates.rewrite_templates.Given as goal

abbrev pub invariant-loop-record : goal.invariant-loop-record
invariant-loop-record l = Keeps l.from l.s l.initial.out l.record-iterator.0.now l.out l.n l.long
