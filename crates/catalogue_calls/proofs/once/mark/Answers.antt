use Rattle.catalogue_calls.proofs.MarkLaws.{mark_found, marks_place}
use Rattle.catalogue_calls.proofs.once.mark.Goals as goal

pub returns-then-word-i-eq1 : goal.returns-then-word-i-eq1
returns-then-word-i-eq1 c = mark_found c.args.words.now c.args.i c.if-word-i-eq1.true

pub returns : goal.returns
returns c = marks_place c.args.words.now c.args.i c.requires c.if-word-i-eq1.false
