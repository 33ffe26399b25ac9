-- `put_spelled` meets its contract. The loop's invariant: the letters so far are written.
use borrow.Author.Rules.{rules}
use Rattle.field.proofs.PutLaws.{wrote_is, wrote_then}
use Rattle.names.proofs.SpellLaws.{spelled_next}
use Rattle.names.proofs.attributes.put_spelled.Goals as goal

pub loop-c-preserved : goal.loop-c-preserved
loop-c-preserved c = let a = c.args in (wrote_is (spelled_next a.sign a.name.now c.loop-c.c-index (search rules)) (wrote_then c.loop-c.invariant c.put_letter-a.ensures))
