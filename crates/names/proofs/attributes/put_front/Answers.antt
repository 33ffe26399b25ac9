-- A front and its letter behind a hyphen.
use Rattle.field.proofs.PutLaws.{wrote_then}
use Rattle.names.specs.Table.{front}
use Rattle.names.proofs.attributes.put_front.Goals as goal

pub returns : goal.returns
unfolding front
returns c = wrote_then c.put_run-a.ensures c.put_hyphen.ensures
