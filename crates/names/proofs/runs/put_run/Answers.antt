-- `put_run` meets its contract: all bytes fit.
use mathlib.Core.Path.{refl}
use Rattle.field.proofs.PutLaws.{put_part}
use Rattle.names.proofs.runs.put_run.Goals as goal

pub returns : goal.returns
returns c = record { out_is = rw c.copy_run.ensures (put_part _ _ _ c.requires.0); end_is = refl }
