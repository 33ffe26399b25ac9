-- `move_up` meets its contract: as many bytes as fit. Assumes nothing.
use mathlib.Core.Path.{sym, ◌∙◌}
use Rattle.field.proofs.PutLaws.{put_out}
use Rattle.records.proofs.MoveLaws.{move_fit}
use Rattle.records.proofs.moves.move_up.Goals as goal

pub returns-then-p-n : goal.returns-then-p-n
returns-then-p-n c = let a = c.args in c.move_run.ensures ∙ move_fit a.out.now a.p a.end a.n c.if-p-n.true c.requires.0 c.min.ensures

pub returns-else-p-n : goal.returns-else-p-n
returns-else-p-n c = sym (put_out _ _ _ c.if-p-n.false)
