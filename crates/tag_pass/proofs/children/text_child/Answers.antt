-- `tag_pass::children::text_child` meets its contract. Assumes nothing.
use mathlib.Core.Path.{refl}
use Rattle.tag_pass.proofs.ChildLaws.{text_none, text_some}
use Rattle.tag_pass.proofs.children.text_child.Goals as goal

pub returns-in_err-run : goal.returns-in_err-run
returns-in_err-run c = rw c.from_residual.ensures (text_none c.in_err-run.ensures)

pub returns : goal.returns
returns c = text_some c.requires.0.grown c.in_ok-run.ensures refl c.wrote-w.ensures c.in_mode.ensures
