use Rattle.field.proofs.PutLaws.{wrote_none}
use Rattle.text.proofs.jsx_text.put_space.Goals as goal

pub returns-else-later : goal.returns-else-later
returns-else-later c = rw c.if-later.false (wrote_none _ _)
