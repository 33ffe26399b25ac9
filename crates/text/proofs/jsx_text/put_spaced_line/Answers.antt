-- `text::jsx_text::put_spaced_line` meets its contract. Assumes nothing.
use Rattle.field.proofs.PutLaws.{wrote_then, wrote_is}
use Rattle.text.proofs.TextLaws.{spaced_is}
use Rattle.text.proofs.jsx_text.put_spaced_line.Goals as goal

pub returns : goal.returns
returns c = wrote_is (spaced_is c.args.later c.args.s.now) (wrote_then c.put_space-a.ensures c.put_bytes.ensures)
