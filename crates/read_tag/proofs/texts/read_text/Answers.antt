-- `read_tag::texts::read_text` meets its contract. Assumes nothing.
use Rattle.read_tag.proofs.TextLaws.{decoded_length, text_barred, text_ends}
use Rattle.read_tag.proofs.texts.read_text.Goals as goal

pub overflow_sub-run : goal.overflow_sub-run
overflow_sub-run c = (decoded_length _ _ _ _ _ _ _ c.decode.ensures c.in_ok-run.was).0

pub returns-in_err-run : goal.returns-in_err-run
returns-in_err-run c = rw c.from_residual.ensures (text_barred _ _ _ _ _ c.requires.0 c.requires.1 _ c.decode.ensures c.in_err-run.was)

pub returns : goal.returns
returns c = text_ends _ _ _ _ _ c.requires.0 c.requires.1 _ c.decode.ensures c.in_ok-run.was c.put_head.ensures
