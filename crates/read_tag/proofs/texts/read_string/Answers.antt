-- `read_tag::texts::read_string` meets its contract. Assumes nothing.
use Rattle.read_tag.proofs.TextLaws.{decoded_length, string_barred, string_open, string_closes}
use Rattle.read_tag.proofs.texts.read_string.Goals as goal

pub returns-in_err-get : goal.returns-in_err-get
returns-in_err-get c = rw c.from_residual-in_err-get.ensures (string_open _ _ _ _ _ _ c.requires.1 _ c.decode.ensures c.in_ok-run.was c.in_err-get.ensures.lookup.3)

pub overflow_sub-run : goal.overflow_sub-run
overflow_sub-run c = (decoded_length _ _ _ _ _ _ _ c.decode.ensures c.in_ok-run.was).0

pub returns-in_err-run : goal.returns-in_err-run
returns-in_err-run c = rw c.from_residual.ensures (string_barred _ _ _ _ _ _ c.requires.1 _ c.decode.ensures c.in_err-run.was)

pub returns : goal.returns
returns c = string_closes _ _ _ _ _ _ c.requires.1 _ c.decode.ensures c.in_ok-run.was c.in_ok-get.ensures.lookup.3.0 c.put_head.ensures
