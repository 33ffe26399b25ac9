-- `kinds::is_plain_byte` meets its contract. Assumes nothing.
use Rattle.convert.proofs.PlainLaws.{plain_one}
use Rattle.convert.proofs.kinds.is_plain_byte.Goals as goal

pub returns : goal.returns
returns c = plain_one c.args.c
