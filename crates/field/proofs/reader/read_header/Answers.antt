use Rattle.field.proofs.HeaderLaws.{header_short, header_is, header_long}
use mathlib.Core.Path.{◌∙◌}
use Rattle.field.proofs.reader.read_header.Goals as goal

pub returns-in_default : goal.returns-in_default
returns-in_default c = (header_short _ c.in_default.len_below, tt)

pub returns-then-len-rest : goal.returns-then-len-rest
returns-then-len-rest c = header_is _ _ c.in-len3-up.len_at_least (c.from-len.ensures ∙ c.from_be_bytes.ensures) c.if-len-rest.true

pub returns-else-len-rest : goal.returns-else-len-rest
returns-else-len-rest c = (header_long _ _ c.in-len3-up.len_at_least (c.from-len.ensures ∙ c.from_be_bytes.ensures) c.if-len-rest.false, tt)
