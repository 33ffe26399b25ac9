use Rattle.field.proofs.HeaderLaws.{body_is, no_body}
use Rattle.field.proofs.reader.body.Goals as goal

pub returns-in-Some : goal.returns-in-Some
returns-in-Some c = body_is _ c.read_header.ensures.0 c.in-Some.is

pub returns-in-None : goal.returns-in-None
returns-in-None c = no_body _ c.read_header.ensures.0 c.in-None.is
