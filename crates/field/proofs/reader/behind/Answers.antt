use Rattle.field.proofs.HeaderLaws.{behind_is, nothing_behind}
use Rattle.field.proofs.reader.behind.Goals as goal

pub returns-in-Some : goal.returns-in-Some
returns-in-Some c = behind_is _ c.read_header.ensures.0 c.in-Some.is

pub returns-in-None : goal.returns-in-None
returns-in-None c = nothing_behind _ c.read_header.ensures.0 c.in-None.is
