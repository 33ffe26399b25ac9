-- `tag_pass::tags::same_closing` meets its contract. Assumes nothing.
use Rattle.tag_pass.proofs.TagLaws.{same_none, same_some}
use Rattle.tag_pass.proofs.tags.same_closing.Goals as goal

pub returns-in-Some : goal.returns-in-Some
returns-in-Some c = same_some _ _ _ _ _ c.same_names.ensures c.in-Some.is

pub returns-in-None : goal.returns-in-None
returns-in-None c = same_none c.args.j c.in-None.is
