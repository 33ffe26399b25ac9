-- `tag_pass::braces::points` meets its contract. Assumes nothing.
use Rattle.tag_pass.proofs.BracesLaws.{points_none, points_three}
use Rattle.tag_pass.proofs.braces.points.Goals as goal

pub returns-then-not-starts_with : goal.returns-then-not-starts_with
returns-then-not-starts_with c = points_none c.starts_with.ensures.value c.if-not-starts_with.true

pub returns : goal.returns
returns c = points_three c.starts_with.ensures.value c.if-not-starts_with.false c.braces.ensures
