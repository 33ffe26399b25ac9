-- The invariant: what is left to write ends where the whole does.
use Rattle.field.proofs.Actions.{by, on, finish, room}
use Rattle.strings.proofs.CarveLaws.{carving, lows}
use Rattle.strings.proofs.TreeLaws.{attrs_step, attrs_gone}
use Rattle.strings.proofs.attributes.attributes_strings.Goals as goal

pub attribute_strings-cur-requires : goal.attribute_strings-cur-requires
attribute_strings-cur-requires c = let o = c.args.options.now in room carving lows _ (by carving (attrs_step o.skip.now o.props.now c.in-Some.ensures.steps) c.loop-a.invariant) c.requires

pub loop-a-preserved : goal.loop-a-preserved
loop-a-preserved c = let o = c.args.options.now in on carving _ (by carving (attrs_step o.skip.now o.props.now c.in-Some.ensures.steps) c.loop-a.invariant) c.attribute_strings-cur.ensures

pub returns : goal.returns
returns c = let o = c.args.options.now in finish carving (by carving (attrs_gone o.skip.now o.props.now c.in-None.ensures.steps) c.loop-a.invariant)
