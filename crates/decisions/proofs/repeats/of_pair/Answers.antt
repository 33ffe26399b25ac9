use Rattle.decisions.proofs.RepeatLaws.{plain_letters, plain_paired, pair_xlink, pair_other}
use Rattle.decisions.proofs.repeats.of_pair.Goals as goal

pub returns-then-is_xlink_href : goal.returns-then-is_xlink_href
returns-then-is_xlink_href c = pair_xlink c.args.ns.now c.args.name.now c.is_xlink_href.ensures c.if-is_xlink_href.true (plain_letters c.plain.ensures)

pub returns-else-is_xlink_href : goal.returns-else-is_xlink_href
returns-else-is_xlink_href c = pair_other c.args.ns.now c.args.name.now c.is_xlink_href.ensures c.if-is_xlink_href.false (plain_paired c.plain-else-is_xlink_href.ensures _)
