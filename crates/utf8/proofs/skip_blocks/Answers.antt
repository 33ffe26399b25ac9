-- `utf8::skip_blocks` meets its contract. The invariant is the contract at what is left. Assumes nothing.
use mathlib.Core.Path.{sym, ◌∙◌}
use Rattle.utf8.proofs.Places.{skips_none, skips_on, skips_block}
use Rattle.utf8.proofs.skip_blocks.Goals as goal

pub loop-block-init : goal.loop-block-init
loop-block-init g c = skips_none _

pub loop-block-preserved : goal.loop-block-preserved
loop-block-preserved g c = let s = c.in-Some.ensures.cases in skips_on c.loop-block.invariant (skips_block g.row.N s.0 s.1 (sym c.is_ascii.ensures ∙ c.if-not-is_ascii.false))
