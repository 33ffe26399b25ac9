-- `templates::counted_front` meets its contract. Assumes nothing.
use mathlib.Core.Path.{◌∙◌}
use Rattle.outs.proofs.Parts.{front_at}
use Rattle.outs.proofs.templates.counted_front.Goals as goal

pub returns : goal.returns
returns c = front_at c.args.w.now c.requires (c.from.ensures ∙ c.from_be_bytes.ensures)
