-- By the letters at its ends, of an identifier.
use mathlib.Core.Path.{◌∙◌}
use Rattle.decisions.proofs.RepeatLaws.{ends_keyed, ends_key_is}
use Rattle.decisions.proofs.repeats.ends_key.Goals as goal

pub returns : goal.returns
returns c = let n = c.in_ok-name.name.now in ends_keyed c.args.a.now n c.in_ok-name.ensures _ (c.ends_key_by.ensures ∙ ends_key_is n)
