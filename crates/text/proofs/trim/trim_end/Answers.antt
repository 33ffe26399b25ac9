-- `text::trim::trim_end` meets its contract. The invariant: trimming what is left gives what trimming the whole gives. Assumes nothing.
use mathlib.Core.Path.{sym, ◌∙◌}
use Rattle.text.proofs.TrimLaws.{trim_back_on, trim_back_here, back_shorter}
use Rattle.text.proofs.trim.trim_end.Goals as goal

pub loop-rest-smaller : goal.loop-rest-smaller
loop-rest-smaller c = let t = c.in-Some.ensures in back_shorter _ _ t.0 t.1

pub loop-rest-preserved : goal.loop-rest-preserved
loop-rest-preserved c = let t = c.in-Some.ensures in trim_back_on _ _ t.0 t.1 ∙ c.loop-rest.invariant

pub returns : goal.returns
returns c = sym (trim_back_here c.loop-rest.left.now c.in_default.ensures) ∙ c.loop-rest.invariant
