-- `text::trim::trim_start` meets its contract. The invariant: trimming what is left gives what trimming the whole gives. Assumes nothing.
use native.Mathlib.Omega.{arith}
use mathlib.Core.Path.{sym, ap, ◌∙◌}
use lib.ListN.{length, length-drop}
use Rattle.field.specs.Bytes.{Bytes}
use Rattle.text.specs.Runs.{is_space, run}
use Rattle.text.specs.Trim.{trim_start}
use Rattle.text.proofs.TrimLaws.{trim_run, trim_on, trim_here, front_shorter}
use Rattle.text.proofs.trim.trim_start.Goals as goal

pub loop-rest-init : goal.loop-rest-init
loop-rest-init c = ap {B = Bytes} trim_start c.skip_spaces-left.ensures ∙ trim_run c.args.s.now

pub loop-rest-smaller : goal.loop-rest-smaller
loop-rest-smaller c = let t = c.in-Some.ensures in omega (arith, ap length c.skip_spaces-left-in-Some.ensures, length-drop (run is_space c.in-Some.rest.now) c.in-Some.rest.now, front_shorter _ _ t.0 t.1)

pub loop-rest-preserved : goal.loop-rest-preserved
loop-rest-preserved c = let t = c.in-Some.ensures in ap {B = Bytes} trim_start c.skip_spaces-left-in-Some.ensures ∙ trim_run c.in-Some.rest.now ∙ trim_on _ _ t.0 t.1 ∙ c.loop-rest.invariant

pub returns : goal.returns
returns c = sym (trim_here c.loop-rest.left.now c.in_default.ensures) ∙ c.loop-rest.invariant
