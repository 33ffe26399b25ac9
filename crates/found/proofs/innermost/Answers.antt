use mathlib.Core.Path.{◌∙◌, sym}
use native.Mathlib.Omega.{arith}
use Rattle.found.proofs.Places.{no_bytes}
use Rattle.found.proofs.FoundLaws.{inner_all, inner_step}
use Rattle.found.proofs.innermost.Goals as goal

pub loop-left-init : goal.loop-left-init
loop-left-init c = inner_all _ _

pub loop-left-preserved : goal.loop-left-preserved
loop-left-preserved c =
    inner_step c.loop-left.invariant (c.in-Some-eq49.ensures.steps) (omega arith) (no_bytes c.is_empty.ensures c.if-is_empty.true) c.loop-left-test.true (sym c.is_most.ensures ∙ c.if-is_most.true)
