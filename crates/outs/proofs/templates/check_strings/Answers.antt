-- `outs::templates::check_strings` meets its contract: the strings in front are passed, and so many are still to come. Assumes nothing.
use Prim.Native.Nat.{◌-◌}
use mathlib.Core.Path.{◌∙◌}
use native.Mathlib.Omega.{arith}
use Rattle.page.proofs.Steps.{exit_at, on_at}
use Rattle.outs.proofs.TemplateLaws.{string_next, string_other, string_missing, one_less, strings_end}
use Rattle.outs.proofs.templates.check_strings.Goals as goal

pub returns-in_err-check_text-in-Some-eq129 : goal.returns-in_err-check_text-in-Some-eq129
returns-in_err-check_text-in-Some-eq129 c = exit_at (string_next (c.args.count - c.loop.counter) c.in-Some-eq129.ensures.steps (omega arith) c.loop.invariant (omega arith)) c.check_text.ensures c.in_err-check_text-in-Some-eq129.was c.from_residual.ensures

pub returns-in-Some : goal.returns-in-Some
returns-in-Some c = string_other (c.args.count - c.loop.counter) c.in-Some.ensures.steps (omega arith) c.loop.invariant (λ z. omega (arith, z))

pub returns-in-None : goal.returns-in-None
returns-in-None c = c.check_missing.ensures ∙ string_missing (c.args.count - c.loop.counter) c.in-None.ensures.steps (omega arith) c.loop.invariant

pub loop-preserved : goal.loop-preserved
loop-preserved c =
    on_at (string_next (c.args.count - c.loop.counter) c.in-Some-eq129.ensures.steps (omega arith) c.loop.invariant (omega arith)) c.check_text.ensures c.in_ok-check_text-in-Some-eq129.was
    ∙ one_less c.args.count c.loop.counter _

pub returns : goal.returns
returns c = strings_end (c.args.count - c.loop.counter) _ (omega arith) c.loop.invariant c.check_end.ensures
