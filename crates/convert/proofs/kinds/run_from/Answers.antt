-- `kinds::run_from` meets its contract. The invariant is the contract at what is left. Assumes nothing.
use mathlib.Core.Path.{sym, ◌∙◌, subst}
use native.Mathlib.Omega.{arith}
use borrow.Author.Rules.{rules}
use borrow.Author.Tests.{tests}
use Rattle.convert.specs.Flat.{EndsRun}
use Rattle.convert.proofs.PlainLaws.{run_byte, run_block, front_is}
use Rattle.convert.proofs.kinds.run_from.Goals as goal

pub loop-block-preserved : goal.loop-block-preserved
loop-block-preserved c =
    let s = c.in-Some.ensures.cases in
    run_block c.loop-block.invariant s.0 s.1 (search (rules, tests)) (sym c.is_plain.ensures ∙ c.if-not-is_plain.false)

pub loop-left-preserved : goal.loop-left-preserved
loop-left-preserved c =
    run_byte (subst (EndsRun c.args.c c.args.s.now c.loop-left.last) (front_is c.loop-left.left.now (omega arith)) c.loop-left.invariant) (sym c.is_plain_byte.ensures ∙ c.if-not-is_plain_byte.false)
